use Rattle.std.proofs.Common.{◌∙◌, ap}
use Rattle.std.specs.FinMap as map
use Rattle.base.proofs.FinMapEntries.{get-tree}
use Rattle.base.proofs.lists.FileMap.get.Goals as goal

pub returns : goal.returns
returns c = c.get.ensures.value ∙ get-tree c.self.inside.files c.args.name.now ∙ ap (λ m. map.get m c.args.name.now) c.self.view_is
