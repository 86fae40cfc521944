use Rattle.std.proofs.Common.{◌∙◌, ap}
use Rattle.std.specs.FinMap as map
use Rattle.base.proofs.FinMapEntries.{get-tree}
use Rattle.scopes.proofs.addresses.Addresses.get.Goals as goal

pub returns : goal.returns
returns c = c.copied.ensures ∙ c.get.ensures.value ∙ get-tree c.self.inside.numbers c.args.name.now ∙ ap (λ m. map.get m c.args.name.now) c.self.view_is
