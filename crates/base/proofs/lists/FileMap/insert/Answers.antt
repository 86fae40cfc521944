use Rattle.std.proofs.Common.{◌∙◌, ap}
use Rattle.std.specs.FinMap as map
use Rattle.base.proofs.FinMapEntries.{from_entries-updates}
use Rattle.base.proofs.lists.FileMap.insert.Goals as goal

pub returns-clause-ok : goal.returns-clause-ok
returns-clause-ok c = from_entries-updates c.self.inside.files c.insert.new.self c.args.name c.args.bytes c.in_ok-insert.ensures.updates ∙ ap (λ m. map.insert m c.args.name c.args.bytes) c.self.view_is
