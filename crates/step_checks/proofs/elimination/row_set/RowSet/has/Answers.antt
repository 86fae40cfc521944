use Rattle.step_checks.proofs.SetLemmas.{set_has}
use Rattle.step_checks.proofs.elimination.row_set.RowSet.has.Goals as goal

pub returns : goal.returns
returns c = λ rows s. set_has rows c.args.self.now c.in_ok-key.key c.args.row.now c.contains.result s c.in_ok-key.ensures c.contains.ensures
