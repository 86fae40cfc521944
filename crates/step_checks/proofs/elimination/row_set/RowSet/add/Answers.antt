use Rattle.step_checks.proofs.SetLemmas.{set_grown, set_fresh}
use Rattle.step_checks.proofs.elimination.row_set.RowSet.add.Goals as goal

pub returns-clause-rows : goal.returns-clause-rows
returns-clause-rows c = λ rows s. set_grown rows c.args.self.now (record { keys = c.insert.new.self }) c.in_ok-key_of.field-0 c.args.row.now s c.in_ok-key_of.ensures c.in_ok-insert.ensures.updates

pub returns-clause-fresh : goal.returns-clause-fresh
returns-clause-fresh c = λ rows s. set_fresh rows c.args.self.now c.in_ok-key_of.field-0 c.args.row.now c.in_ok-insert.field-0 s c.in_ok-key_of.ensures c.in_ok-insert.ensures.added
