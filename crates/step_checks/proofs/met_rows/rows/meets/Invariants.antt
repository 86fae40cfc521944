use Rattle.std.proofs.Common.{take}
use Rattle.linear_arith.specs.Substitution.{form_of, put_in_all}
use Rattle.step_checks.specs.Rests.{IsRestOf}
use Rattle.step_checks.proofs.met_rows.rows.meets.Given as goal

abbrev pub invariant-loop-value : goal.invariant-loop-value
invariant-loop-value l = IsRestOf (put_in_all (form_of l.row) (take l.value-index l.values)) l.rest
