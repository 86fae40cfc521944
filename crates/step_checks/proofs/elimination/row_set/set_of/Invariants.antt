use Rattle.std.proofs.Common.{take}
use Rattle.linear_arith.specs.Elimination.{AreDifferent}
use Rattle.step_checks.specs.Sets.{IsSetOf}
use Rattle.step_checks.proofs.elimination.row_set.set_of.Given as goal

abbrev pub invariant-loop-i : goal.invariant-loop-i
invariant-loop-i l = record {
  set : IsSetOf (take l.i l.rows) l.set;
  different : AreDifferent (take l.i l.rows);
}
