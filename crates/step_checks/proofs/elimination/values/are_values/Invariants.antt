use Rattle.step_checks.proofs.ValueLemmas.{IsChoosing}
use Rattle.step_checks.proofs.elimination.values.are_values.Given as goal

abbrev pub invariant-loop-i : goal.invariant-loop-i
invariant-loop-i l = IsChoosing l.rows l.unknowns l.values l.i l.left
