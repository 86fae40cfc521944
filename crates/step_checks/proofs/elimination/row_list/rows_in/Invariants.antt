use Rattle.std.proofs.Common.{◌≡◌, take}
use Rattle.step_checks.specs.Given.{rows_of}
use Rattle.step_checks.proofs.elimination.row_list.rows_in.Given as goal

abbrev pub invariant-loop-one : goal.invariant-loop-one
invariant-loop-one l = l.rows ≡ rows_of (take l.one-index l.made)
