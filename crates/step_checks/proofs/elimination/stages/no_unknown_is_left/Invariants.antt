use Rattle.std.proofs.Common.{take}
use Rattle.std.specs.Prelude.{All}
use Rattle.step_checks.specs.Given.{HasNoneLeft}
use Rattle.step_checks.proofs.elimination.stages.no_unknown_is_left.Given as goal

abbrev pub invariant-loop-i : goal.invariant-loop-i
invariant-loop-i l = All (HasNoneLeft l.unknowns) (take l.i l.rows)
