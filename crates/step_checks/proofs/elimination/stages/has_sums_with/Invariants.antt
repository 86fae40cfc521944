use Rattle.std.proofs.Common.{take, List}
use Rattle.std.specs.Prelude.{All}
use Rattle.linear_arith.specs.Inequality.{Inequality}
use Rattle.step_checks.specs.Sums.{HasReducedSum}
use Rattle.step_checks.specs.Sets.{IsSetOf}
use Rattle.step_checks.proofs.elimination.stages.has_sums_with.Given as goal

abbrev pub invariant-loop-i : goal.invariant-loop-i
invariant-loop-i l = (rows : List Inequality) → IsSetOf rows l.found → All (HasReducedSum rows l.unknown l.upper) (take l.i l.lowers)
