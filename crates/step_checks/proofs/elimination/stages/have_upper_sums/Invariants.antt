use Rattle.std.proofs.Common.{take, List}
use Rattle.std.specs.Prelude.{All}
use Rattle.linear_arith.specs.Inequality.{Inequality}
use Rattle.step_checks.specs.Sets.{IsSetOf}
use Rattle.step_checks.specs.Stages.{HasUpperSums}
use Rattle.step_checks.proofs.elimination.stages.have_upper_sums.Given as goal

abbrev pub invariant-loop-i : goal.invariant-loop-i
invariant-loop-i l = (rows : List Inequality) → IsSetOf rows l.found → All (HasUpperSums rows l.eliminated l.unknown l.lowers) (take l.i l.uppers)
