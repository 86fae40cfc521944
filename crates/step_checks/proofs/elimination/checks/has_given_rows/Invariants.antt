use Rattle.std.proofs.Common.{take, List}
use Rattle.std.specs.Prelude.{All, Contains}
use Rattle.linear_arith.specs.Inequality.{Inequality, padded}
use Rattle.step_checks.specs.Sets.{IsSetOf}
use Rattle.step_checks.proofs.elimination.checks.has_given_rows.Given as goal

abbrev pub invariant-loop-row : goal.invariant-loop-row
invariant-loop-row l = (rows : List Inequality) → IsSetOf rows l.found → All (λ row. Contains rows (padded l.width row)) (take l.row-index l.given)
