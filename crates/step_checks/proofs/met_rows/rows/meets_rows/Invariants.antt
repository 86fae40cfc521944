use Rattle.std.proofs.Common.{take}
use Rattle.std.specs.Prelude.{All}
use Rattle.linear_arith.specs.Substitution.{Meets}
use Rattle.step_checks.proofs.met_rows.rows.meets_rows.Given as goal

abbrev pub invariant-loop-row : goal.invariant-loop-row
invariant-loop-row l = All (Meets l.values) (take l.row-index l.row-items)
