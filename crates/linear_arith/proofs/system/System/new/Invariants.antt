use Rattle.std.proofs.Common.{◌≤◌, ◌<◌, ℕ, length, get_or}
use Rattle.linear_arith.specs.Inequality.{Inequality}
use Rattle.linear_arith.proofs.system.System.new.Given as goal

abbrev pub invariant-loop-row : goal.invariant-loop-row
invariant-loop-row l = (k : ℕ) (d : Inequality) → k < l.row-index → length (get_or l.rows k d).coefficients ≤ l.width
