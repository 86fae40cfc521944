use Rattle.std.proofs.Common.{ℕ, ◌<◌, get_or, pos}
use Rattle.linear_arith.specs.Fits.{Fits}
use Rattle.linear_arith.proofs.numbers.are_fitting.Given as goal

abbrev pub invariant-loop-number : goal.invariant-loop-number
invariant-loop-number l = (k : ℕ) → k < l.number-index → Fits (get_or l.numbers k (pos 0))
