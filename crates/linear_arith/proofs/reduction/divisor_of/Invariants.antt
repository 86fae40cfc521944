use Rattle.std.proofs.Common.{◌<◌, ℕ, pos, get_or}
use Rattle.std.specs.Prelude.{unsigned_abs}
use Rattle.std.specs.Int.{◌∣◌}
use Rattle.linear_arith.proofs.reduction.divisor_of.Given as goal

abbrev pub invariant-loop-coefficient : goal.invariant-loop-coefficient
invariant-loop-coefficient l = record {
  bound : l.divisor ∣ unsigned_abs l.row.bound;
  before : (k : ℕ) → k < l.coefficient-index → l.divisor ∣ unsigned_abs (get_or l.row.coefficients k (pos 0));
  greatest : (d : ℕ) → d ∣ unsigned_abs l.row.bound → ((k : ℕ) → k < l.coefficient-index → d ∣ unsigned_abs (get_or l.row.coefficients k (pos 0))) → d ∣ l.divisor;
}
