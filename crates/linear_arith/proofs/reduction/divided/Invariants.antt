use Rattle.std.proofs.Common.{◌≡◌, ◌<◌, ℕ, pos, ◌*ℤ◌, vec_len, get_or}
use Rattle.linear_arith.proofs.reduction.divided.Given as goal

abbrev pub invariant-loop-coefficient : goal.invariant-loop-coefficient
invariant-loop-coefficient l = record {
  len : vec_len l.coefficients ≡ l.coefficient-index;
  quotients : (k : ℕ) → k < l.coefficient-index → pos l.divisor *ℤ get_or l.coefficients.items k (pos 0) ≡ get_or l.row.coefficients k (pos 0);
}
