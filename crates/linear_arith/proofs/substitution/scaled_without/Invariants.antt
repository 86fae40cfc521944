use Rattle.std.proofs.Common.{◌≡◌, ◌≢◌, ◌<◌, ℕ, pos, ◌*ℤ◌, length, get_or}
use Rattle.std.specs.Prelude.{if◌then◌else◌, ◌==◌}
use Rattle.linear_arith.specs.Fits.{Fits}
use Rattle.linear_arith.proofs.substitution.scaled_without.Given as goal

abbrev pub invariant-loop-i : goal.invariant-loop-i
invariant-loop-i l = record {
  len : length l.coefficients.items ≡ l.i;
  made : (k : ℕ) → k < l.i → get_or l.coefficients.items k (pos 0) ≡ (if k == l.unknown then pos 0 else (l.factor *ℤ get_or l.row.coefficients k (pos 0)));
  fits : (k : ℕ) → k < l.i → k ≢ l.unknown → Fits (l.factor *ℤ get_or l.row.coefficients k (pos 0));
}
