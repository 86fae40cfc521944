-- Exact quotients of integers.
use Rattle.std.proofs.Common.{◌≡◌, ℕ, ◌<◌, ◌*◌, ◌/◌, zero, suc, pos, negsuc, ℤ, ◌*ℤ◌, ◌≤ℤ◌, ◌<ℤ◌, neg_ℤ, ap, arith}
use Rattle.std.specs.Prelude.{unsigned_abs}
use Rattle.std.specs.Int.{◌∣◌}
use Rattle.std.proofs.lemmas.Int.{ints}
use Rattle.std.proofs.Math.Nat.{eq-zero_of_zero-dvd}
use Rattle.std.proofs.lemmas.Nat.Gcd.{mod-eq-zero_of_dvd}

-- a divisor times the quotient is the number
pub times-quotient : (d n : ℕ) → 0 < d → d ∣ n → d * (n / d) ≡ n
times-quotient d n h e = omega (arith, mod-eq-zero_of_dvd d e)

pub quotient_positive : (d n : ℕ) → 0 < d → d ∣ n → 0 < n → 0 < n / d
quotient_positive d n h e k = go (n / d) (times-quotient d n h e)
  where
    go : (q : ℕ) → d * q ≡ n → 0 < q
    go zero m = omega arith
    go (suc q) m = omega arith

product_not_negative : (z : ℤ) (d q : ℕ) → pos 0 ≤ℤ z → d * q ≡ unsigned_abs z → pos d *ℤ pos q ≡ z
product_not_negative (pos n) d q h e = ap pos e
product_not_negative (negsuc n) d q h e = absurd (omega (arith, ints, h))

product_negative : (z : ℤ) (d q : ℕ) → z <ℤ pos 0 → d * q ≡ unsigned_abs z → pos d *ℤ neg_ℤ (pos q) ≡ z
product_negative (pos n) d q h e = absurd (omega (arith, ints, h))
product_negative (negsuc n) d zero h e = absurd (omega arith)
product_negative (negsuc n) d (suc q) h e = ap (λ k. neg_ℤ (pos k)) e

pub quotient-not_negative : (z : ℤ) (d s : ℕ) → 0 < d → s ≡ unsigned_abs z → d ∣ unsigned_abs z → pos 0 ≤ℤ z → pos d *ℤ pos (s / d) ≡ z
quotient-not_negative z d s p e h k = rw e (product_not_negative z d (unsigned_abs z / d) k (times-quotient d (unsigned_abs z) p h))

pub quotient-negative : (z : ℤ) (d s : ℕ) → 0 < d → s ≡ unsigned_abs z → d ∣ unsigned_abs z → z <ℤ pos 0 → pos d *ℤ neg_ℤ (pos (s / d)) ≡ z
quotient-negative z d s p e h k = rw e (product_negative z d (unsigned_abs z / d) k (times-quotient d (unsigned_abs z) p h))

size_of_negative : (z : ℤ) → z <ℤ pos 0 → 0 < unsigned_abs z
size_of_negative (pos n) h = absurd (omega (arith, ints, h))
size_of_negative (negsuc n) h = omega arith

pub quotient-of_negative_positive : (z : ℤ) (d s : ℕ) → 0 < d → s ≡ unsigned_abs z → d ∣ unsigned_abs z → z <ℤ pos 0 → 0 < s / d
quotient-of_negative_positive z d s p e h k = rw e (quotient_positive d (unsigned_abs z) p h (size_of_negative z k))

-- a divisor of a positive number is positive
pub divisor_of_positive : (g s : ℕ) (z : ℤ) → s ≡ unsigned_abs z → pos 0 <ℤ z → g ∣ s → 0 < g
divisor_of_positive zero s (pos n) e h d = absurd (omega (arith, ints, h, e, eq-zero_of_zero-dvd d))
divisor_of_positive zero s (negsuc n) e h d = absurd (omega (arith, ints, h))
divisor_of_positive (suc g) s z e h d = omega arith
