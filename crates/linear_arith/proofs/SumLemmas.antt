-- The least multipliers with which two numbers cancel.
use Rattle.std.proofs.Common.{◌≡◌, ℕ, ◌+◌, ◌*◌, ◌/◌, ◌<◌, pos, negsuc, ℤ, ◌+ℤ◌, ◌*ℤ◌, ◌<ℤ◌, ap, sym, ◌∙◌, subst, arith}
use Rattle.std.specs.Prelude.{unsigned_abs}
use Rattle.std.specs.Int.{IsGcd, ◌∣◌}
use Rattle.std.proofs.lemmas.Int.{ints}
use Rattle.std.proofs.Math.Nat.{dvd-mul_right, mul-dvd-mul_left, dvd_of_mul-dvd-mul_left, eq-zero_of_zero-dvd}
use Rattle.linear_arith.specs.Elimination.{Cancels}
use Rattle.linear_arith.proofs.NumberLemmas.{times-quotient, quotient_positive}

one_divides : (n : ℕ) → 1 ∣ n
one_divides n = subst (λ (m : ℕ). 1 ∣ m) (let e : 1 * n ≡ n = omega arith in e) (dvd-mul_right 1 n)

-- the quotients by the greatest common divisor have no common divisor but 1
quotients_coprime : (g m n : ℕ) → 0 < g → IsGcd m n g → IsGcd (n / g) (m / g) 1
quotients_coprime g m n p h = (
  one_divides (n / g),
  one_divides (m / g),
  λ d a b.
      let e : g * (n / g) ≡ n = times-quotient g n p h.1 in
      let f : g * (m / g) ≡ m = times-quotient g m p h.0 in
      let x : g * d ∣ n = subst (λ (k : ℕ). g * d ∣ k) e (mul-dvd-mul_left d g a) in
      let y : g * d ∣ m = subst (λ (k : ℕ). g * d ∣ k) f (mul-dvd-mul_left d g b) in
      let z : g * d ∣ g * 1 = subst (λ (k : ℕ). g * d ∣ k) (let o : g ≡ g * 1 = omega arith in o) (h.2 (g * d) y x) in
      dvd_of_mul-dvd-mul_left d p z,
)

cancelling_sum : (a b : ℤ) (g m n p q : ℕ) → pos 0 <ℤ a → b <ℤ pos 0 → m ≡ unsigned_abs a → n ≡ unsigned_abs b → g * p ≡ n → g * q ≡ m → (pos p *ℤ a) +ℤ (pos q *ℤ b) ≡ pos 0
cancelling_sum (pos a) (pos b) g m n p q h k e f s t = absurd (omega (arith, ints, k))
cancelling_sum (pos a) (negsuc b) g m n p q h k e f s t =
    let l : p * a ≡ q * (b + 1) = product (omega arith) (omega arith) in
    omega (arith, ints, l)
  where
    product : g * q ≡ a → g * p ≡ b + 1 → p * a ≡ q * (b + 1)
    product x y = ap (λ (z : ℕ). p * z) (sym x) ∙ (let o : p * (g * q) ≡ q * (g * p) = omega arith in o) ∙ ap (λ (z : ℕ). q * z) y
cancelling_sum (negsuc a) b g m n p q h k e f s t = absurd (omega (arith, ints, h))

size_above : (a : ℤ) → pos 0 <ℤ a → 0 < unsigned_abs a
size_above (pos a) h = omega (arith, ints, h)
size_above (negsuc a) h = absurd (omega (arith, ints, h))

size_below : (b : ℤ) → b <ℤ pos 0 → 0 < unsigned_abs b
size_below (pos b) h = absurd (omega (arith, ints, h))
size_below (negsuc b) h = omega arith

pub cancels_by_sizes : (a b : ℤ) (g m n : ℕ) → 0 < g → m ≡ unsigned_abs a → n ≡ unsigned_abs b → IsGcd m n g → pos 0 <ℤ a → b <ℤ pos 0 → Cancels a b (n / g) (m / g)
cancels_by_sizes a b g m n p e f h above below =
    let m_positive : 0 < m = subst (λ (k : ℕ). 0 < k) (sym e) (size_above a above) in
    let n_positive : 0 < n = subst (λ (k : ℕ). 0 < k) (sym f) (size_below b below) in
    record {
      first_positive = quotient_positive g n p h.1 n_positive;
      second_positive = quotient_positive g m p h.0 m_positive;
      cancels = cancelling_sum a b g m n (n / g) (m / g) above below e f (times-quotient g n p h.1) (times-quotient g m p h.0);
      least = quotients_coprime g m n p h;
    }

-- two numbers of which one is above 0 have a greatest common divisor above 0
pub no_zero_divisor : (a : ℤ) (m n : ℕ) → m ≡ unsigned_abs a → IsGcd m n 0 → pos 0 <ℤ a → ⊥
no_zero_divisor a m n e h above =
    let z = eq-zero_of_zero-dvd h.0 in
    let s = size_above a above in
    omega (arith, z, e, s)
