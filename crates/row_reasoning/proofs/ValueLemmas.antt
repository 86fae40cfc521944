-- Whole values, and the whole numbers below the others.
use Rattle.std.proofs.Common.{◌≡◌, ◌⊎◌, inl, inr, ℕ, zero, suc, ◌-◌, ◌*◌, ◌^◌, ◌<◌, ◌≤◌, ◌/◌, pos, negsuc, ℤ, ◌+ℤ◌, ◌-ℤ◌, ◌*ℤ◌, ◌≤ℤ◌, ◌<ℤ◌, neg_ℤ, refl, sym, ap, ◌∙◌, subst, arith}
use Rattle.std.specs.Prelude.{◌%◌, unsigned_abs}
use Rattle.std.proofs.Math.IntN.{*ℤ_comm}
use Rattle.std.proofs.Math.Nat.{mul-mod_right, le-mul_of_pos_right}
use Rattle.std.proofs.lemmas.Int.{ints, unsigned_abs-mul}
use Rattle.std.proofs.lemmas.Nat.Gcd.{dvd_of_mod-eq-zero}
use Rattle.linear_arith.specs.Floor.{IsFloor}
use Rattle.linear_arith.specs.declared.rows.Fraction.{Fraction}
use Rattle.linear_arith.proofs.NumberLemmas.{quotient-not_negative, quotient-negative}
use Rattle.certificates.specs.Rows.{IsWholeValue}
use Rattle.certificates.specs.ProofTraces.{IsBetween}

-- a positive number is its absolute value
pub positive_abs : (z : ℤ) → pos 0 <ℤ z → z ≡ pos (unsigned_abs z)
positive_abs (pos n) h = refl
positive_abs (negsuc n) h = absurd (omega (arith, ints, h))

pub abs_positive : (z : ℤ) → pos 0 <ℤ z → 0 < unsigned_abs z
abs_positive (pos n) h = omega (arith, ints, h)
abs_positive (negsuc n) h = absurd (omega (arith, ints, h))

above_zero : (z : ℤ) → (pos 0 <ℤ z) ⊎ (z ≤ℤ pos 0)
above_zero (pos zero) = inr (omega (arith, ints))
above_zero (pos (suc n)) = inl (omega (arith, ints))
above_zero (negsuc n) = inr (omega (arith, ints))

strictly : (x n : ℤ) → x ≤ℤ n → (x ≡ n → ⊥) → x <ℤ n
strictly x n h e = elim (above_zero (n -ℤ x)) [
  | inl w ↦ omega (arith, ints, w)
  | inr w ↦ absurd (e (omega (arith, ints, w, h)))
]

-- the denominator divides the numerator
whole_at : (v : Fraction) (d : ℕ) → 0 < d → v.denominator ≡ pos d → unsigned_abs v.numerator % d ≡ 0 → IsWholeValue v
whole_at v d positive is rest = elim (above_zero (pos 1 +ℤ v.numerator)) [
  | inl w ↦ (
      let h : pos 0 ≤ℤ v.numerator = omega (arith, ints, w) in
      let q = quotient-not_negative v.numerator d (unsigned_abs v.numerator) positive refl (dvd_of_mod-eq-zero d rest) h in
      whole (pos (unsigned_abs v.numerator / d)) q)
  | inr w ↦ (
      let h : v.numerator <ℤ pos 0 = omega (arith, ints, w) in
      let q = quotient-negative v.numerator d (unsigned_abs v.numerator) positive refl (dvd_of_mod-eq-zero d rest) h in
      whole (neg_ℤ (pos (unsigned_abs v.numerator / d))) q)
]
  where
    whole : (z : ℤ) → pos d *ℤ z ≡ v.numerator → IsWholeValue v
    whole z e = record { number = z; is = sym e ∙ *ℤ_comm (pos d) z ∙ ap (λ x. z *ℤ x) (sym is) }

pub is_whole : (v : Fraction) → pos 0 <ℤ v.denominator → unsigned_abs v.numerator % unsigned_abs v.denominator ≡ 0 → IsWholeValue v
is_whole v h rest = whole_at v (unsigned_abs v.denominator) (abs_positive v.denominator h) (positive_abs v.denominator h) rest

-- the denominator does not divide the numerator
pub is_between : (v : Fraction) (k : ℤ) → pos 0 <ℤ v.denominator → (unsigned_abs v.numerator % unsigned_abs v.denominator ≡ 0 → ⊥) → IsFloor v.numerator (unsigned_abs v.denominator) k → IsBetween k v
is_between v k h rest f = record {
  above = subst (λ x. x <ℤ v.numerator) (turned k) (strictly (pos d *ℤ k) v.numerator f.below never);
  below = subst (λ x. v.numerator <ℤ x) (turned (k +ℤ pos 1)) f.above;
}
  where
    d : ℕ
    d = unsigned_abs v.denominator

    turned : (z : ℤ) → pos d *ℤ z ≡ z *ℤ v.denominator
    turned z = *ℤ_comm (pos d) z ∙ ap (λ x. z *ℤ x) (sym (positive_abs v.denominator h))

    never : pos d *ℤ k ≡ v.numerator → ⊥
    never e = rest (ap (λ x. unsigned_abs x % d) (sym e) ∙ ap (λ x. x % d) (unsigned_abs-mul (pos d) k) ∙ mul-mod_right d (unsigned_abs k))

-- ---- the same, by the numbers of a value

pub is_whole_by : (numerator denominator : ℤ) (n d : ℕ) → n ≡ unsigned_abs numerator → d ≡ unsigned_abs denominator → pos 0 <ℤ denominator → n % d ≡ 0 → (v : Fraction) → v.numerator ≡ numerator → v.denominator ≡ denominator → IsWholeValue v
is_whole_by numerator denominator n d e f h rest v top bottom =
    is_whole v (subst (λ z. pos 0 <ℤ z) (sym bottom) h) ((λ i. unsigned_abs (top i) % unsigned_abs (bottom i)) ∙ (λ i. sym e i % sym f i) ∙ rest)

pub is_between_by : (numerator denominator : ℤ) (n d : ℕ) (k : ℤ) → n ≡ unsigned_abs numerator → d ≡ unsigned_abs denominator → pos 0 <ℤ denominator → (n % d ≡ 0 → ⊥) → IsFloor numerator d k → (v : Fraction) → v.numerator ≡ numerator → v.denominator ≡ denominator → IsBetween k v
is_between_by numerator denominator n d k e f h rest floor v top bottom =
    is_between v k (subst (λ z. pos 0 <ℤ z) (sym bottom) h) (λ q. rest ((λ i. e i % f i) ∙ (λ i. unsigned_abs (sym top i) % unsigned_abs (sym bottom i)) ∙ q))
    (subst (λ x. IsFloor v.numerator x k) (f ∙ ap unsigned_abs (sym bottom)) (subst (λ z. IsFloor z d k) (sym top) floor))

-- below a quotient of numbers of 128 bits there is another number, and the next one fits too
pub next_fits : (k n d : ℤ) → pos 0 <ℤ d → (k *ℤ d) <ℤ n → n <ℤ pos (2 ^ 127) → k <ℤ pos (2 ^ 127 - 1)
next_fits (negsuc m) n d positive between top = omega (arith, ints)
next_fits (pos m) n (negsuc e) positive between top = absurd (omega (arith, ints, positive))
next_fits (pos m) n (pos e) positive between top =
    let grows : m ≤ m * e = le-mul_of_pos_right m (omega (arith, ints, positive)) in
    let product : pos (m * e) <ℤ n = between in
    omega (arith, ints, grows, product, top)
