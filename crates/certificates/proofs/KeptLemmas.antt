-- Arithmetic within 128 bits by the tests of numbers.
use Rattle.std.proofs.Common.{◌≡◌, ℕ, ℤ, pos, negsuc, ◌+ℤ◌, ◌-ℤ◌, ◌^◌, ◌<◌, suc, Bool, true, false, cond, nat_lt, Option, Some, None, refl, sym, ap, ◌∙◌, subst, arith, inl, inr}
use Rattle.std.specs.Option.{SomeIff}
use Rattle.std.proofs.lemmas.Bool.{cases_lt, lt-ltb, le-ltb, ltb-true}
use Rattle.std.proofs.lemmas.Int.{ints}
use Rattle.linear_arith.specs.Fits.{Fits}
use Rattle.certificates.specs.Linear.{kept, kept_of, weight, gap_weight, Part, Row, row_weight}

if_true : (b : Bool) (z : ℤ) → b ≡ true → cond b (Some z) None ≡ Some z
if_true true z e = refl
if_true false z e = absurd (cc)

if_false : (b : Bool) (z : ℤ) → b ≡ false → cond b (Some z) None ≡ None
if_false true z e = absurd (cc)
if_false false z e = refl

kept_fitting : (z : ℤ) → Fits z → kept z ≡ Some z
kept_fitting (pos n) f = if_true (nat_lt n (2 ^ 127)) (pos n) (let h : n < 2 ^ 127 = omega (arith, ints, f) in lt-ltb n (2 ^ 127) h)
kept_fitting (negsuc n) f = if_true (nat_lt (suc n) (2 ^ 127)) (negsuc n) (let h : suc n < 2 ^ 127 = omega (arith, ints, f) in lt-ltb (suc n) (2 ^ 127) h)

kept_leaving : (z : ℤ) → ¬ (Fits z) → kept z ≡ None
kept_leaving (pos n) g = elim (cases_lt n (2 ^ 127)) [
  | inl l ↦ absurd (g (omega (arith, ints), omega (arith, ints, l)))
  | inr l ↦ if_false (nat_lt n (2 ^ 127)) (pos n) (le-ltb n (2 ^ 127) l)
]
kept_leaving (negsuc n) g = elim (cases_lt (suc n) (2 ^ 127)) [
  | inl l ↦ absurd (g (omega (arith, ints, l), omega (arith, ints)))
  | inr l ↦ if_false (nat_lt (suc n) (2 ^ 127)) (negsuc n) (le-ltb (suc n) (2 ^ 127) l)
]

-- an optional number that is present exactly when it fits is the kept one
pub is_kept : (r : Option ℤ) (z : ℤ) → SomeIff r (Fits z) z → r ≡ kept z
is_kept None z h = sym (kept_leaving z h)
is_kept (Some x) z h = ap Some h.1 ∙ sym (kept_fitting z h.0)

-- a kept number fits
by_size : (n m : ℕ) (b : Bool) (z y : ℤ) → nat_lt n m ≡ b → (n < m → Fits z) → cond b (Some z) None ≡ Some y → Fits y
by_size n m true z y t f e = subst (λ (x : ℤ). Fits x) (let s : z ≡ y = cc in s) (f (ltb-true n m t))
by_size n m false z y t f e = absurd (cc)

kept_fits : (z y : ℤ) → kept z ≡ Some y → Fits y
kept_fits (pos n) y e = by_size n (2 ^ 127) (nat_lt n (2 ^ 127)) (pos n) y refl (λ l. (omega (arith, ints), omega (arith, ints, l))) e
kept_fits (negsuc n) y e = by_size (suc n) (2 ^ 127) (nat_lt (suc n) (2 ^ 127)) (negsuc n) y refl (λ l. (omega (arith, ints, l), omega (arith, ints))) e

kept_of_fits : (op : ℤ → ℤ → ℤ) (x y : Option ℤ) (z : ℤ) → kept_of op x y ≡ Some z → Fits z
kept_of_fits op None y z e = absurd (cc)
kept_of_fits op (Some a) None z e = absurd (cc)
kept_of_fits op (Some a) (Some b) z e = kept_fits (op a b) z e

-- the numbers of a row fit
pub row_fits : (part : Part) (row : Option Row) (z : ℤ) → row_weight part row ≡ Some z → Fits z
row_fits part None z e = absurd (cc)
row_fits part (Some row) z e = kept_of_fits ◌+ℤ◌ (kept_of ◌-ℤ◌ (weight part row.lesser) (weight part row.greater)) (gap_weight part row.gap) z e

-- a number fits if its opposite does
pub opposite_fits : (z : ℤ) → Fits (pos 0 -ℤ z) → Fits z
opposite_fits z f = (omega (arith, ints, f), omega (arith, ints, f))
