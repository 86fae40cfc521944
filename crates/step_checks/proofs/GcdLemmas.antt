-- Greatest common divisors of two numbers and of the numbers of a row.
use Rattle.std.proofs.Common.{◌≡◌, ℕ, zero, suc, ◌*◌, ◌/◌, ◌%◌, ◌<◌, List, [], ◌∷◌, length, pos, ℤ, ◌*ℤ◌, refl, sym, ap, ◌∙◌, subst, arith, inl, inr}
use Rattle.std.specs.Prelude.{unsigned_abs}
use Rattle.std.specs.Int.{IsGcd, ◌∣◌}
use Rattle.std.proofs.Math.Nat.{dvd-mul_right, mul-dvd-mul_left, dvd_of_mul-dvd-mul_left}
use Rattle.std.proofs.lemmas.Int.{unsigned_abs-mul}
use Rattle.std.proofs.lemmas.Nat.Gcd.{dvd_refl, dvd-zero, dvd_trans, dvd_antisymm, IsGcd-from_zero, IsGcd-from_mod}
use Rattle.std.proofs.lemmas.List.Elements.{All-nil, All-cons, All-head, All-tail}
use Rattle.linear_arith.specs.Inequality.{Inequality, coefficient}
use Rattle.linear_arith.specs.Reduction.{DividesRow, IsGcdOfRow, IsTimes}
use Rattle.linear_arith.proofs.ListLemmas.{get_or-any_default, get_or-past, below_or_past}
use Rattle.linear_arith.proofs.NumberLemmas.{times-quotient}

-- two numbers have a greatest common divisor
pub record HasGcd (a b : ℕ) : Type 0 where
  pub divisor : ℕ
  pub is_gcd : IsGcd a b divisor

gcd_within : (n a b : ℕ) → b < n → HasGcd a b
gcd_within zero a b h = absurd (omega (arith, h))
gcd_within (suc n) a zero h = record { divisor = a; is_gcd = IsGcd-from_zero a 0 refl }
gcd_within (suc n) a (suc b) h =
    let less : a % suc b < n = omega (arith, h) in
    let rest = gcd_within n (suc b) (a % suc b) less in
    record { divisor = rest.divisor; is_gcd = IsGcd-from_mod a (suc b) rest.divisor rest.is_gcd }

pub has_gcd : (a b : ℕ) → HasGcd a b
has_gcd a b = gcd_within (suc b) a b (omega arith)

-- k times two numbers have k times their greatest common divisor
pub gcd_times : (k a b g : ℕ) → 0 < k → IsGcd a b g → IsGcd (k * a) (k * b) (k * g)
gcd_times k a b g p h =
    let other = has_gcd (k * a) (k * b) in
    let n = other.divisor in
    let multiple : k * g ∣ n = other.is_gcd.2 (k * g) (mul-dvd-mul_left g k h.0) (mul-dvd-mul_left g k h.1) in
    let divides : k ∣ n = dvd_trans k (dvd-mul_right k g) multiple in
    let e : k * (n / k) ≡ n = times-quotient k n p divides in
    let one : n / k ∣ a = dvd_of_mul-dvd-mul_left (n / k) p (subst (λ (m : ℕ). m ∣ k * a) (sym e) other.is_gcd.0) in
    let two : n / k ∣ b = dvd_of_mul-dvd-mul_left (n / k) p (subst (λ (m : ℕ). m ∣ k * b) (sym e) other.is_gcd.1) in
    let whole : n ∣ k * g = subst (λ (m : ℕ). m ∣ k * g) e (mul-dvd-mul_left (n / k) k (h.2 (n / k) one two)) in
    (mul-dvd-mul_left g k h.0, mul-dvd-mul_left g k h.1, λ d x y. dvd_trans d (other.is_gcd.2 d x y) whole)

-- the numbers of a row have a greatest common divisor
pub record HasRowGcd (row : Inequality) : Type 0 where
  pub divisor : ℕ
  pub is_gcd : IsGcdOfRow row divisor

abbrev row_with : List ℤ → ℤ → Inequality
row_with numbers bound = record { coefficients = numbers; bound = bound }

gcd_of_numbers : (numbers : List ℤ) (bound : ℤ) → HasRowGcd (row_with numbers bound)
gcd_of_numbers [] bound = record {
  divisor = unsigned_abs bound;
  is_gcd = record {
    divides = record { coefficients = All-nil (λ (c : ℤ). unsigned_abs bound ∣ unsigned_abs c); bound = dvd_refl (unsigned_abs bound) };
    greatest = λ d h. h.bound;
  };
}
gcd_of_numbers (c ∷ numbers) bound =
    let rest = gcd_of_numbers numbers bound in
    let both = has_gcd (unsigned_abs c) rest.divisor in
    record {
      divisor = both.divisor;
      is_gcd = record {
        divides = record {
          coefficients = All-cons (λ (z : ℤ). both.divisor ∣ unsigned_abs z) c numbers both.is_gcd.0 (λ k d l. dvd_trans both.divisor both.is_gcd.1 (rest.is_gcd.divides.coefficients k d l));
          bound = dvd_trans both.divisor both.is_gcd.1 rest.is_gcd.divides.bound;
        };
        greatest = λ d h. both.is_gcd.2 d (All-head (λ (z : ℤ). d ∣ unsigned_abs z) c numbers h.coefficients) (rest.is_gcd.greatest d (record { coefficients = All-tail (λ (z : ℤ). d ∣ unsigned_abs z) c numbers h.coefficients; bound = h.bound }));
      };
    }

pub gcd_of_row : (row : Inequality) → HasRowGcd row
gcd_of_row row = gcd_of_numbers row.coefficients row.bound

-- a number divides the row exactly if it divides each coefficient
pub divides_each : (d : ℕ) (row : Inequality) → DividesRow d row → (u : ℕ) → d ∣ unsigned_abs (coefficient u row)
divides_each d row h u = elim (below_or_past u (length row.coefficients)) [
  | inl l ↦ h.coefficients u (pos 0) l
  | inr l ↦ subst (λ (z : ℤ). d ∣ unsigned_abs z) (sym (get_or-past row.coefficients u (pos 0) l)) (dvd-zero d)
]

pub divides_row : (d : ℕ) (row : Inequality) → ((u : ℕ) → d ∣ unsigned_abs (coefficient u row)) → d ∣ unsigned_abs row.bound → DividesRow d row
divides_row d row each bound = record {
  coefficients = λ k e l. subst (λ (z : ℤ). d ∣ unsigned_abs z) (get_or-any_default row.coefficients k (pos 0) e l) (each k);
  bound = bound;
}

size_times : (k : ℕ) (a b : ℤ) → pos k *ℤ a ≡ b → unsigned_abs b ≡ k * unsigned_abs a
size_times k a b e = sym (ap unsigned_abs e) ∙ unsigned_abs-mul (pos k) a

multiple_divides : (k d : ℕ) (a b : ℤ) → pos k *ℤ a ≡ b → d ∣ unsigned_abs a → k * d ∣ unsigned_abs b
multiple_divides k d a b e h = subst (λ (n : ℕ). k * d ∣ n) (sym (size_times k a b e)) (mul-dvd-mul_left d k h)

quotient_divides : (k d : ℕ) (a b : ℤ) → 0 < k → pos k *ℤ a ≡ b → k * d ∣ unsigned_abs b → d ∣ unsigned_abs a
quotient_divides k d a b p e h = dvd_of_mul-dvd-mul_left d p (subst (λ (n : ℕ). k * d ∣ n) (size_times k a b e) h)

-- k times a row has k times its greatest common divisor
pub row_gcd_times : (k g : ℕ) (row total : Inequality) → 0 < k → IsTimes k row total → IsGcdOfRow row g → IsGcdOfRow total (k * g)
row_gcd_times k g row total p t h =
    let other = gcd_of_row total in
    let n = other.divisor in
    let o = other.is_gcd in
    let divides : DividesRow (k * g) total = divides_row (k * g) total (λ u. multiple_divides k g _ _ (t.coefficients u) (divides_each g row h.divides u)) (multiple_divides k g _ _ t.bound h.divides.bound) in
    let multiple : k * g ∣ n = o.greatest (k * g) divides in
    let e : k * (n / k) ≡ n = times-quotient k n p (dvd_trans k (dvd-mul_right k g) multiple) in
    let parts : DividesRow (k * (n / k)) total = subst (λ (m : ℕ). DividesRow m total) (sym e) o.divides in
    let quotient : n / k ∣ g = h.greatest (n / k) (divides_row (n / k) row (λ u. quotient_divides k (n / k) _ _ p (t.coefficients u) (divides_each (k * (n / k)) total parts u)) (quotient_divides k (n / k) _ _ p t.bound parts.bound)) in
    let whole : n ∣ k * g = subst (λ (m : ℕ). m ∣ k * g) e (mul-dvd-mul_left (n / k) k quotient) in
    record { divides = divides; greatest = λ d x. dvd_trans d (o.greatest d x) whole }

-- the greatest common divisor is unique
pub one_row_gcd : (row : Inequality) (g h : ℕ) → IsGcdOfRow row g → IsGcdOfRow row h → g ≡ h
one_row_gcd row g h a b = dvd_antisymm (b.greatest g a.divides) (a.greatest h b.divides)
