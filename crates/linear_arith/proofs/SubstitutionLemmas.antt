-- Constraints after the substitution of values, compared with forms without a division.
use Rattle.std.proofs.Common.{◌≡◌, ℕ, zero, suc, ◌<◌, Bool, true, false, pos, ℤ, ◌-ℤ◌, ◌*ℤ◌, ◌<ℤ◌, refl, sym, ap, ◌∙◌, subst, arith, ◌⊎◌, inl, inr}
use Rattle.std.specs.Prelude.{if◌then◌else◌, ◌==◌}
use Rattle.std.proofs.Math.IntN.{*ℤ-zero, zero-*ℤ}
use Rattle.std.proofs.lemmas.Int.{ints}
use Rattle.std.proofs.lemmas.Bool.{eqb-true}
use Rattle.linear_arith.specs.Inequality.{Inequality, coefficient}
use Rattle.linear_arith.specs.Reduction.{IsReduced}
use Rattle.linear_arith.specs.Substitution.{LinearForm, form_of, put_in, IsRatio}
use Rattle.linear_arith.specs.declared.rows.Fraction.{Fraction}
use Rattle.base.proofs.WholeNumbers.{mul_assoc, mul_sub, mul_positive, mul_swap, one_mul}

zero_or_positive : (n : ℕ) → (n ≡ 0) ⊎ (0 < n)
zero_or_positive zero = inl refl
zero_or_positive (suc n) = inr (omega arith)

positive_pos : (n : ℕ) → 0 < n → pos 0 <ℤ pos n
positive_pos n h = omega (arith, ints, h)

pub itself : (row : Inequality) → IsRatio (form_of row) row
itself row = record {
  scale = pos 1;
  positive = positive_pos 1 (omega arith);
  coefficients = λ u. one_mul (coefficient u row);
  bound = one_mul row.bound;
}

-- a reduced constraint is the constraint up to a positive factor
pub ratio_of_reduced : (row reduced : Inequality) → IsReduced row reduced → IsRatio (form_of row) reduced
ratio_of_reduced row reduced h = elim (zero_or_positive h.divisor) [
  | inl z ↦ subst (λ (r : Inequality). IsRatio (form_of row) r) (sym (h.zeros z)) (itself row)
  | inr p ↦ record {
    scale = pos h.divisor;
    positive = positive_pos h.divisor p;
    coefficients = (h.quotient p).coefficients;
    bound = (h.quotient p).bound;
  }
]

pub ratio_scaled : (k : ℤ) (form target : LinearForm) (row : Inequality) → pos 0 <ℤ k → IsRatio form row → ((u : ℕ) → k *ℤ form.at u ≡ target.at u) → k *ℤ form.bound ≡ target.bound → IsRatio target row
ratio_scaled k form target row p r c b = record {
  scale = k *ℤ r.scale;
  positive = mul_positive k r.scale p r.positive;
  coefficients = λ u. mul_assoc k r.scale (coefficient u row) ∙ ap (λ (z : ℤ). k *ℤ z) (r.coefficients u) ∙ c u;
  bound = mul_assoc k r.scale row.bound ∙ ap (λ (z : ℤ). k *ℤ z) r.bound ∙ b;
}

scaled_choice : (t : Bool) (g a q c : ℤ) → g *ℤ a ≡ q → g *ℤ (if t then pos 0 else (a *ℤ c)) ≡ (if t then pos 0 else (q *ℤ c))
scaled_choice true g a q c e = *ℤ-zero g
scaled_choice false g a q c e = sym (mul_assoc g a c) ∙ ap (λ (z : ℤ). z *ℤ c) e

-- a constraint times a factor, minus a weight times the value, times the common divisor of both is the constraint after
-- the substitution of the value
pub ratio_of_put_in : (g : ℕ) (row made reduced : Inequality) (value : Fraction) (factor weight : ℤ) → 0 < g → pos g *ℤ factor ≡ value.denominator → pos g *ℤ weight ≡ coefficient value.unknown row → ((k : ℕ) → coefficient k made ≡ (if k == value.unknown then pos 0 else (factor *ℤ coefficient k row))) → made.bound ≡ (factor *ℤ row.bound) -ℤ (weight *ℤ value.numerator) → IsReduced made reduced → IsRatio (put_in (form_of row) value) reduced
ratio_of_put_in g row made reduced value factor weight p f w cs b r =
    ratio_scaled (pos g) (form_of made) (put_in (form_of row) value) reduced (positive_pos g p) (ratio_of_reduced made reduced r)
    (λ u. ap (λ (z : ℤ). pos g *ℤ z) (cs u) ∙ scaled_choice (u == value.unknown) (pos g) factor value.denominator (coefficient u row) f)
    (ap (λ (z : ℤ). pos g *ℤ z) b ∙ mul_sub (pos g) (factor *ℤ row.bound) (weight *ℤ value.numerator) ∙ ap (λ (z : ℤ). z -ℤ (pos g *ℤ (weight *ℤ value.numerator))) (sym (mul_assoc (pos g) factor row.bound) ∙ ap (λ (z : ℤ). z *ℤ row.bound) f) ∙ ap (λ (z : ℤ). (value.denominator *ℤ row.bound) -ℤ z) (sym (mul_assoc (pos g) weight value.numerator) ∙ ap (λ (z : ℤ). z *ℤ value.numerator) w))

choice_times : (t : Bool) (k q c f : ℤ) → k *ℤ c ≡ f → k *ℤ (if t then pos 0 else (q *ℤ c)) ≡ (if t then pos 0 else (q *ℤ f))
choice_times true k q c f e = *ℤ-zero k
choice_times false k q c f e = mul_swap k q c ∙ ap (λ (z : ℤ). q *ℤ z) e

-- the substitution of a value in a constraint that is a form up to a factor
pub ratio_put_in : (form : LinearForm) (left next : Inequality) (value : Fraction) → IsRatio form left → IsRatio (put_in (form_of left) value) next → IsRatio (put_in form value) next
ratio_put_in form left next value r s =
    ratio_scaled r.scale (put_in (form_of left) value) (put_in form value) next r.positive s
    (λ u. choice_times (u == value.unknown) r.scale value.denominator (coefficient u left) (form.at u) (r.coefficients u))
    (mul_sub r.scale (value.denominator *ℤ left.bound) (coefficient value.unknown left *ℤ value.numerator) ∙ ap (λ (z : ℤ). z -ℤ (r.scale *ℤ (coefficient value.unknown left *ℤ value.numerator))) (mul_swap r.scale value.denominator left.bound ∙ ap (λ (z : ℤ). value.denominator *ℤ z) r.bound) ∙ ap (λ (z : ℤ). (value.denominator *ℤ form.bound) -ℤ z) (sym (mul_assoc r.scale (coefficient value.unknown left) value.numerator) ∙ ap (λ (z : ℤ). z *ℤ value.numerator) (r.coefficients value.unknown)))

choice_zero : (k u : ℕ) (t : Bool) → (k == u) ≡ t → (q f : ℤ) → ((k ≡ u) → f ≡ pos 0) → q *ℤ f ≡ (if t then pos 0 else (q *ℤ f))
choice_zero k u true e q f h = ap (λ (z : ℤ). q *ℤ z) (h (eqb-true k u e)) ∙ *ℤ-zero q
choice_zero k u false e q f h = refl

-- the same where the constraint does not have that unknown
pub ratio_skip : (form : LinearForm) (left : Inequality) (value : Fraction) → IsRatio form left → pos 0 <ℤ value.denominator → coefficient value.unknown left ≡ pos 0 → IsRatio (put_in form value) left
ratio_skip form left value r p z =
    let none : form.at value.unknown ≡ pos 0 = sym (r.coefficients value.unknown) ∙ ap (λ (c : ℤ). r.scale *ℤ c) z ∙ *ℤ-zero r.scale in
    ratio_scaled value.denominator form (put_in form value) left p r
    (λ u. choice_zero u value.unknown (u == value.unknown) refl value.denominator (form.at u) (λ e. ap form.at e ∙ none))
    (sub_zero (value.denominator *ℤ form.bound) (form.at value.unknown *ℤ value.numerator) (ap (λ (c : ℤ). c *ℤ value.numerator) none ∙ zero-*ℤ value.numerator))
  where
    sub_zero : (a b : ℤ) → b ≡ pos 0 → a ≡ a -ℤ b
    sub_zero a b e = omega (arith, ints, e)
