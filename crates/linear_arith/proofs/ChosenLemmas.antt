-- The value that is chosen between the bounds of a stage is chosen after an elimination.
use Rattle.std.proofs.Common.{◌≡◌, ◌≢◌, ℕ, List, [], get_or, pos, ℤ, ◌*ℤ◌, ◌≤ℤ◌, ◌<ℤ◌, sym, ap, ◌∙◌, subst, arith, ◌⊎◌, inl, inr}
use Rattle.std.specs.Prelude.{All, Contains}
use Rattle.std.proofs.lemmas.Int.{ints}
use Rattle.std.proofs.lemmas.List.Elements.{All-contains, Contains-get_or}
use Rattle.linear_arith.specs.Inequality.{Inequality, coefficient}
use Rattle.linear_arith.specs.declared.rows.Fraction.{Fraction}
use Rattle.linear_arith.specs.Bounds.{IsMetAt, AreNonzero, AreMet, IsBetween}
use Rattle.linear_arith.specs.Bounds.IsBetween.{whole as whole_between, bound as bound_between}
use Rattle.linear_arith.specs.Choice.{left_of, HasBound, HaveBounds, IsOfRow}
use Rattle.linear_arith.specs.Stages.{IsRemovedFrom, IsWhole}
use Rattle.linear_arith.specs.Substitution.{form_of, ArePositive}
use Rattle.linear_arith.specs.Values.{IsBounding, MeetsBounds, IsChosen}
use Rattle.linear_arith.specs.Values.IsChosen.{whole, bound}
use Rattle.linear_arith.specs.declared.bounds.Bound.{Bound}
use Rattle.linear_arith.specs.declared.elimination.Derived.{Derived}
use Rattle.linear_arith.specs.declared.elimination.Stage.{Stage}
use Rattle.linear_arith.proofs.BoundsPutLemmas.{has_more}
use Rattle.linear_arith.proofs.ChoiceLemmas.{zero_stays}
use Rattle.linear_arith.proofs.RestLemmas.{rest_ratio}
use Rattle.base.proofs.WholeNumbers.{mul_assoc, mul_le, le_of_mul, zero_of_multiple}

-- a bound that a number meets is met for each positive multiple
same_bound : (s t c b d m p q : ℤ) → pos 0 <ℤ s → pos 0 <ℤ t → s *ℤ c ≡ t *ℤ d → s *ℤ b ≡ t *ℤ m → (c *ℤ p) ≤ℤ (b *ℤ q) → (d *ℤ p) ≤ℤ (m *ℤ q)
same_bound s t c b d m p q hs ht e f h =
    let k = mul_le s (c *ℤ p) (b *ℤ q) (omega (arith, ints, hs)) h in
    let left : s *ℤ (c *ℤ p) ≡ t *ℤ (d *ℤ p) = sym (mul_assoc s c p) ∙ ap (λ (z : ℤ). z *ℤ p) e ∙ mul_assoc t d p in
    let right : s *ℤ (b *ℤ q) ≡ t *ℤ (m *ℤ q) = sym (mul_assoc s b q) ∙ ap (λ (z : ℤ). z *ℤ q) f ∙ mul_assoc t m q in
    le_of_mul t (d *ℤ p) (m *ℤ q) ht (omega (arith, ints, k, left, right))

-- some constraint of the stage has the numbers of the bound after the substitution
record IsExact (found : List Inequality) (before : List ℕ) (values : List Fraction) (unknown : ℕ) (bound : Bound) : Type 0 where
  rest : Inequality
  is_bounding : IsBounding found before values unknown rest
  same_coefficient : bound.coefficient ≡ coefficient unknown rest
  same_bound : bound.bound ≡ rest.bound

exact_of_row : (found : List Inequality) (before : List ℕ) (stage : Stage) (part : List Derived) (values : List Fraction) (bound : Bound) → IsWhole found before stage → bound.coefficient ≢ pos 0 → (r : IsOfRow part values stage.unknown bound) → IsRemovedFrom stage r.row → IsExact found before values stage.unknown bound
exact_of_row found before stage part values b w n r s = record {
  rest = r.rest;
  is_bounding = record { row = r.row; is_found = w.is_found r.row s; without = w.without r.row s; is_rest = r.is_rest; stands = λ e. n (r.same_coefficient ∙ e) };
  same_coefficient = r.same_coefficient;
  same_bound = r.same_bound;
}

-- a value that meets the bounds meets each constraint of the stage after the substitution
rows_met : (found : List Inequality) (before : List ℕ) (stage : Stage) (values : List Fraction) (first second : List Bound) (p q : ℤ) → ArePositive values → IsWhole found before stage → ((bound : Bound) → Contains first bound → Contains second bound) → HaveBounds stage.upper.items values stage.unknown first → HaveBounds stage.lower.items values stage.unknown second → All (IsMetAt p q) second → MeetsBounds found before values stage.unknown p q
rows_met found before stage values first second p q positive w kept upper lower met rest h =
    let u = stage.unknown in
    let r = rest_ratio h.row values rest positive h.is_rest in
    let left_stands : (left_of values h.row).at u ≢ pos 0 = λ e. h.stands (zero_of_multiple r.scale (coefficient u rest) r.positive (r.coefficients u ∙ e)) in
    let row_stands : coefficient u h.row ≢ pos 0 = λ e. left_stands (zero_stays (form_of h.row) u values e) in
    let has = elim (w.whole h.row h.is_found h.without row_stands) as (λ _. HasBound (left_of values h.row) u second) [
      | inl a ↦ has_more (left_of values h.row) u first second kept (upper h.row a left_stands)
      | inr b ↦ lower h.row b left_stands
    ] in
    let b = has.is_bound_of in
    let at = All-contains (IsMetAt p q) second has.bound met has.is_in in
    same_bound b.scale r.scale has.bound.coefficient has.bound.bound (coefficient u rest) rest.bound p q b.positive r.positive (b.coefficient ∙ sym (r.coefficients u)) (b.is_most ∙ sym r.bound) at

-- a value that meets these meets the bounds
bounds_met : (found : List Inequality) (before : List ℕ) (values : List Fraction) (unknown : ℕ) (bounds : List Bound) (z : ℤ) → ((bound : Bound) → Contains bounds bound → IsExact found before values unknown bound) → MeetsBounds found before values unknown z (pos 1) → AreMet bounds z
bounds_met found before values unknown bounds z exact meets k d l =
    let b = get_or bounds k d in
    let x = exact b (Contains-get_or bounds k d l) in
    subst (λ (c : ℤ). (c *ℤ z) ≤ℤ (b.bound *ℤ pos 1)) (sym x.same_coefficient) (subst (λ (m : ℤ). (coefficient unknown x.rest *ℤ z) ≤ℤ (m *ℤ pos 1)) (sym x.same_bound) (meets x.rest x.is_bounding))

-- a value that is chosen between the bounds is chosen between the constraints
between_rows : (found : List Inequality) (before : List ℕ) (values : List Fraction) (bounds : List Bound) (value : Fraction) → ((p q : ℤ) → All (IsMetAt p q) bounds → MeetsBounds found before values value.unknown p q) → ((bound : Bound) → Contains bounds bound → IsExact found before values value.unknown bound) → pos 0 <ℤ value.denominator → All (IsMetAt value.numerator value.denominator) bounds → IsBetween bounds value → IsChosen found before values value
between_rows found before values bounds value rows exact positive met (whole_between one all near) =
    whole one (rows value.numerator (pos 1) all) (λ z m. near z (bounds_met found before values value.unknown bounds z exact m))
between_rows found before values bounds value rows exact positive met (bound_between none lowest b is_in is) =
    let x = exact b is_in in
    bound (λ z m. none z (bounds_met found before values value.unknown bounds z exact m)) positive lowest (rows value.numerator value.denominator met) x.rest x.is_bounding (subst (λ (m : ℤ). value.numerator *ℤ coefficient value.unknown x.rest ≡ m *ℤ value.denominator) x.same_bound (subst (λ (c : ℤ). value.numerator *ℤ c ≡ b.bound *ℤ value.denominator) x.same_coefficient is))

pub stage_chosen : (found : List Inequality) (before : List ℕ) (stage : Stage) (values : List Fraction) (first second : List Bound) (value : Fraction) → ArePositive values → IsWhole found before stage → AreNonzero second → ((bound : Bound) → Contains first bound → Contains [] bound ⊎ IsOfRow stage.upper.items values stage.unknown bound) → ((bound : Bound) → Contains second bound → Contains first bound ⊎ IsOfRow stage.lower.items values stage.unknown bound) → ((bound : Bound) → Contains first bound → Contains second bound) → HaveBounds stage.upper.items values stage.unknown first → HaveBounds stage.lower.items values stage.unknown second → pos 0 <ℤ value.denominator → All (IsMetAt value.numerator value.denominator) second → IsBetween second value → value.unknown ≡ stage.unknown → IsChosen found before values value
stage_chosen found before stage values first second value positive w nonzero of_upper of_lower kept upper lower above met between same =
    let n = λ (b : Bound) (h : Contains second b). All-contains (λ (b : Bound). b.coefficient ≢ pos 0) second b nonzero h in
    let exact = λ (b : Bound) (h : Contains second b). elim (of_lower b h) as (λ _. IsExact found before values stage.unknown b) [
      | inr r ↦ exact_of_row found before stage stage.lower.items values b w (n b h) r (inr r.stands)
      | inl o ↦ elim (of_upper b o) as (λ _. IsExact found before values stage.unknown b) [
        | inl e ↦ absurd (let l = e.1 in omega (arith, l))
        | inr r ↦ exact_of_row found before stage stage.upper.items values b w (n b h) r (inl r.stands)
      ]
    ] in
    between_rows found before values second value
    (λ p q m. subst (λ (u : ℕ). MeetsBounds found before values u p q) (sym same) (rows_met found before stage values first second p q positive w kept upper lower m))
    (λ b h. subst (λ (u : ℕ). IsExact found before values u b) (sym same) (exact b h))
    above met between
