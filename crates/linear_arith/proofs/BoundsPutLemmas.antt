-- The list of the bounds of constraints on an unknown, and the value that is chosen between them.
use Rattle.std.proofs.Common.{◌≡◌, ◌≢◌, ℕ, ◌+◌, ◌<◌, List, [], ◌∷◌, ◌++◌, length, get_or, pos, ℤ, ◌*ℤ◌, refl, sym, ap, ◌∙◌, subst, arith, below_more, ◌⊎◌, inl, inr}
use Rattle.std.specs.Prelude.{All, Contains}
use Rattle.std.proofs.Math.IntN.{*ℤ-zero}
use Rattle.std.proofs.lemmas.List.Elements.{Contains-push, Contains-push_cases, Contains-append_left}
use Rattle.linear_arith.specs.Inequality.{Inequality, coefficient}
use Rattle.linear_arith.specs.Bounds.{IsMetAt, AreConsistent}
use Rattle.linear_arith.specs.Choice.{left_of, IsBoundOf, HasBound, HaveBounds, IsOfRow, AreCompatible, MeetsStage}
use Rattle.linear_arith.specs.Rest.{IsRest}
use Rattle.linear_arith.specs.Substitution.{LinearForm, IsRatio}
use Rattle.linear_arith.specs.declared.bounds.Bound.{Bound}
use Rattle.linear_arith.specs.declared.elimination.Derived.{Derived}
use Rattle.linear_arith.specs.declared.elimination.Stage.{Stage}
use Rattle.linear_arith.specs.declared.rows.Fraction.{Fraction}
use Rattle.linear_arith.proofs.ChoiceLemmas.{IsOfStageRow, bounds_consistent, form_met}
use Rattle.linear_arith.proofs.ListLemmas.{get_or-any_default}

-- the bounds of the first `count` constraints are added
pub record ArePut (rows : List Derived) (values : List Fraction) (unknown : ℕ) (old : List Bound) (count : ℕ) (bounds : List Bound) : Type 0 where
  pub kept : (bound : Bound) → Contains old bound → Contains bounds bound
  pub put : (k : ℕ) (d : Derived) → k < count → (left_of values (get_or rows k d).row).at unknown ≢ pos 0 → HasBound (left_of values (get_or rows k d).row) unknown bounds
  pub from : (bound : Bound) → Contains bounds bound → Contains old bound ⊎ IsOfRow rows values unknown bound

pub put_none : (rows : List Derived) (values : List Fraction) (unknown : ℕ) (old : List Bound) → ArePut rows values unknown old 0 old
put_none rows values unknown old = record { kept = λ b h. h; put = λ k d l. absurd (omega (arith, l)); from = λ b h. inl h }

pub has_more : (form : LinearForm) (unknown : ℕ) (old new : List Bound) → ((bound : Bound) → Contains old bound → Contains new bound) → HasBound form unknown old → HasBound form unknown new
has_more form unknown old new keep h = record { bound = h.bound; is_in = keep h.bound h.is_in; is_bound_of = h.is_bound_of }

bound_of_ratio : (form : LinearForm) (left : Inequality) (unknown : ℕ) (now : Bound) → IsRatio form left → now.coefficient ≡ coefficient unknown left → now.bound ≡ left.bound → IsBoundOf form unknown now
bound_of_ratio form left unknown now r e f = record {
  scale = r.scale;
  positive = r.positive;
  coefficient = ap (λ (z : ℤ). r.scale *ℤ z) e ∙ r.coefficients unknown;
  is_most = ap (λ (z : ℤ). r.scale *ℤ z) f ∙ r.bound;
}

-- one more constraint, with its bound
pub put_one : (rows : List Derived) (values : List Fraction) (unknown : ℕ) (old bounds : List Bound) (i : ℕ) (made : Derived) (left : Inequality) (now : Bound) → i < length rows → made ≡ get_or rows i made → IsRest made.row values left → IsRatio (left_of values made.row) left → now.coefficient ≡ coefficient unknown left → now.bound ≡ left.bound → ArePut rows values unknown old i bounds → ArePut rows values unknown old (i + 1) (bounds ++ now ∷ [])
put_one rows values unknown old bounds i made left now l is h r e f a =
    let here = bound_of_ratio (left_of values made.row) left unknown now r e f in
    record {
      kept = λ b h. Contains-append_left bounds (now ∷ []) b (a.kept b h);
      put = λ k d h. below_more (λ (k : ℕ). (d : Derived) → (left_of values (get_or rows k d).row).at unknown ≢ pos 0 → HasBound (left_of values (get_or rows k d).row) unknown (bounds ++ now ∷ [])) i (λ k m d n. has_more (left_of values (get_or rows k d).row) unknown bounds (bounds ++ now ∷ []) (λ b h. Contains-append_left bounds (now ∷ []) b h) (a.put k d m n)) (λ d n. subst (λ (m : Derived). HasBound (left_of values m.row) unknown (bounds ++ now ∷ [])) (is ∙ get_or-any_default rows i made d l) (record { bound = now; is_in = Contains-push bounds now; is_bound_of = here })) k h d;
      from = λ b c. elim (Contains-push_cases bounds now b c) [
        | inl o ↦ a.from b o
        | inr same ↦ inr (subst (λ (b : Bound). IsOfRow rows values unknown b) same (record { row = made.row; stands = record { made = made; is_live = (i, l, sym is); same = refl }; is_bound_of = here; rest = left; is_rest = h; same_coefficient = e; same_bound = f }))
      ];
    }

-- one more constraint, without the unknown
pub put_skip : (rows : List Derived) (values : List Fraction) (unknown : ℕ) (old bounds : List Bound) (i : ℕ) (made : Derived) (left : Inequality) → i < length rows → made ≡ get_or rows i made → IsRatio (left_of values made.row) left → coefficient unknown left ≡ pos 0 → ArePut rows values unknown old i bounds → ArePut rows values unknown old (i + 1) bounds
put_skip rows values unknown old bounds i made left l is r z a =
    let none : (left_of values made.row).at unknown ≡ pos 0 = sym (r.coefficients unknown) ∙ ap (λ (z : ℤ). r.scale *ℤ z) z ∙ *ℤ-zero r.scale in
    record {
      kept = a.kept;
      put = λ k d h. below_more (λ (k : ℕ). (d : Derived) → (left_of values (get_or rows k d).row).at unknown ≢ pos 0 → HasBound (left_of values (get_or rows k d).row) unknown bounds) i (λ k m d n. a.put k d m n) (λ d n. absurd (n (subst (λ (m : Derived). (left_of values m.row).at unknown ≡ pos 0) (is ∙ get_or-any_default rows i made d l) none))) k h d;
      from = a.from;
    }

-- all constraints
pub have_bounds : (rows : List Derived) (values : List Fraction) (unknown : ℕ) (old bounds : List Bound) (count : ℕ) → ArePut rows values unknown old count bounds → length rows ≡ count → HaveBounds rows values unknown bounds
have_bounds rows values unknown old bounds count a len row s n =
    let same : (get_or rows s.is_live.0 s.made).row ≡ row = ap (λ (m : Derived). m.row) s.is_live.2 ∙ s.same in
    let l = s.is_live.1 in
    subst (λ (r : Inequality). HasBound (left_of values r) unknown bounds) same (a.put s.is_live.0 s.made (omega (arith, l, len)) (λ z. n (subst (λ (r : Inequality). (left_of values r).at unknown ≡ pos 0) same z)))

-- the value that is chosen between the bounds of the stage's constraints meets them
pub stage_all_met : (stage : Stage) (values : List Fraction) (first second : List Bound) (value : Fraction) → AreCompatible stage values → ((bound : Bound) → Contains first bound → Contains [] bound ⊎ IsOfRow stage.upper.items values stage.unknown bound) → ((bound : Bound) → Contains second bound → Contains first bound ⊎ IsOfRow stage.lower.items values stage.unknown bound) → (AreConsistent second → All (IsMetAt value.numerator value.denominator) second) → All (IsMetAt value.numerator value.denominator) second
stage_all_met stage values first second value compatible of_upper of_lower met =
    let from = λ (b : Bound) (h : Contains second b). elim (of_lower b h) as (λ _. IsOfStageRow stage values b) [
      | inr r ↦ record { row = r.row; stands = inr r.stands; is_bound_of = r.is_bound_of }
      | inl o ↦ elim (of_upper b o) [
        | inl e ↦ absurd (let l = e.1 in omega (arith, l))
        | inr r ↦ record { row = r.row; stands = inl r.stands; is_bound_of = r.is_bound_of }
      ]
    ] in
    met (bounds_consistent stage values second compatible from)

-- it meets the constraints
pub stage_met : (stage : Stage) (values : List Fraction) (first second : List Bound) (value : Fraction) → AreCompatible stage values → ((bound : Bound) → Contains first bound → Contains [] bound ⊎ IsOfRow stage.upper.items values stage.unknown bound) → ((bound : Bound) → Contains second bound → Contains first bound ⊎ IsOfRow stage.lower.items values stage.unknown bound) → ((bound : Bound) → Contains first bound → Contains second bound) → HaveBounds stage.upper.items values stage.unknown first → HaveBounds stage.lower.items values stage.unknown second → (AreConsistent second → All (IsMetAt value.numerator value.denominator) second) → value.unknown ≡ stage.unknown → MeetsStage stage values value
stage_met stage values first second value compatible of_upper of_lower kept upper lower met same row s n =
    let all = stage_all_met stage values first second value compatible of_upper of_lower met in
    let has = elim s as (λ _. HasBound (left_of values row) stage.unknown second) [
      | inl a ↦ has_more (left_of values row) stage.unknown first second kept (upper row a n)
      | inr b ↦ lower row b n
    ] in
    form_met (left_of values row) stage.unknown second value has same all
