-- The bounds that rows give on an unknown, and the value chosen between them.
use Rattle.std.proofs.Common.{◌≡◌, ℕ, Bool, List, [], ◌∷◌, ◌++◌, get_or, pos, ℤ, ◌*ℤ◌, ◌≤ℤ◌, refl, sym, ap, ◌∙◌, subst, arith, inl, inr}
use Rattle.std.specs.Prelude.{Contains}
use Rattle.std.specs.Bool.{Decides}
use Rattle.std.proofs.lemmas.List.Elements.{All-contains, Contains-get_or, Contains-push, Contains-push_cases, Contains-append_left}
use Rattle.linear_arith.specs.Inequality.{Inequality, coefficient}
use Rattle.linear_arith.specs.declared.rows.Fraction.{Fraction}
use Rattle.linear_arith.specs.Rest.{IsRest}
use Rattle.linear_arith.specs.Substitution.{ArePositive}
use Rattle.linear_arith.specs.Values.{IsBounding, MeetsBounds, IsChosen}
use Rattle.linear_arith.specs.Values.IsChosen.{whole as whole_value, bound as bound_value}
use Rattle.step_checks.specs.declared.elimination.bounds.Bound.{Bound}
use Rattle.step_checks.specs.Choices.{IsMetAt, AreMetAt, IsBetween, IsBoundOf, IsGiven, AreBounds}
use Rattle.step_checks.specs.Choices.IsBetween.{whole, bound}
use Rattle.step_checks.proofs.AlikeLemmas.{one_rest}

-- a row in whose rest the unknown is not left gives no bound
pub no_bound : (before : List ℕ) (values : List Fraction) (unknown : ℕ) (row rest : Inequality) (b : Bound) → ArePositive values → IsRest row values rest → coefficient unknown rest ≡ pos 0 → IsBoundOf before values unknown row b → ⊥
no_bound before values unknown row rest b p h z is = is.stands ((one_rest row is.rest rest values p is.is_rest h).coefficients unknown ∙ z)

-- a row gives one bound
one_bound : (before : List ℕ) (values : List Fraction) (unknown : ℕ) (row : Inequality) (b d : Bound) → ArePositive values → IsBoundOf before values unknown row b → IsBoundOf before values unknown row d → b ≡ d
one_bound before values unknown row b d p h k =
    let same = one_rest row h.rest k.rest values p h.is_rest k.is_rest in
    let e : b.coefficient ≡ d.coefficient = h.same_coefficient ∙ same.coefficients unknown ∙ sym k.same_coefficient in
    let f : b.bound ≡ d.bound = h.same_bound ∙ same.bound ∙ sym k.same_bound in
    λ i. record { coefficient = e i; bound = f i }

given_later : (found : List Inequality) (before : List ℕ) (values : List Fraction) (unknown : ℕ) (row : Inequality) (b : Bound) → IsGiven found before values unknown b → IsGiven (found ++ row ∷ []) before values unknown b
given_later found before values unknown row b g = record { row = g.row; is_found = Contains-append_left found (row ∷ []) g.row g.is_found; is_bound = g.is_bound }

pub none_given : (before : List ℕ) (values : List Fraction) (unknown : ℕ) → AreBounds [] before values unknown []
none_given before values unknown = record { each = λ b h. absurd (none b h); all = λ b g. absurd (none g.row g.is_found) }
  where
    none : {A : Type 0} (x : A) → Contains [] x → ⊥
    none x h = let l = h.1 in absurd (omega (arith, l))

-- one more row, which gives a bound
pub bounds_with : (found : List Inequality) (before : List ℕ) (values : List Fraction) (unknown : ℕ) (row : Inequality) (bounds : List Bound) (now : Bound) → ArePositive values → IsBoundOf before values unknown row now → AreBounds found before values unknown bounds → AreBounds (found ++ row ∷ []) before values unknown (bounds ++ now ∷ [])
bounds_with found before values unknown row bounds now p is a = record {
  each = λ b h. elim (Contains-push_cases bounds now b h) [
    | inl o ↦ given_later found before values unknown row b (a.each b o)
    | inr e ↦ subst (λ (d : Bound). IsGiven (found ++ row ∷ []) before values unknown d) e (record { row = row; is_found = Contains-push found row; is_bound = is })
  ];
  all = λ b g. elim (Contains-push_cases found row g.row g.is_found) [
    | inl o ↦ Contains-append_left bounds (now ∷ []) b (a.all b (record { row = g.row; is_found = o; is_bound = g.is_bound }))
    | inr e ↦ subst (λ (d : Bound). Contains (bounds ++ now ∷ []) d) (one_bound before values unknown row now b p is (subst (λ (r : Inequality). IsBoundOf before values unknown r b) (sym e) g.is_bound)) (Contains-push bounds now)
  ];
}

-- one more row, which gives none
pub bounds_same : (found : List Inequality) (before : List ℕ) (values : List Fraction) (unknown : ℕ) (row : Inequality) (bounds : List Bound) → ((b : Bound) → IsBoundOf before values unknown row b → ⊥) → AreBounds found before values unknown bounds → AreBounds (found ++ row ∷ []) before values unknown bounds
bounds_same found before values unknown row bounds n a = record {
  each = λ b h. given_later found before values unknown row b (a.each b h);
  all = λ b g. elim (Contains-push_cases found row g.row g.is_found) [
    | inl o ↦ a.all b (record { row = g.row; is_found = o; is_bound = g.is_bound })
    | inr e ↦ absurd (n b (subst (λ (r : Inequality). IsBoundOf before values unknown r b) (sym e) g.is_bound))
  ];
}

-- the bound of a rest
abbrev bound_in : ℕ → Inequality → Bound
bound_in unknown rest = record { coefficient = coefficient unknown rest; bound = rest.bound }

module _ (found : List Inequality) (before : List ℕ) (values : List Fraction) (unknown : ℕ) (bounds : List Bound) (a : AreBounds found before values unknown bounds) where
  bounding_in : (rest : Inequality) → IsBounding found before values unknown rest → Contains bounds (bound_in unknown rest)
  bounding_in rest h = a.all (bound_in unknown rest) (record {
    row = h.row;
    is_found = h.is_found;
    is_bound = record { without = h.without; rest = rest; is_rest = h.is_rest; stands = h.stands; same_coefficient = refl; same_bound = refl };
  })

  bounding : (b : Bound) (g : IsGiven found before values unknown b) → IsBounding found before values unknown g.is_bound.rest
  bounding b g = record { row = g.row; is_found = g.is_found; without = g.is_bound.without; is_rest = g.is_bound.is_rest; stands = g.is_bound.stands }

  pub meets_of_met : (p q : ℤ) → AreMetAt bounds p q → MeetsBounds found before values unknown p q
  meets_of_met p q met rest h = All-contains (IsMetAt p q) bounds (bound_in unknown rest) met (bounding_in rest h)

  pub met_of_meets : (p q : ℤ) → MeetsBounds found before values unknown p q → AreMetAt bounds p q
  met_of_meets p q meets k d l =
      let b = get_or bounds k d in
      let g = a.each b (Contains-get_or bounds k d l) in
      subst (λ (z : ℤ). (z *ℤ p) ≤ℤ (b.bound *ℤ q)) (sym g.is_bound.same_coefficient) (subst (λ (z : ℤ). (coefficient unknown g.is_bound.rest *ℤ p) ≤ℤ (z *ℤ q)) (sym g.is_bound.same_bound) (meets g.is_bound.rest (bounding b g)))

-- a value between the bounds is chosen
pub chosen_of_between : (found : List Inequality) (before : List ℕ) (values : List Fraction) (value : Fraction) (bounds : List Bound) → AreBounds found before values value.unknown bounds → IsBetween bounds value → IsChosen found before values value
chosen_of_between found before values value bounds a (whole one met near) =
    let u = value.unknown in
    whole_value one (meets_of_met found before values u bounds a value.numerator (pos 1) met) (λ z meets. near z (met_of_meets found before values u bounds a z (pos 1) meets))
chosen_of_between found before values value bounds a (bound none positive lowest met reached) =
    let u = value.unknown in
    let p = value.numerator in
    let q = value.denominator in
    let b = reached.bound in
    let g = a.each b reached.is_in in
    let same : p *ℤ coefficient u g.is_bound.rest ≡ g.is_bound.rest.bound *ℤ q = ap (λ (z : ℤ). p *ℤ z) (sym g.is_bound.same_coefficient) ∙ reached.is_reached ∙ ap (λ (z : ℤ). z *ℤ q) g.is_bound.same_bound in
    bound_value (λ z meets. none z (met_of_meets found before values u bounds a z (pos 1) meets)) positive lowest (meets_of_met found before values u bounds a p q met) g.is_bound.rest (bounding found before values u bounds a b g) same

pub between_of_chosen : (found : List Inequality) (before : List ℕ) (values : List Fraction) (value : Fraction) (bounds : List Bound) → AreBounds found before values value.unknown bounds → IsChosen found before values value → IsBetween bounds value
between_of_chosen found before values value bounds a (whole_value one meets near) =
    let u = value.unknown in
    whole one (met_of_meets found before values u bounds a value.numerator (pos 1) meets) (λ z met. near z (meets_of_met found before values u bounds a z (pos 1) met))
between_of_chosen found before values value bounds a (bound_value none positive lowest meets rest h same) =
    let u = value.unknown in
    bound (λ z met. none z (meets_of_met found before values u bounds a z (pos 1) met)) positive lowest (met_of_meets found before values u bounds a value.numerator value.denominator meets) (record { bound = bound_in u rest; is_in = bounding_in found before values u bounds a rest h; is_reached = same })

pub chosen_decided : (found : List Inequality) (before : List ℕ) (values : List Fraction) (value : Fraction) (bounds slice : List Bound) (b : Bool) → AreBounds found before values value.unknown bounds → slice ≡ bounds → Decides b (IsBetween slice value) → Decides b (IsChosen found before values value)
chosen_decided found before values value bounds slice b a e d = (
  λ t. chosen_of_between found before values value bounds a (subst (λ (bs : List Bound). IsBetween bs value) e (d.0 t)),
  λ h. d.1 (subst (λ (bs : List Bound). IsBetween bs value) (sym e) (between_of_chosen found before values value bounds a h)),
)
