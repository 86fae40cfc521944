-- Values given with an elimination, by the set of their unknowns.
use Rattle.std.proofs.Common.{◌≡◌, Bool, ℕ, ◌<◌, List, [], length, map, get_or, pos, Result, Ok, Err, sym, ap, ◌∙◌, subst, arith}
use Rattle.std.specs.Prelude.{Contains, IfOk}
use Rattle.std.specs.Bool.{Decides}
use Rattle.std.proofs.lemmas.List.{get_or-map, length-map}
use Rattle.linear_arith.specs.Inequality.{Inequality}
use Rattle.linear_arith.specs.declared.rows.Fraction.{Fraction}
use Rattle.std.proofs.lemmas.List.Elements.{Contains-get_or}
use Rattle.linear_arith.specs.Values.{HasValue, AreValues}
use Rattle.step_checks.specs.Given.{rows_of, width_of, IsGivenElimination}
use Rattle.step_checks.specs.GivenValues.{AreGivenValues}
use Rattle.step_checks.specs.declared.elimination.GivenElimination.{GivenElimination}
use Rattle.step_checks.proofs.EliminationNumberLemmas.{AreDistinct}
use Rattle.step_checks.proofs.ValueLemmas.{HaveDifferentUnknowns}

abbrev pub unknown_of : Fraction → ℕ
unknown_of value = value.unknown

abbrev pub valued : List Fraction → List ℕ
valued values = map unknown_of values

pub distinct_unknowns : (values : List Fraction) → HaveDifferentUnknowns values → AreDistinct (valued values)
distinct_unknowns values h i j d l m e =
    let len = length-map values unknown_of in
    let blank : Fraction = record { unknown = d; numerator = pos 0; denominator = pos 0 } in
    h i j blank l (omega (arith, len, m)) (sym (get_or-map unknown_of values i blank d (omega (arith, len, l, m))) ∙ e ∙ get_or-map unknown_of values j blank d (omega (arith, len, m)))

pub different_unknowns : (values : List Fraction) → AreDistinct (valued values) → HaveDifferentUnknowns values
different_unknowns values h i j d l m e =
    let len = length-map values unknown_of in
    h i j d.unknown l (omega (arith, len, m)) (get_or-map unknown_of values i d d.unknown (omega (arith, l, m)) ∙ e ∙ sym (get_or-map unknown_of values j d d.unknown m))

pub valued_of : (values : List Fraction) (u : ℕ) → HasValue values u → Contains (valued values) u
valued_of values u h =
    let len = length-map values unknown_of in
    let k = h.is_in.0 in
    let l = h.is_in.1 in
    (k, omega (arith, len, l), get_or-map unknown_of values k h.value u l ∙ ap unknown_of h.is_in.2 ∙ h.same)

pub value_of : (values : List Fraction) (u : ℕ) → Contains (valued values) u → HasValue values u
value_of values u h =
    let len = length-map values unknown_of in
    let k = h.0 in
    let m = h.1 in
    let l : k < length values = omega (arith, len, m) in
    let blank : Fraction = record { unknown = u; numerator = pos 0; denominator = pos 0 } in
    record { value = get_or values k blank; is_in = Contains-get_or values k blank l; same = sym (get_or-map unknown_of values k blank u l) ∙ h.2 }

-- what remains to show of values at the end
pub given_decided : (rows : List Inequality) (given : GivenElimination) (values : List Fraction) (found : List Inequality) (unknowns : List ℕ) → found ≡ rows_of given.rows.items → unknowns ≡ given.unknowns.items → IsGivenElimination rows given → AreDistinct unknowns → ((n : ℕ) → n < width_of rows → Contains (valued values) n) → (b : Bool) → Decides b (AreValues found unknowns [] values) → Decides b (AreGivenValues rows given values)
given_decided rows given values found unknowns e f elimination distinct covered b d = (
  λ t. record {
    elimination = elimination;
    different = subst (λ (us : List ℕ). AreDistinct us) f distinct;
    are_values = subst (λ (us : List ℕ). AreValues (rows_of given.rows.items) us [] values) f (subst (λ (rs : List Inequality). AreValues rs unknowns [] values) e (d.0 t));
    covered = λ u l. value_of values u (covered u l);
  },
  λ g. d.1 (subst (λ (us : List ℕ). AreValues found us [] values) (sym f) (subst (λ (rs : List Inequality). AreValues rs given.unknowns.items [] values) (sym e) g.are_values)),
)

pub if_decided : {E : Type 0} (r : Result Bool E) (P Q : Type 0) → ((b : Bool) → Decides b P → Decides b Q) → IfOk r (λ b. Decides b P) → IfOk r (λ b. Decides b Q)
if_decided (Ok b) P Q f h = f b h
if_decided (Err e) P Q f h = tt
