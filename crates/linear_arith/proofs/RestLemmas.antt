-- Constraints after the substitution of values: up to a factor they are the forms after the substitution, and their
-- numbers fit.
use Rattle.std.proofs.Common.{◌≡◌, ℕ, Bool, true, false, List, [], ◌∷◌, ◌++◌, pos, ℤ, ◌*ℤ◌, ◌<ℤ◌, refl, sym, ◌∙◌, subst, arith, inl, inr, length-append}
use Rattle.std.specs.Prelude.{if◌then◌else◌, ◌==◌, unsigned_abs}
use Rattle.std.proofs.lemmas.Bool.Decides.{eqb_tells}
use Rattle.std.proofs.lemmas.List.{get_or_append_left}
use Rattle.std.proofs.lemmas.List.Elements.{All-contains, Contains-push}
use Rattle.linear_arith.specs.Fits.{Fits, IsFitting}
use Rattle.linear_arith.specs.Inequality.{Inequality, coefficient}
use Rattle.linear_arith.specs.declared.rows.Fraction.{Fraction}
use Rattle.linear_arith.proofs.NumberLemmas.{divisor_of_positive}
use Rattle.linear_arith.specs.Choice.{left_of}
use Rattle.linear_arith.specs.Rest.{IsPut, IsRest}
use Rattle.linear_arith.specs.Rest.IsRest.{none, absent, put}
use Rattle.linear_arith.specs.Substitution.{LinearForm, form_of, put_in, IsRatio, ArePositive}
use Rattle.linear_arith.proofs.ChoiceLemmas.{left_push}
use Rattle.linear_arith.proofs.FitSystemLemmas.{zero_fits, reduced_fits}
use Rattle.linear_arith.proofs.SubstitutionLemmas.{itself, ratio_of_put_in, ratio_put_in, ratio_skip}

firsts : (values : List Fraction) (value : Fraction) → ArePositive (values ++ value ∷ []) → ArePositive values
firsts values value p k d l =
    let len = length-append values (value ∷ []) in
    subst (λ (v : Fraction). pos 0 <ℤ v.denominator) (get_or_append_left values (value ∷ []) d k l) (p k d (omega (arith, l, len)))

last : (values : List Fraction) (value : Fraction) → ArePositive (values ++ value ∷ []) → pos 0 <ℤ value.denominator
last values value p = All-contains (λ (v : Fraction). pos 0 <ℤ v.denominator) (values ++ value ∷ []) value p (Contains-push values value)

put_ratio : (row made : Inequality) (value : Fraction) → pos 0 <ℤ value.denominator → IsPut row value made → IsRatio (put_in (form_of row) value) made
put_ratio row made value p h =
    let w = h.are_weights in
    ratio_of_put_in w.divisor row h.sum made value h.factor h.weight (divisor_of_positive w.divisor (unsigned_abs value.denominator) value.denominator refl p w.is_gcd.1) w.is_factor w.is_weight h.is_sum.coefficients h.is_sum.bound h.is_reduced

pub rest_ratio : (row : Inequality) (values : List Fraction) (rest : Inequality) → ArePositive values → IsRest row values rest → IsRatio (left_of values row) rest
rest_ratio row _ _ p none = itself row
rest_ratio row _ _ p (absent vs v left h z) =
    subst (λ (f : LinearForm). IsRatio f left) (sym (left_push vs v row)) (ratio_skip (left_of vs row) left v (rest_ratio row vs left (firsts vs v p) h) (last vs v p) z)
rest_ratio row _ _ p (put vs v left made h n i) =
    subst (λ (f : LinearForm). IsRatio f made) (sym (left_push vs v row)) (ratio_put_in (left_of vs row) left made v (rest_ratio row vs left (firsts vs v p) h) (put_ratio left made v (last vs v p) i))

-- the sum by which a value is substituted
put_fits : (row made : Inequality) (value : Fraction) → IsPut row value made → IsFitting made
put_fits row made value h = reduced_fits h.sum made h.is_reduced (coefficients, subst (λ (z : ℤ). Fits z) (sym h.is_sum.bound) h.within.bound.difference)
  where
    chosen : (t : Bool) (z : ℤ) → (t ≡ false → Fits z) → Fits (if t then pos 0 else z)
    chosen true z f = zero_fits
    chosen false z f = f refl

    coefficients : (u : ℕ) → Fits (coefficient u h.sum)
    coefficients u = subst (λ (z : ℤ). Fits z) (sym (h.is_sum.coefficients u)) (elim (eqb_tells u value.unknown) [
      | inl e ↦ chosen (u == value.unknown) (h.factor *ℤ coefficient u row) (λ f. absurd (let t : true ≡ false = sym e.0 ∙ f in cc))
      | inr n ↦ chosen (u == value.unknown) (h.factor *ℤ coefficient u row) (λ f. h.within.coefficients u n.1)
    ])

pub rest_fits : (row : Inequality) (values : List Fraction) (rest : Inequality) → IsFitting row → IsRest row values rest → IsFitting rest
rest_fits row _ _ f none = f
rest_fits row _ _ f (absent vs v left h z) = rest_fits row vs left f h
rest_fits row _ _ f (put vs v left made h n i) = put_fits left made v i
