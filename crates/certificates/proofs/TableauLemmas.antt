-- The parts and the cases of a formula, by the form in which it is stored.
use Rattle.std.proofs.Common.{◌≡◌, ◌↔◌, List, [], ◌∷◌, map, Option, Some, Bool, sym, ap, ◌∙◌}
use Rattle.std.specs.Prelude.{IsTrue}
use Rattle.fol.specs.FormulaData.{FormulaData, NotFormula, AllOfFormula, AnyOfFormula, formulas_of, list_of_formulas, list_of_formulas-formulas_of}
use Rattle.certificates.specs.Parts.{parts_of, parts_of_negated, cases_of, cases_of_negated, both_of}

-- a test of equality with the optional list, from a test of equality with the list in it
pub as_some : {A : Type 0} (o : Option (List A)) (xs ys : List A) (b : Bool) → o ≡ Some xs → IsTrue b ↔ (ys ≡ xs) → IsTrue b ↔ (o ≡ Some ys)
as_some o xs ys b e t =
    (λ h. e ∙ ap Some (sym (t.0 h)), λ p. let same : Some xs ≡ Some ys = sym e ∙ p in let it : ys ≡ xs = cc in t.1 it)

-- the same with the two sides swapped
pub as_some_flipped : {A : Type 0} (o : Option (List A)) (xs ys : List A) (b : Bool) → o ≡ Some xs → IsTrue b ↔ (xs ≡ ys) → IsTrue b ↔ (o ≡ Some ys)
as_some_flipped o xs ys b e t = as_some o xs ys b e (λ h. sym (t.0 h), λ p. t.1 (sym p))

pub all_of_parts : (p : FormulaData) (xs : List FormulaData) → AllOfFormula (formulas_of xs) ≡ p → parts_of p ≡ Some xs
all_of_parts p xs e = ap parts_of (sym e) ∙ ap Some (list_of_formulas-formulas_of xs)

pub any_of_parts : (p : FormulaData) (xs : List FormulaData) → AnyOfFormula (formulas_of xs) ≡ p → parts_of_negated p ≡ Some (map NotFormula xs)
any_of_parts p xs e =
    ap parts_of_negated (sym e) ∙ ap (λ ps. Some (map NotFormula ps)) (list_of_formulas-formulas_of xs)

pub any_of_cases : (p : FormulaData) (xs : List FormulaData) → AnyOfFormula (formulas_of xs) ≡ p → cases_of p ≡ Some xs
any_of_cases p xs e = ap cases_of (sym e) ∙ ap Some (list_of_formulas-formulas_of xs)

pub all_of_cases : (p : FormulaData) (xs : List FormulaData) → AllOfFormula (formulas_of xs) ≡ p → cases_of_negated p ≡ Some (map NotFormula xs)
all_of_cases p xs e =
    ap cases_of_negated (sym e) ∙ ap (λ ps. Some (map NotFormula ps)) (list_of_formulas-formulas_of xs)

-- a formula that is the conjunction of two has these two parts
pub two_parts : (p l r : FormulaData) (xs : List FormulaData) → AllOfFormula (formulas_of xs) ≡ p → p ≡ both_of l r → xs ≡ l ∷ r ∷ []
two_parts p l r xs e h =
    let same : formulas_of xs ≡ formulas_of (l ∷ r ∷ []) = inside (e ∙ h) in
    sym (list_of_formulas-formulas_of xs) ∙ ap list_of_formulas same
  where
    inside : {ps qs : _} → AllOfFormula ps ≡ AllOfFormula qs → ps ≡ qs
    inside p = cc
