-- Substitution in a list goes item by item.
use Rattle.std.proofs.Common.{◌≡◌, ℕ, List, [], ◌∷◌, map, refl, ap}
use Rattle.fol.specs.FormulaData.{TermData, MoreTerms, TermsData, MoreTriggers, FormulaData, MoreFormulas, terms_of, triggers_of, formulas_of}
use Rattle.substitution.specs.Replaced.{replaced_term, replaced_terms, replaced_triggers, replaced, replaced_all}

pub terms_of_map : (bs : List (ℕ × ℕ)) (next x : ℕ) (t : TermData) (xs : List TermData) → terms_of (map (replaced_term bs next x t) xs) ≡ replaced_terms bs next x t (terms_of xs)
terms_of_map bs next x t [] = refl
terms_of_map bs next x t (a ∷ xs) = ap (MoreTerms (replaced_term bs next x t a)) (terms_of_map bs next x t xs)

pub triggers_of_map : (bs : List (ℕ × ℕ)) (next x : ℕ) (t : TermData) (xs : List TermsData) → triggers_of (map (replaced_terms bs next x t) xs) ≡ replaced_triggers bs next x t (triggers_of xs)
triggers_of_map bs next x t [] = refl
triggers_of_map bs next x t (a ∷ xs) = ap (MoreTriggers (replaced_terms bs next x t a)) (triggers_of_map bs next x t xs)

pub formulas_of_map : (bs : List (ℕ × ℕ)) (next x : ℕ) (t : TermData) (xs : List FormulaData) → formulas_of (map (replaced bs next x t) xs) ≡ replaced_all bs next x t (formulas_of xs)
formulas_of_map bs next x t [] = refl
formulas_of_map bs next x t (p ∷ xs) = ap (MoreFormulas (replaced bs next x t p)) (formulas_of_map bs next x t xs)
