-- A list has no number of a block if its first item has none and the rest has none.
use Rattle.std.proofs.Common.{◌≡◌, ℕ, ◌+◌, ◌<◌, ◌&&◌, List, length, get_or, drop, add-one, drop-cons}
use Rattle.fol.specs.FormulaData.{TermData, TermsData, FormulaData, terms_of, triggers_of, formulas_of}
use Rattle.substitution.specs.Blocks.{term_clear, terms_clear, triggers_clear, formula_clear, formulas_clear}

pub terms_clear_drop : (low high : ℕ) (xs : List TermData) (i : ℕ) (d : TermData) → i < length xs → terms_clear low high (terms_of (drop i xs)) ≡ term_clear low high (get_or xs i d) && terms_clear low high (terms_of (drop (i + 1) xs))
terms_clear_drop low high xs i d h = rw (add-one, drop-cons xs i d)

pub triggers_clear_drop : (low high : ℕ) (xs : List TermsData) (i : ℕ) (d : TermsData) → i < length xs → triggers_clear low high (triggers_of (drop i xs)) ≡ terms_clear low high (get_or xs i d) && triggers_clear low high (triggers_of (drop (i + 1) xs))
triggers_clear_drop low high xs i d h = rw (add-one, drop-cons xs i d)

pub formulas_clear_drop : (low high : ℕ) (xs : List FormulaData) (i : ℕ) (d : FormulaData) → i < length xs → formulas_clear low high (formulas_of (drop i xs)) ≡ formula_clear low high (get_or xs i d) && formulas_clear low high (formulas_of (drop (i + 1) xs))
formulas_clear_drop low high xs i d h = rw (add-one, drop-cons xs i d)
