-- The length of a list is the sum of those of its first item and of the rest.
use Rattle.std.proofs.Common.{◌≡◌, ℕ, ◌+◌, ◌<◌, List, length, get_or, drop, add-one, drop-cons}
use Rattle.base.specs.TypeData.{TypeData, types_of}
use Rattle.fol.specs.FormulaData.{TermData, TermsData, FormulaData, terms_of, triggers_of, formulas_of}
use Rattle.certificates.specs.CertData.{MoveData}
use Rattle.certificates.specs.Lengths.{type_length, types_length, term_length, terms_length, triggers_length, formula_length, formulas_length, move_length, moves_length}

pub types_length_drop : (xs : List TypeData) (i : ℕ) (d : TypeData) → i < length xs → types_length (types_of (drop i xs)) ≡ type_length (get_or xs i d) + types_length (types_of (drop (i + 1) xs))
types_length_drop xs i d h = rw (add-one, drop-cons xs i d)

pub terms_length_drop : (xs : List TermData) (i : ℕ) (d : TermData) → i < length xs → terms_length (terms_of (drop i xs)) ≡ term_length (get_or xs i d) + terms_length (terms_of (drop (i + 1) xs))
terms_length_drop xs i d h = rw (add-one, drop-cons xs i d)

pub triggers_length_drop : (xs : List TermsData) (i : ℕ) (d : TermsData) → i < length xs → triggers_length (triggers_of (drop i xs)) ≡ (4 + terms_length (get_or xs i d)) + triggers_length (triggers_of (drop (i + 1) xs))
triggers_length_drop xs i d h = rw (add-one, drop-cons xs i d)

pub formulas_length_drop : (xs : List FormulaData) (i : ℕ) (d : FormulaData) → i < length xs → formulas_length (formulas_of (drop i xs)) ≡ formula_length (get_or xs i d) + formulas_length (formulas_of (drop (i + 1) xs))
formulas_length_drop xs i d h = rw (add-one, drop-cons xs i d)

pub moves_length_drop : (xs : List MoveData) (i : ℕ) (d : MoveData) → i < length xs → moves_length (drop i xs) ≡ move_length (get_or xs i d) + moves_length (drop (i + 1) xs)
moves_length_drop xs i d h = rw (add-one, drop-cons xs i d)
