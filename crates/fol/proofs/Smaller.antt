-- Each item of a list is smaller than the list.
use Rattle.std.proofs.Common.{ℕ, zero, suc, ◌<◌, List, [], ◌∷◌, length, get_or, arith}
use Rattle.base.specs.TypeData.{TypeData, type_size, types_size, types_of}
use Rattle.fol.specs.FormulaData.{TermData, TermsData, FormulaData, term_size, terms_size, triggers_size, formula_size, formulas_size, terms_of, triggers_of, formulas_of}

pub term_smaller : (ts : List TermData) (i : ℕ) (d : TermData) → i < length ts → term_size (get_or ts i d) < terms_size (terms_of ts)
term_smaller [] i d h = absurd (omega arith)
term_smaller (t ∷ ts) zero d h = omega arith
term_smaller (t ∷ ts) (suc i) d h = omega (arith, term_smaller ts i d (omega arith))

pub trigger_smaller : (ts : List TermsData) (i : ℕ) (d : TermsData) → i < length ts → terms_size (get_or ts i d) < triggers_size (triggers_of ts)
trigger_smaller [] i d h = absurd (omega arith)
trigger_smaller (t ∷ ts) zero d h = omega arith
trigger_smaller (t ∷ ts) (suc i) d h = omega (arith, trigger_smaller ts i d (omega arith))

pub formula_smaller : (ps : List FormulaData) (i : ℕ) (d : FormulaData) → i < length ps → formula_size (get_or ps i d) < formulas_size (formulas_of ps)
formula_smaller [] i d h = absurd (omega arith)
formula_smaller (p ∷ ps) zero d h = omega arith
formula_smaller (p ∷ ps) (suc i) d h = omega (arith, formula_smaller ps i d (omega arith))

pub type_smaller : (ts : List TypeData) (i : ℕ) (d : TypeData) → i < length ts → type_size (get_or ts i d) < types_size (types_of ts)
type_smaller [] i d h = absurd (omega arith)
type_smaller (t ∷ ts) zero d h = omega arith
type_smaller (t ∷ ts) (suc i) d h = omega (arith, type_smaller ts i d (omega arith))
