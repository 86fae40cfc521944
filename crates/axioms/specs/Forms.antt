-- The forms of terms and formulas in axioms.
use Rattle.std.specs.Prelude.{ℕ, pos}
use Rattle.base.specs.TypeData.{TypeData, NumType, VectorType}
use Rattle.fol.specs.FormulaData.{TermData, NumTerm, FormulaData, EqFormula, LeFormula, IsFormula, NotFormula}

-- the numeral of a whole number from 0
abbrev pub number : ℕ → TermData
number n = NumTerm (pos n)

-- t < u
abbrev pub LessFormula : TermData → TermData → FormulaData
LessFormula t u = NotFormula (LeFormula u t)

-- t and u differ
abbrev pub DifferFormula : TermData → TermData → FormulaData
DifferFormula t u = NotFormula (EqFormula t u)

-- the term is a whole number
abbrev pub WholeFormula : TermData → FormulaData
WholeFormula t = IsFormula NumType t

-- the term is a vector of items of the type
abbrev pub VectorFormula : TypeData → TermData → FormulaData
VectorFormula a v = IsFormula (VectorType a) v
