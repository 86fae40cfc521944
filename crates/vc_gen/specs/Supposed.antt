-- The premises of a formula: the conjuncts of its premise.
use Rattle.std.specs.Prelude.{◌≡◌, ℕ, List, Contains}
use Rattle.fol.specs.FormulaData.{FormulaData, AllOfFormula, ImpliesFormula, FormulasData, list_of_formulas}
use Rattle.sum_formula.specs.Premises.{argument_formula}

-- the formula is the other one, or a conjunct of one of its conjuncts
pub data IsConjunct (q : FormulaData) : FormulaData → Type 0 where
  Itself : IsConjunct q q
  Inside : (ps : FormulasData) (p : FormulaData) → Contains (list_of_formulas ps) p → IsConjunct q p → IsConjunct q (AllOfFormula ps)

-- the formula is an implication whose premise has the conjunct q
pub record Supposes (p q : FormulaData) : Type 0 where
  pub premise : FormulaData
  pub claim : FormulaData
  pub is : p ≡ ImpliesFormula premise claim
  pub conjunct : IsConjunct q premise

-- the formula has the premises that each parameter has a value of its type
pub record SupposesTypes (parameters : List (List ℕ)) (p : FormulaData) : Type 0 where
  pub typed : (name : List ℕ) → Contains parameters name → Supposes p (argument_formula parameters name)
