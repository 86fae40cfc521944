-- The rules of a tableau for an entry: a conjunction adds its parts to the branch, a disjunction splits the branch
-- into its cases (R. Smullyan, First-Order Logic, chapter II, "alpha" and "beta" formulas).
use Rattle.std.specs.Prelude.{List, [], ◌∷◌, map, Option, Some, None}
use Rattle.fol.specs.declared.operators.Connective.TheVariants.{Iff, Implies}
use Rattle.fol.specs.declared.operators.Junction.TheVariants.{AllOf, AnyOf}
use Rattle.fol.specs.FormulaData.{FormulaData, NotFormula, AllOfFormula, list_of_formulas, formulas_of, ConnectFormula, JoinFormula}

-- the conjunction of two formulas
abbrev pub both_of : FormulaData → FormulaData → FormulaData
both_of p q = AllOfFormula (formulas_of (p ∷ q ∷ []))

-- the parts of a negated formula: of a disjunction, an implication or a negation
abbrev pub parts_of_negated : FormulaData → Option (List FormulaData)
parts_of_negated (JoinFormula AnyOf ps) = Some (map NotFormula (list_of_formulas ps))
parts_of_negated (ConnectFormula Implies p q) = Some (p ∷ NotFormula q ∷ [])
parts_of_negated (NotFormula p) = Some (p ∷ [])
parts_of_negated _ = None

-- the parts of a conjunction: all of them are true if it is
abbrev pub parts_of : FormulaData → Option (List FormulaData)
parts_of (JoinFormula AllOf ps) = Some (list_of_formulas ps)
parts_of (NotFormula p) = parts_of_negated p
parts_of _ = None

-- the cases of a negated formula: of a conjunction or an equivalence
abbrev pub cases_of_negated : FormulaData → Option (List FormulaData)
cases_of_negated (JoinFormula AllOf ps) = Some (map NotFormula (list_of_formulas ps))
cases_of_negated (ConnectFormula Iff p q) = Some (both_of p (NotFormula q) ∷ both_of (NotFormula p) q ∷ [])
cases_of_negated _ = None

-- the cases of a disjunction: some of them is true if it is
abbrev pub cases_of : FormulaData → Option (List FormulaData)
cases_of (JoinFormula AnyOf ps) = Some (list_of_formulas ps)
cases_of (ConnectFormula Implies p q) = Some (NotFormula p ∷ q ∷ [])
cases_of (ConnectFormula Iff p q) = Some (both_of p q ∷ both_of (NotFormula p) (NotFormula q) ∷ [])
cases_of (NotFormula p) = cases_of_negated p
cases_of _ = None
