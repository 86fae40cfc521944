-- The instances of the axioms, over these shapes of structs.
use Rattle.std.specs.Prelude.{◌≡◌, List, [], ◌∷◌}
use Rattle.fol.specs.declared.shapes.Shape.{Shape}
use Rattle.fol.specs.FormulaData.{TermData, FormulaData, EqFormula, AnyOfFormula, ImpliesFormula, IffFormula, formulas_of}
use Rattle.axioms.specs.declared.axiom.Axiom.{Axiom}
use Rattle.axioms.specs.declared.axiom.Axiom.TheVariants.{Equal, EqualUnless, Cases, Implied, Exactly, Plain, OfStruct}
use Rattle.axioms.specs.declared.axiom.Equation.{Equation}
use Rattle.axioms.specs.declared.axiom.Exception.{Exception}
use Rattle.axioms.specs.declared.axiom.Alternative.{Alternative}
use Rattle.axioms.specs.declared.axiom.Rule.{Rule}
use Rattle.axioms.specs.declared.axiom.Equivalence.{Equivalence}
use Rattle.axioms.specs.Equations.{IsEquation}
use Rattle.axioms.specs.Exceptions.{IsException}
use Rattle.axioms.specs.Alternatives.{IsAlternative}
use Rattle.axioms.specs.Rules.{IsRule}
use Rattle.axioms.specs.Equivalences.{IsEquivalence}
use Rattle.axioms.specs.Facts.{IsFact}
use Rattle.axioms.specs.Structs.{IsStructAxiom}

-- an equation
abbrev pub IsEqual : Equation → FormulaData → Type 0
IsEqual name p = (l : TermData) × (r : TermData) × IsEquation name l r × (p ≡ EqFormula l r)

-- an equation or its exception
abbrev pub IsEqualUnless : Exception → FormulaData → Type 0
IsEqualUnless name p =
    (q : FormulaData) × (l : TermData) × (r : TermData) × IsException name q l r × (p ≡ AnyOfFormula (formulas_of (q ∷ EqFormula l r ∷ [])))

-- a disjunction
abbrev pub HasCases : Alternative → FormulaData → Type 0
HasCases name p = (cs : List FormulaData) × IsAlternative name cs × (p ≡ AnyOfFormula (formulas_of cs))

-- an implication
abbrev pub IsImplied : Rule → FormulaData → Type 0
IsImplied name p = (q : FormulaData) × (r : FormulaData) × IsRule name q r × (p ≡ ImpliesFormula q r)

-- an equivalence
abbrev pub IsExactly : Equivalence → FormulaData → Type 0
IsExactly name p = (q : FormulaData) × (r : FormulaData) × IsEquivalence name q r × (p ≡ IffFormula q r)

abbrev pub IsAxiom : List Shape → Axiom → FormulaData → Type 0
IsAxiom shapes (Equal name) p = IsEqual name p
IsAxiom shapes (EqualUnless name) p = IsEqualUnless name p
IsAxiom shapes (Cases name) p = HasCases name p
IsAxiom shapes (Implied name) p = IsImplied name p
IsAxiom shapes (Exactly name) p = IsExactly name p
IsAxiom shapes (Plain name) p = IsFact name p
IsAxiom shapes (OfStruct name) p = IsStructAxiom shapes name p
