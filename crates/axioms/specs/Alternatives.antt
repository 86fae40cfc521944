-- The axioms that state that some of the formulas cs is true.
use Rattle.std.specs.Prelude.{◌≡◌, ℕ, false, List, [], ◌∷◌}
use Rattle.base.specs.TypeData.{TypeData}
use Rattle.fol.specs.FormulaData.{TermData, VarTerm, LenTerm, SubTerm, AtTerm, SetTerm, IfTerm, FormulaData, EqFormula, LeFormula, NotFormula, AllOfFormula, ExistsFormula, NoTriggers, formulas_of}
use Rattle.substitution.specs.Free.{free_in_term}
use Rattle.axioms.specs.declared.axiom.Alternative.{Alternative}
use Rattle.axioms.specs.declared.axiom.Alternative.TheVariants.{AtSet, SameItems, Choice, Trichotomy}
use Rattle.axioms.specs.Forms.{number, LessFormula, DifferFormula, WholeFormula, VectorFormula}

-- some i is an index of v at which v and w differ
abbrev pub DifferAtFormula : ℕ → TermData → TermData → FormulaData
DifferAtFormula i v w =
    ExistsFormula i NoTriggers (AllOfFormula (formulas_of (LeFormula (number 0) (VarTerm i) ∷ LessFormula (VarTerm i) (LenTerm v) ∷ DifferFormula (AtTerm v (VarTerm i)) (AtTerm w (VarTerm i)) ∷ [])))

abbrev pub IsAlternative : Alternative → List FormulaData → Type 0
IsAlternative AtSet cs =
    (v : TermData) × (i : TermData) × (x : TermData) × (cs ≡ LessFormula i (number 0) ∷ LeFormula (LenTerm v) i ∷ NotFormula (WholeFormula i) ∷ EqFormula (AtTerm (SetTerm v i x) i) x ∷ [])
IsAlternative SameItems cs =
    (a : TypeData) × (v : TermData) × (w : TermData) × (i : ℕ) × (free_in_term i v ≡ false) × (free_in_term i w ≡ false) × (cs ≡ NotFormula (VectorFormula a v) ∷ NotFormula (VectorFormula a w) ∷ EqFormula v w ∷ DifferFormula (LenTerm v) (LenTerm w) ∷ DifferAtFormula i v w ∷ [])
IsAlternative Choice cs =
    (p : FormulaData) × (t : TermData) × (u : TermData) × (cs ≡ AllOfFormula (formulas_of (p ∷ EqFormula (IfTerm p t u) t ∷ [])) ∷ AllOfFormula (formulas_of (NotFormula p ∷ EqFormula (IfTerm p t u) u ∷ [])) ∷ [])
IsAlternative Trichotomy cs =
    (t : TermData) × (u : TermData) × (cs ≡ NotFormula (WholeFormula t) ∷ NotFormula (WholeFormula u) ∷ EqFormula t u ∷ LeFormula t (SubTerm u (number 1)) ∷ LeFormula u (SubTerm t (number 1)) ∷ [])
