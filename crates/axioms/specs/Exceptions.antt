-- The axioms that state that two terms, l and r, are equal unless the formula q is true.
use Rattle.std.specs.Prelude.{◌≡◌}
use Rattle.fol.specs.FormulaData.{TermData, LenTerm, PopTerm, SubTerm, SelectTerm, AtTerm, PushTerm, StoreTerm, SetTerm, FormulaData, EqFormula, LeFormula}
use Rattle.axioms.specs.declared.axiom.Exception.{Exception}
use Rattle.axioms.specs.declared.axiom.Exception.TheVariants.{SelectOther, AtOtherPushed, LenPopped, AtPopped, AtOtherSet}
use Rattle.axioms.specs.Forms.{number}

abbrev pub IsException : Exception → FormulaData → TermData → TermData → Type 0
IsException SelectOther q l r =
    (m : TermData) × (a : TermData) × (b : TermData) × (v : TermData) × (q ≡ EqFormula a b) × (l ≡ SelectTerm (StoreTerm m a v) b) × (r ≡ SelectTerm m b)
IsException AtOtherPushed q l r =
    (v : TermData) × (x : TermData) × (i : TermData) × (q ≡ EqFormula i (LenTerm v)) × (l ≡ AtTerm (PushTerm v x) i) × (r ≡ AtTerm v i)
IsException LenPopped q l r =
    (v : TermData) × (q ≡ LeFormula (LenTerm v) (number 0)) × (l ≡ LenTerm (PopTerm v)) × (r ≡ SubTerm (LenTerm v) (number 1))
IsException AtPopped q l r =
    (v : TermData) × (i : TermData) × (q ≡ LeFormula (SubTerm (LenTerm v) (number 1)) i) × (l ≡ AtTerm (PopTerm v) i) × (r ≡ AtTerm v i)
IsException AtOtherSet q l r =
    (v : TermData) × (i : TermData) × (j : TermData) × (x : TermData) × (q ≡ EqFormula i j) × (l ≡ AtTerm (SetTerm v i x) j) × (r ≡ AtTerm v j)
