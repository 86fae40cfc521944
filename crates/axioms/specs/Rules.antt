-- The axioms that state that the formula p implies q.
use Rattle.std.specs.Prelude.{◌≡◌, ℕ, ◌-◌, ◌^◌, [], ◌∷◌}
use Rattle.base.specs.TypeData.{TypeData, IntType}
use Rattle.base.specs.declared.types.Width.{Width}
use Rattle.fol.specs.declared.operators.Binary.{Binary}
use Rattle.fol.specs.declared.operators.Binary.TheVariants.{Add, And, At, Div, Mod, Mul, Or, Push, Select, Shl, Shr, Sub, Xor}
use Rattle.fol.specs.FormulaData.{TermData, BinaryTerm, LenTerm, PopTerm, AtTerm, PushTerm, SetTerm, ShrTerm, FormulaData, LeFormula, IsFormula, NotFormula, AllOfFormula, AnyOfFormula, formulas_of}
use Rattle.axioms.specs.declared.axiom.Rule.{Rule}
use Rattle.axioms.specs.declared.axiom.Rule.TheVariants.{ItemTyped, LenBounded, SetTyped, PushTyped, PopTyped, BitsTyped, ShrTyped}
use Rattle.axioms.specs.Forms.{number, LessFormula, WholeFormula, VectorFormula}

-- the bitwise operators of two terms
abbrev pub IsBitOperator : Binary → Type 0
IsBitOperator And = Unit {0}
IsBitOperator Or = Unit {0}
IsBitOperator Xor = Unit {0}
IsBitOperator Add = ⊥
IsBitOperator Sub = ⊥
IsBitOperator Mul = ⊥
IsBitOperator Div = ⊥
IsBitOperator Mod = ⊥
IsBitOperator (Shl w) = ⊥
IsBitOperator (Shr w) = ⊥
IsBitOperator Select = ⊥
IsBitOperator At = ⊥
IsBitOperator Push = ⊥

-- the greatest length of a vector
abbrev pub most_items : ℕ
most_items = 2 ^ 64 - 1

abbrev pub IsRule : Rule → FormulaData → FormulaData → Type 0
IsRule ItemTyped p q =
    (a : TypeData) × (v : TermData) × (i : TermData) × (p ≡ VectorFormula a v) × (q ≡ AnyOfFormula (formulas_of (LessFormula i (number 0) ∷ LeFormula (LenTerm v) i ∷ NotFormula (WholeFormula i) ∷ IsFormula a (AtTerm v i) ∷ [])))
IsRule LenBounded p q =
    (a : TypeData) × (v : TermData) × (p ≡ VectorFormula a v) × (q ≡ LeFormula (LenTerm v) (number most_items))
IsRule SetTyped p q =
    (a : TypeData) × (v : TermData) × (i : TermData) × (x : TermData) × (p ≡ AllOfFormula (formulas_of (VectorFormula a v ∷ IsFormula a x ∷ []))) × (q ≡ VectorFormula a (SetTerm v i x))
IsRule PushTyped p q =
    (a : TypeData) × (v : TermData) × (x : TermData) × (p ≡ AllOfFormula (formulas_of (VectorFormula a v ∷ IsFormula a x ∷ LessFormula (LenTerm v) (number most_items) ∷ []))) × (q ≡ VectorFormula a (PushTerm v x))
IsRule PopTyped p q =
    (a : TypeData) × (v : TermData) × (p ≡ VectorFormula a v) × (q ≡ VectorFormula a (PopTerm v))
IsRule BitsTyped p q =
    (w : Width) × (o : Binary) × (x : TermData) × (y : TermData) × IsBitOperator o × (p ≡ AllOfFormula (formulas_of (IsFormula (IntType w) x ∷ IsFormula (IntType w) y ∷ []))) × (q ≡ IsFormula (IntType w) (BinaryTerm o x y))
IsRule ShrTyped p q =
    (w : Width) × (x : TermData) × (i : TermData) × (p ≡ IsFormula (IntType w) x) × (q ≡ IsFormula (IntType w) (ShrTerm w x i))
