-- The axioms of other forms.
use Rattle.std.specs.Prelude.{◌≡◌, ◌^◌, ◌≤◌, ◌≤ℤ◌, pos, [], ◌∷◌}
use Rattle.base.specs.TypeData.{TypeData, IntType}
use Rattle.base.specs.declared.types.Width.{Width}
use Rattle.fol.specs.declared.operators.Binary.{Binary}
use Rattle.fol.specs.declared.operators.Binary.TheVariants.{Add, And, At, Div, Mod, Mul, Or, Push, Select, Shl, Shr, Sub, Xor}
use Rattle.fol.specs.declared.operators.Constant.{Constant}
use Rattle.fol.specs.declared.operators.Constant.TheVariants.{Blank, Empty, False, Max, Nothing, Num, True, Wide}
use Rattle.fol.specs.declared.operators.Unary.{Unary}
use Rattle.fol.specs.declared.operators.Unary.TheVariants.{Len, Pop}
use Rattle.fol.specs.FormulaData.{TermData, VarTerm, ConstantTerm, UnaryTerm, BinaryTerm, TernaryTerm, PackTerm, FieldTerm, SetFieldTerm, IfTerm, MaxTerm, TrueTerm, FalseTerm, NothingTerm, EmptyTerm, LenTerm, AddTerm, SubTerm, MulTerm, DivTerm, ShlTerm, FormulaData, LeFormula, IsFormula, HoldsFormula, NotFormula, AllOfFormula, formulas_of}
use Rattle.axioms.specs.declared.axiom.Fact.{Fact}
use Rattle.axioms.specs.declared.axiom.Fact.TheVariants.{LenFromZero, QuotientBounds, MaxBound, Whole, EmptyTyped, ShlTyped, NothingUntyped, TruthsDiffer, TrueHolds, FalseFails, NothingFails}
use Rattle.axioms.specs.Forms.{number, DifferFormula, WholeFormula, VectorFormula}

-- whether an axiom states that the constant is a whole number
abbrev IsWholeConstant : Constant → Type 0
IsWholeConstant (Num i) = Unit {0}
IsWholeConstant Max = Unit {0}
IsWholeConstant True = ⊥
IsWholeConstant False = ⊥
IsWholeConstant Nothing = ⊥
IsWholeConstant Blank = ⊥
IsWholeConstant Empty = ⊥
IsWholeConstant (Wide u) = ⊥

abbrev CountsItems : Unary → Type 0
CountsItems Len = Unit {0}
CountsItems Pop = ⊥

-- whether an operator is arithmetic or bitwise
abbrev IsArithmetic : Binary → Type 0
IsArithmetic Add = Unit {0}
IsArithmetic Sub = Unit {0}
IsArithmetic Mul = Unit {0}
IsArithmetic Div = Unit {0}
IsArithmetic Mod = Unit {0}
IsArithmetic And = Unit {0}
IsArithmetic Or = Unit {0}
IsArithmetic Xor = Unit {0}
IsArithmetic (Shl w) = Unit {0}
IsArithmetic (Shr w) = Unit {0}
IsArithmetic Select = ⊥
IsArithmetic At = ⊥
IsArithmetic Push = ⊥

-- whether a term is a whole number by its form
abbrev pub IsWhole : TermData → Type 0
IsWhole (ConstantTerm c) = IsWholeConstant c
IsWhole (UnaryTerm o t) = CountsItems o
IsWhole (BinaryTerm o t u) = IsArithmetic o
IsWhole (VarTerm n) = ⊥
IsWhole (TernaryTerm o t u v) = ⊥
IsWhole (PackTerm a ts) = ⊥
IsWhole (FieldTerm a k t) = ⊥
IsWhole (SetFieldTerm a k t u) = ⊥
IsWhole (IfTerm p t u) = ⊥

-- whether a constant is a numeral from 1
abbrev pub IsFromOne : Constant → Type 0
IsFromOne (Num i) = pos 1 ≤ℤ i
IsFromOne Max = Unit {0}
IsFromOne (Wide u) = 1 ≤ u
IsFromOne True = ⊥
IsFromOne False = ⊥
IsFromOne Nothing = ⊥
IsFromOne Blank = ⊥
IsFromOne Empty = ⊥

-- c times the quotient of t by c
abbrev pub multiple : TermData → TermData → TermData
multiple c t = MulTerm c (DivTerm t c)

abbrev pub IsFact : Fact → FormulaData → Type 0
IsFact LenFromZero p = (v : TermData) × (p ≡ LeFormula (number 0) (LenTerm v))
IsFact QuotientBounds p =
    (c : Constant) × (t : TermData) × IsFromOne c × (p ≡ AllOfFormula (formulas_of (LeFormula (multiple (ConstantTerm c) t) t ∷ LeFormula t (SubTerm (AddTerm (multiple (ConstantTerm c) t) (ConstantTerm c)) (number 1)) ∷ [])))
IsFact MaxBound p = p ≡ LeFormula (number (2 ^ 126)) MaxTerm
IsFact Whole p = (t : TermData) × IsWhole t × (p ≡ WholeFormula t)
IsFact EmptyTyped p = (a : TypeData) × (p ≡ VectorFormula a EmptyTerm)
IsFact ShlTyped p =
    (w : Width) × (x : TermData) × (i : TermData) × (p ≡ IsFormula (IntType w) (ShlTerm w x i))
IsFact NothingUntyped p = (a : TypeData) × (p ≡ NotFormula (IsFormula a NothingTerm))
IsFact TruthsDiffer p = p ≡ DifferFormula TrueTerm FalseTerm
IsFact TrueHolds p = p ≡ HoldsFormula TrueTerm
IsFact FalseFails p = p ≡ NotFormula (HoldsFormula FalseTerm)
IsFact NothingFails p = p ≡ NotFormula (HoldsFormula NothingTerm)
