-- The axioms that state that the formulas p and q are equivalent.
use Rattle.std.specs.Prelude.{◌≡◌, ◌-◌, ◌^◌, [], ◌∷◌, Option, Some, None, pos}
use Rattle.base.specs.TypeData.{TypeData, BoolType, IntType, NumType, AddressType, SignerType, VectorType, StructType, ParamType, SharedType, MutableType, TupleType}
use Rattle.base.specs.declared.types.Width.TheVariants.{U8, U16, U32, U64, U128}
use Rattle.fol.specs.FormulaData.{TermData, NumTerm, MaxTerm, TrueTerm, FalseTerm, FormulaData, EqFormula, LeFormula, IsFormula, AllOfFormula, AnyOfFormula, formulas_of}
use Rattle.axioms.specs.declared.axiom.Equivalence.{Equivalence}
use Rattle.axioms.specs.declared.axiom.Equivalence.TheVariants.{Range, BoolTyped}
use Rattle.axioms.specs.Forms.{number, WholeFormula}

-- the greatest value of a type whose values are the whole numbers from 0 on
abbrev pub greatest : TypeData → Option TermData
greatest (IntType U8) = Some (NumTerm (pos (2 ^ 8 - 1)))
greatest (IntType U16) = Some (NumTerm (pos (2 ^ 16 - 1)))
greatest (IntType U32) = Some (NumTerm (pos (2 ^ 32 - 1)))
greatest (IntType U64) = Some (NumTerm (pos (2 ^ 64 - 1)))
greatest (IntType U128) = Some MaxTerm
greatest AddressType = Some MaxTerm
greatest SignerType = Some MaxTerm
greatest BoolType = None
greatest NumType = None
greatest (VectorType t) = None
greatest (StructType s ts) = None
greatest (ParamType n) = None
greatest (SharedType t) = None
greatest (MutableType t) = None
greatest (TupleType ts) = None

abbrev pub IsEquivalence : Equivalence → FormulaData → FormulaData → Type 0
IsEquivalence Range p q =
    (a : TypeData) × (t : TermData) × (most : TermData) × (greatest a ≡ Some most) × (p ≡ IsFormula a t) × (q ≡ AllOfFormula (formulas_of (WholeFormula t ∷ LeFormula (number 0) t ∷ LeFormula t most ∷ [])))
IsEquivalence BoolTyped p q =
    (t : TermData) × (p ≡ IsFormula BoolType t) × (q ≡ AnyOfFormula (formulas_of (EqFormula t TrueTerm ∷ EqFormula t FalseTerm ∷ [])))
