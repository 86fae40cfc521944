-- The instances that a term and a type other than a struct type trigger together, as whole lists.
use Rattle.std.specs.Prelude.{◌-◌, ◌^◌, pos, List, [], ◌∷◌}
use Rattle.base.specs.TypeData.{TypeData, BoolType, IntType, AddressType, SignerType, VectorType, StructType}
use Rattle.base.specs.declared.types.Width.{Width}
use Rattle.base.specs.declared.types.Width.TheVariants.{U8, U16, U32, U64, U128}
use Rattle.fol.specs.declared.operators.Constant.{Constant}
use Rattle.fol.specs.declared.operators.Constant.TheVariants.{Num, Max}
use Rattle.fol.specs.FormulaData.{TermData, ConstantTerm, TrueTerm, FalseTerm, LenTerm, EqFormula, LeFormula, IsFormula, ImpliesFormula, IffFormula}
use Rattle.axioms.specs.declared.axiom.Axiom.TheVariants.{Exactly, Implied}
use Rattle.axioms.specs.declared.axiom.Equivalence.TheVariants.{Range, BoolTyped}
use Rattle.axioms.specs.declared.axiom.Rule.TheVariants.{LenBounded}
use Rattle.axioms.specs.Forms.{number, VectorFormula}
use Rattle.axioms.specs.Rules.{most_items}
use Rattle.certificates.specs.Table.{some_of, range_axiom}
use Rattle.axiom_instances.specs.Lists.{Triggered}
use Rattle.axiom_instances.specs.Rows.{row}

-- the greatest number of a width
abbrev pub greatest_of : Width → Constant
greatest_of U8 = Num (pos (2 ^ 8 - 1))
greatest_of U16 = Num (pos (2 ^ 16 - 1))
greatest_of U32 = Num (pos (2 ^ 32 - 1))
greatest_of U64 = Num (pos (2 ^ 64 - 1))
greatest_of U128 = Max

abbrev pub range_row : TypeData → TermData → Constant → Triggered
range_row a t c = row (Exactly Range) t (range_axiom a t (ConstantTerm c))

abbrev pub truth_row : TermData → Triggered
truth_row t =
    row (Exactly BoolTyped) t (IffFormula (IsFormula BoolType t) (some_of (EqFormula t TrueTerm ∷ EqFormula t FalseTerm ∷ [])))

abbrev pub length_row : TypeData → TermData → Triggered
length_row a v =
    row (Implied LenBounded) v (ImpliesFormula (VectorFormula a v) (LeFormula (LenTerm v) (number most_items)))

abbrev pub type_rows : TypeData → TermData → List Triggered
type_rows BoolType t = truth_row t ∷ []
type_rows (IntType w) t = range_row (IntType w) t (greatest_of w) ∷ []
type_rows AddressType t = range_row AddressType t Max ∷ []
type_rows SignerType t = range_row SignerType t Max ∷ range_row AddressType t Max ∷ []
type_rows (VectorType a) t = length_row a t ∷ []
type_rows _ t = []

-- the type is no struct type
abbrev pub IsNoStruct : TypeData → Type 0
IsNoStruct (StructType s ts) = ⊥
IsNoStruct _ = Unit {0}
