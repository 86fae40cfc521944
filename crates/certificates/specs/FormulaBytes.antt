-- The encoding of types, terms and formulas: a byte for the form, and the parts in order. A list is the number of its
-- items, followed by the items.
use Rattle.std.specs.Prelude.{ℕ, List, [], ◌∷◌, ◌++◌, length}
use Rattle.base.specs.TypeData.{TypeData, TypesData, BoolType, IntType, NumType, AddressType, SignerType, VectorType, StructType, ParamType, SharedType, MutableType, TupleType, NoTypes, MoreTypes, list_of_types}
use Rattle.base.specs.declared.types.StructId.{StructId}
use Rattle.base.specs.declared.types.Width.{Width}
use Rattle.base.specs.declared.types.Width.TheVariants.{U8, U16, U32, U64, U128}
use Rattle.fol.specs.declared.operators.Constant.{Constant}
use Rattle.fol.specs.declared.operators.Constant.TheVariants.{Num, Max, True, False, Nothing, Blank, Empty, Wide}
use Rattle.fol.specs.declared.operators.Unary.{Unary}
use Rattle.fol.specs.declared.operators.Unary.TheVariants.{Len, Pop}
use Rattle.fol.specs.declared.operators.Binary.{Binary}
use Rattle.fol.specs.declared.operators.Binary.TheVariants.{Add, Sub, Mul, Div, Mod, And, Or, Xor, Shl, Shr, Select, At, Push}
use Rattle.fol.specs.declared.operators.Ternary.{Ternary}
use Rattle.fol.specs.declared.operators.Ternary.TheVariants.{Store, Set}
use Rattle.fol.specs.declared.operators.Comparison.{Comparison}
use Rattle.fol.specs.declared.operators.Comparison.TheVariants.{Eq, Le}
use Rattle.fol.specs.declared.operators.Junction.{Junction}
use Rattle.fol.specs.declared.operators.Junction.TheVariants.{AllOf, AnyOf}
use Rattle.fol.specs.declared.operators.Connective.{Connective}
use Rattle.fol.specs.declared.operators.Connective.TheVariants.{Implies, Iff}
use Rattle.fol.specs.declared.operators.Quantifier.{Quantifier}
use Rattle.fol.specs.declared.operators.Quantifier.TheVariants.{ForAll, Exists}
use Rattle.fol.specs.FormulaData.{TermData, VarTerm, ConstantTerm, UnaryTerm, BinaryTerm, TernaryTerm, PackTerm, FieldTerm, SetFieldTerm, IfTerm, TermsData, NoTerms, MoreTerms, TriggersData, NoTriggers, MoreTriggers, FormulaData, CompareFormula, IsFormula, HoldsFormula, NotFormula, JoinFormula, ConnectFormula, QuantifyFormula, FormulasData, NoFormulas, MoreFormulas, list_of_terms, list_of_triggers, list_of_formulas}
use Rattle.certificates.specs.Numbers.{index_bytes, wide_bytes, whole_bytes, name_bytes}

-- ---- types

abbrev pub width_tag : Width → ℕ
width_tag U8 = 1
width_tag U16 = 2
width_tag U32 = 3
width_tag U64 = 4
width_tag U128 = 5

abbrev pub struct_bytes : StructId → List ℕ
struct_bytes s = wide_bytes s.address ++ (name_bytes s.«module» ++ name_bytes s.name)

abbrev mutual
  pub type_bytes : TypeData → List ℕ
  type_bytes BoolType = 0 ∷ []
  type_bytes (IntType w) = width_tag w ∷ []
  type_bytes NumType = 6 ∷ []
  type_bytes AddressType = 7 ∷ []
  type_bytes SignerType = 8 ∷ []
  type_bytes (VectorType t) = 9 ∷ type_bytes t
  type_bytes (StructType s ts) = 10 ∷ (struct_bytes s ++ (index_bytes (length (list_of_types ts)) ++ types_bytes ts))
  type_bytes (ParamType n) = 11 ∷ index_bytes n
  type_bytes (SharedType t) = 12 ∷ type_bytes t
  type_bytes (MutableType t) = 13 ∷ type_bytes t
  type_bytes (TupleType ts) = 14 ∷ (index_bytes (length (list_of_types ts)) ++ types_bytes ts)

  -- the items, without their number
  pub types_bytes : TypesData → List ℕ
  types_bytes NoTypes = []
  types_bytes (MoreTypes t ts) = type_bytes t ++ types_bytes ts

-- ---- operators

abbrev pub constant_bytes : Constant → List ℕ
constant_bytes (Num i) = 1 ∷ whole_bytes i
constant_bytes Max = 2 ∷ []
constant_bytes True = 3 ∷ []
constant_bytes False = 4 ∷ []
constant_bytes Nothing = 5 ∷ []
constant_bytes Blank = 6 ∷ []
constant_bytes Empty = 7 ∷ []
constant_bytes (Wide u) = 8 ∷ wide_bytes u

abbrev pub unary_bytes : Unary → List ℕ
unary_bytes Len = 34 ∷ []
unary_bytes Pop = 37 ∷ []

-- the byte of a shift is followed by the type of its width
abbrev pub binary_bytes : Binary → List ℕ
binary_bytes Add = 16 ∷ []
binary_bytes Sub = 17 ∷ []
binary_bytes Mul = 18 ∷ []
binary_bytes Div = 19 ∷ []
binary_bytes Mod = 20 ∷ []
binary_bytes And = 21 ∷ []
binary_bytes Or = 22 ∷ []
binary_bytes Xor = 23 ∷ []
binary_bytes (Shl w) = 24 ∷ type_bytes (IntType w)
binary_bytes (Shr w) = 25 ∷ type_bytes (IntType w)
binary_bytes Select = 32 ∷ []
binary_bytes At = 35 ∷ []
binary_bytes Push = 36 ∷ []

abbrev pub ternary_bytes : Ternary → List ℕ
ternary_bytes Store = 33 ∷ []
ternary_bytes Set = 38 ∷ []

abbrev pub comparison_tag : Comparison → ℕ
comparison_tag Eq = 64
comparison_tag Le = 65

abbrev pub junction_tag : Junction → ℕ
junction_tag AllOf = 69
junction_tag AnyOf = 70

abbrev pub connective_tag : Connective → ℕ
connective_tag Implies = 71
connective_tag Iff = 72

abbrev pub quantifier_tag : Quantifier → ℕ
quantifier_tag ForAll = 73
quantifier_tag Exists = 74

-- ---- terms and formulas; for lists the items, without their number

abbrev mutual
  pub term_bytes : TermData → List ℕ
  term_bytes (VarTerm n) = 0 ∷ index_bytes n
  term_bytes (ConstantTerm c) = constant_bytes c
  term_bytes (UnaryTerm o t) = unary_bytes o ++ term_bytes t
  term_bytes (BinaryTerm o t u) = binary_bytes o ++ (term_bytes t ++ term_bytes u)
  term_bytes (TernaryTerm o t u v) = ternary_bytes o ++ (term_bytes t ++ (term_bytes u ++ term_bytes v))
  term_bytes (PackTerm a ts) = 40 ∷ (type_bytes a ++ (index_bytes (length (list_of_terms ts)) ++ terms_bytes ts))
  term_bytes (FieldTerm a k t) = 41 ∷ (type_bytes a ++ (index_bytes k ++ term_bytes t))
  term_bytes (SetFieldTerm a k t u) = 42 ∷ (type_bytes a ++ (index_bytes k ++ (term_bytes t ++ term_bytes u)))
  term_bytes (IfTerm p t u) = 43 ∷ (formula_bytes p ++ (term_bytes t ++ term_bytes u))

  pub terms_bytes : TermsData → List ℕ
  terms_bytes NoTerms = []
  terms_bytes (MoreTerms t ts) = term_bytes t ++ terms_bytes ts

  pub triggers_bytes : TriggersData → List ℕ
  triggers_bytes NoTriggers = []
  triggers_bytes (MoreTriggers t ts) = index_bytes (length (list_of_terms t)) ++ (terms_bytes t ++ triggers_bytes ts)

  pub formula_bytes : FormulaData → List ℕ
  formula_bytes (CompareFormula o t u) = comparison_tag o ∷ (term_bytes t ++ term_bytes u)
  formula_bytes (IsFormula a t) = 66 ∷ (type_bytes a ++ term_bytes t)
  formula_bytes (HoldsFormula t) = 67 ∷ term_bytes t
  formula_bytes (NotFormula p) = 68 ∷ formula_bytes p
  formula_bytes (JoinFormula o ps) =
      junction_tag o ∷ (index_bytes (length (list_of_formulas ps)) ++ formulas_bytes ps)
  formula_bytes (ConnectFormula o p q) = connective_tag o ∷ (formula_bytes p ++ formula_bytes q)
  formula_bytes (QuantifyFormula o n ts p) =
      quantifier_tag o ∷ (index_bytes n ++ ((index_bytes (length (list_of_triggers ts)) ++ triggers_bytes ts) ++ formula_bytes p))

  pub formulas_bytes : FormulasData → List ℕ
  formulas_bytes NoFormulas = []
  formulas_bytes (MoreFormulas p ps) = formula_bytes p ++ formulas_bytes ps
