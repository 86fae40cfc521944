-- The items of the numbers of a pool: terms and types by their top-level forms, with the numbers of their parts.
use Rattle.std.specs.Prelude.{◌≡◌, ℕ, List}
use Rattle.base.specs.TypeData.{TypeData, BoolType, IntType, NumType, AddressType, SignerType, VectorType, StructType, ParamType, SharedType, MutableType, TupleType, TypesData}
use Rattle.base.specs.declared.types.StructId.{StructId}
use Rattle.fol.specs.declared.operators.Unary.{Unary as UnaryOperator}
use Rattle.fol.specs.declared.operators.Binary.{Binary as BinaryOperator}
use Rattle.fol.specs.declared.operators.Ternary.{Ternary as TernaryOperator}
use Rattle.fol.specs.FormulaData.{TermData, VarTerm, ConstantTerm, UnaryTerm, BinaryTerm, TernaryTerm, PackTerm, FieldTerm, SetFieldTerm, IfTerm, NothingTerm, TermsData, FormulaData}
use Rattle.term_pool.specs.Items.{TermItem, TermsItem, FormulaItem, TypeItem, term_in, terms_in, formula_in, type_in}
use Rattle.term_pool.specs.Pools.{item_at, IsItem}
use Rattle.term_pool.specs.declared.node.Node.{Node}
use Rattle.axiom_instances.specs.declared.reading.TermForm.{TermForm}
use Rattle.axiom_instances.specs.declared.reading.TermForm.TheVariants.{Constant, Unary, Binary, Ternary, If, Pack, SetField, Other}
use Rattle.axiom_instances.specs.declared.reading.TypeForm.{TypeForm}
use Rattle.axiom_instances.specs.declared.reading.TypeForm.TheVariants.{Bool, Int, Address, Signer, Vector, Struct, Other as OtherType}

-- ---- the item of a number, with a default for one of another sort

abbrev pub term_at : List Node → ℕ → TermData
term_at ns n = term_in (item_at ns n)

abbrev pub terms_at : List Node → ℕ → TermsData
terms_at ns n = terms_in (item_at ns n)

abbrev pub formula_at : List Node → ℕ → FormulaData
formula_at ns n = formula_in (item_at ns n)

abbrev pub type_at : List Node → ℕ → TypeData
type_at ns n = type_in (item_at ns n)

-- the number is that of a term; of a type
abbrev pub IsTermNumber : List Node → ℕ → Type 0
IsTermNumber ns n = IsItem ns n (TermItem (term_at ns n))

abbrev pub IsTypeNumber : List Node → ℕ → Type 0
IsTypeNumber ns n = IsItem ns n (TypeItem (type_at ns n))

-- ---- terms

pub record IsUnary (ns : List Node) (o : UnaryOperator) (n a : ℕ) : Type 0 where
  pub whole : IsItem ns n (TermItem (UnaryTerm o (term_at ns a)))
  pub part : IsTermNumber ns a

pub record IsBinary (ns : List Node) (o : BinaryOperator) (n a b : ℕ) : Type 0 where
  pub whole : IsItem ns n (TermItem (BinaryTerm o (term_at ns a) (term_at ns b)))
  pub first : IsTermNumber ns a
  pub second : IsTermNumber ns b

pub record IsTernary (ns : List Node) (o : TernaryOperator) (n a b c : ℕ) : Type 0 where
  pub whole : IsItem ns n (TermItem (TernaryTerm o (term_at ns a) (term_at ns b) (term_at ns c)))
  pub first : IsTermNumber ns a
  pub second : IsTermNumber ns b
  pub third : IsTermNumber ns c

pub record IsIf (ns : List Node) (n p a b : ℕ) : Type 0 where
  pub whole : IsItem ns n (TermItem (IfTerm (formula_at ns p) (term_at ns a) (term_at ns b)))
  pub condition : IsItem ns p (FormulaItem (formula_at ns p))
  pub first : IsTermNumber ns a
  pub second : IsTermNumber ns b

pub record IsPack (ns : List Node) (n s us : ℕ) : Type 0 where
  pub whole : IsItem ns n (TermItem (PackTerm (type_at ns s) (terms_at ns us)))
  pub of : IsTypeNumber ns s
  pub parts : IsItem ns us (TermsItem (terms_at ns us))

pub record IsSetField (ns : List Node) (k n s a b : ℕ) : Type 0 where
  pub whole : IsItem ns n (TermItem (SetFieldTerm (type_at ns s) k (term_at ns a) (term_at ns b)))
  pub of : IsTypeNumber ns s
  pub first : IsTermNumber ns a
  pub second : IsTermNumber ns b

-- a variable, a field, or the default for a number that is no term
pub data IsOtherTerm : TermData → Type 0 where
  IsVariable : (n : ℕ) → IsOtherTerm (VarTerm n)
  IsField : (s : TypeData) (k : ℕ) (t : TermData) → IsOtherTerm (FieldTerm s k t)
  IsNone : IsOtherTerm NothingTerm

pub record IsOther (ns : List Node) (n : ℕ) : Type 0 where
  pub other : IsOtherTerm (term_at ns n)

-- the term with this number has this form
abbrev pub HasForm : List Node → ℕ → TermForm → Type 0
HasForm ns n (Constant c) = IsItem ns n (TermItem (ConstantTerm c))
HasForm ns n (Unary o a) = IsUnary ns o n a
HasForm ns n (Binary o a b) = IsBinary ns o n a b
HasForm ns n (Ternary o a b c) = IsTernary ns o n a b c
HasForm ns n (If p a b) = IsIf ns n p a b
HasForm ns n (Pack s us) = IsPack ns n s us
HasForm ns n (SetField k s a b) = IsSetField ns k n s a b
HasForm ns n Other = IsOther ns n

-- ---- types

pub record IsVector (ns : List Node) (n a : ℕ) : Type 0 where
  pub whole : IsItem ns n (TypeItem (VectorType (type_at ns a)))
  pub part : IsTypeNumber ns a

pub data IsOtherType : TypeData → Type 0 where
  IsNum : IsOtherType NumType
  IsParam : (n : ℕ) → IsOtherType (ParamType n)
  IsShared : (a : TypeData) → IsOtherType (SharedType a)
  IsMutable : (a : TypeData) → IsOtherType (MutableType a)
  IsTuple : (as' : TypesData) → IsOtherType (TupleType as')

pub record IsStructType (ns : List Node) (n : ℕ) : Type 0 where
  pub id : StructId
  pub args : TypesData
  pub is : type_at ns n ≡ StructType id args

pub record IsPlainType (ns : List Node) (n : ℕ) : Type 0 where
  pub other : IsOtherType (type_at ns n)

-- the type with this number has this form
abbrev pub HasTypeForm : List Node → ℕ → TypeForm → Type 0
HasTypeForm ns n Bool = type_at ns n ≡ BoolType
HasTypeForm ns n (Int w) = type_at ns n ≡ IntType w
HasTypeForm ns n Address = type_at ns n ≡ AddressType
HasTypeForm ns n Signer = type_at ns n ≡ SignerType
HasTypeForm ns n (Vector a) = IsVector ns n a
HasTypeForm ns n Struct = IsStructType ns n
HasTypeForm ns n OtherType = IsPlainType ns n
