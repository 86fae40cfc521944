-- Terms and formulas as trees of head symbols, and such trees in which bound variables are distinguished from free
-- ones (the locally named representation: J. McKinna and R. Pollack, Some Lambda Calculus and Type Theory Formalized).
use Rattle.std.specs.Prelude.{ℕ, Bool, false, cond, ◌||◌, ◌==◌, List, [], ◌∷◌}
use Rattle.base.specs.TypeData.{TypeData, TypesData, BoolType, IntType, NumType, AddressType, SignerType, VectorType, StructType, ParamType, SharedType, MutableType, TupleType, NoTypes, MoreTypes}
use Rattle.fol.specs.FormulaData.{TermData, VarTerm, ConstantTerm, UnaryTerm, BinaryTerm, TernaryTerm, PackTerm, FieldTerm, SetFieldTerm, IfTerm, TermsData, NoTerms, MoreTerms, TriggersData, NoTriggers, MoreTriggers, FormulaData, CompareFormula, IsFormula, HoldsFormula, NotFormula, JoinFormula, ConnectFormula, QuantifyFormula, FormulasData, NoFormulas, MoreFormulas}
use Rattle.term_pool.specs.Items.{Item, NoItem, TermItem, TermsItem, TriggersItem, FormulaItem, FormulasItem, TypeItem, TypesItem, BytesItem}
use Rattle.term_pool.specs.declared.node.Leaf.{Leaf}
use Rattle.term_pool.specs.declared.node.Leaf.TheVariants.{Var, Constant, TypeBool, TypeInt, TypeNum, TypeAddress, TypeSigner, TypeParam, NilTerms, NilTriggers, NilFormulas, NilTypes, NilBytes}
use Rattle.term_pool.specs.declared.node.One.{One}
use Rattle.term_pool.specs.declared.node.One.TheVariants.{Unary, Holds, Not, Join, TypeVector, TypeShared, TypeMutable, TypeTuple, ConsByte}
use Rattle.term_pool.specs.declared.node.Two.{Two}
use Rattle.term_pool.specs.declared.node.Two.TheVariants.{Binary, Pack, Field, Compare, Is, Connect, Quantify, ConsTerm, ConsTrigger, ConsFormula, ConsType}
use Rattle.term_pool.specs.declared.node.Three.{Three}
use Rattle.term_pool.specs.declared.node.Three.TheVariants.{Ternary, SetField, If, TypeStruct}

-- a tree of head symbols
pub data Plain : Type 0 where
  PlainLeaf : Leaf → Plain
  PlainOne : One → Plain → Plain
  PlainTwo : Two → Plain → Plain → Plain
  PlainThree : Three → Plain → Plain → Plain → Plain

-- ---- items as trees of head symbols

abbrev pub plain_bytes : List ℕ → Plain
plain_bytes [] = PlainLeaf NilBytes
plain_bytes (b ∷ bs) = PlainOne (ConsByte b) (plain_bytes bs)

abbrev mutual
  pub plain_type : TypeData → Plain
  plain_type BoolType = PlainLeaf TypeBool
  plain_type (IntType w) = PlainLeaf (TypeInt w)
  plain_type NumType = PlainLeaf TypeNum
  plain_type AddressType = PlainLeaf TypeAddress
  plain_type SignerType = PlainLeaf TypeSigner
  plain_type (VectorType a) = PlainOne TypeVector (plain_type a)
  plain_type (StructType s ts) = PlainThree (TypeStruct s.address) (plain_bytes s.«module») (plain_bytes s.name) (plain_types ts)
  plain_type (ParamType n) = PlainLeaf (TypeParam n)
  plain_type (SharedType a) = PlainOne TypeShared (plain_type a)
  plain_type (MutableType a) = PlainOne TypeMutable (plain_type a)
  plain_type (TupleType ts) = PlainOne TypeTuple (plain_types ts)

  pub plain_types : TypesData → Plain
  plain_types NoTypes = PlainLeaf NilTypes
  plain_types (MoreTypes a ts) = PlainTwo ConsType (plain_type a) (plain_types ts)

abbrev mutual
  pub plain_term : TermData → Plain
  plain_term (VarTerm n) = PlainLeaf (Var n)
  plain_term (ConstantTerm c) = PlainLeaf (Constant c)
  plain_term (UnaryTerm o t) = PlainOne (Unary o) (plain_term t)
  plain_term (BinaryTerm o t u) = PlainTwo (Binary o) (plain_term t) (plain_term u)
  plain_term (TernaryTerm o t u v) = PlainThree (Ternary o) (plain_term t) (plain_term u) (plain_term v)
  plain_term (PackTerm a ts) = PlainTwo Pack (plain_type a) (plain_terms ts)
  plain_term (FieldTerm a k t) = PlainTwo (Field k) (plain_type a) (plain_term t)
  plain_term (SetFieldTerm a k t u) = PlainThree (SetField k) (plain_type a) (plain_term t) (plain_term u)
  plain_term (IfTerm p t u) = PlainThree If (plain_formula p) (plain_term t) (plain_term u)

  pub plain_terms : TermsData → Plain
  plain_terms NoTerms = PlainLeaf NilTerms
  plain_terms (MoreTerms t ts) = PlainTwo ConsTerm (plain_term t) (plain_terms ts)

  pub plain_triggers : TriggersData → Plain
  plain_triggers NoTriggers = PlainLeaf NilTriggers
  plain_triggers (MoreTriggers t ts) = PlainTwo ConsTrigger (plain_terms t) (plain_triggers ts)

  pub plain_formula : FormulaData → Plain
  plain_formula (CompareFormula o t u) = PlainTwo (Compare o) (plain_term t) (plain_term u)
  plain_formula (IsFormula a t) = PlainTwo Is (plain_type a) (plain_term t)
  plain_formula (HoldsFormula t) = PlainOne Holds (plain_term t)
  plain_formula (NotFormula p) = PlainOne Not (plain_formula p)
  plain_formula (JoinFormula o ps) = PlainOne (Join o) (plain_formulas ps)
  plain_formula (ConnectFormula o p q) = PlainTwo (Connect o) (plain_formula p) (plain_formula q)
  plain_formula (QuantifyFormula o n ts p) = PlainTwo (Quantify o n) (plain_triggers ts) (plain_formula p)

  pub plain_formulas : FormulasData → Plain
  plain_formulas NoFormulas = PlainLeaf NilFormulas
  plain_formulas (MoreFormulas p ps) = PlainTwo ConsFormula (plain_formula p) (plain_formulas ps)

-- an arbitrary tree for no item
abbrev pub plain_item : Item → Plain
plain_item NoItem = PlainLeaf NilTerms
plain_item (TermItem t) = plain_term t
plain_item (TermsItem ts) = plain_terms ts
plain_item (TriggersItem ts) = plain_triggers ts
plain_item (FormulaItem p) = plain_formula p
plain_item (FormulasItem ps) = plain_formulas ps
plain_item (TypeItem a) = plain_type a
plain_item (TypesItem ts) = plain_types ts
plain_item (BytesItem bs) = plain_bytes bs

-- ---- bound variables distinguished from free ones

-- a tree of head symbols in which a bound variable is a leaf of its own
pub data Tree : Type 0 where
  BoundTree : ℕ → Tree
  LeafTree : Leaf → Tree
  OneTree : One → Tree → Tree
  TwoTree : Two → Tree → Tree → Tree
  ThreeTree : Three → Tree → Tree → Tree → Tree

abbrev pub among : ℕ → List ℕ → Bool
among n [] = false
among n (k ∷ bound) = n == k || among n bound

-- the variables that are bound in the parts of a node with this head symbol
abbrev pub under : Two → List ℕ → List ℕ
under (Quantify o n) bound = n ∷ bound
under _ bound = bound

abbrev pub leaf_tree : List ℕ → Leaf → Tree
leaf_tree bound (Var n) = cond (among n bound) (BoundTree n) (LeafTree (Var n))
leaf_tree bound h = LeafTree h

-- the tree under quantifiers of these variables
abbrev pub renamed : List ℕ → Plain → Tree
renamed bound (PlainLeaf h) = leaf_tree bound h
renamed bound (PlainOne h x) = OneTree h (renamed bound x)
renamed bound (PlainTwo h x y) = TwoTree h (renamed (under h bound) x) (renamed (under h bound) y)
renamed bound (PlainThree h x y z) = ThreeTree h (renamed bound x) (renamed bound y) (renamed bound z)

abbrev pub tree_of : List ℕ → Item → Tree
tree_of bound x = renamed bound (plain_item x)
