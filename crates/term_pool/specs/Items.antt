-- The item of a node of a pool: a term, a formula, a type, or a list of such. A list is empty, or an item and a list.
use Rattle.std.specs.Prelude.{ℕ, List, [], ◌∷◌}
use Rattle.base.specs.TypeData.{TypeData, BoolType, IntType, NumType, AddressType, SignerType, VectorType, StructType, ParamType, SharedType, MutableType, TupleType, TypesData, NoTypes, MoreTypes}
use Rattle.fol.specs.FormulaData.{TermData, VarTerm, ConstantTerm, UnaryTerm, BinaryTerm, TernaryTerm, PackTerm, FieldTerm, SetFieldTerm, IfTerm, NothingTerm, TermsData, NoTerms, MoreTerms, TriggersData, NoTriggers, MoreTriggers, FormulaData, CompareFormula, IsFormula, HoldsFormula, NotFormula, JoinFormula, ConnectFormula, QuantifyFormula, AnyOfFormula, FormulasData, NoFormulas, MoreFormulas}
use Rattle.term_pool.specs.declared.node.Leaf.{Leaf}
use Rattle.term_pool.specs.declared.node.Leaf.TheVariants.{Var, Constant, TypeBool, TypeInt, TypeNum, TypeAddress, TypeSigner, TypeParam, NilTerms, NilTriggers, NilFormulas, NilTypes, NilBytes}
use Rattle.term_pool.specs.declared.node.One.{One}
use Rattle.term_pool.specs.declared.node.One.TheVariants.{Unary, Holds, Not, Join, TypeVector, TypeShared, TypeMutable, TypeTuple, ConsByte}
use Rattle.term_pool.specs.declared.node.Two.{Two}
use Rattle.term_pool.specs.declared.node.Two.TheVariants.{Binary, Pack, Field, Compare, Is, Connect, Quantify, ConsTerm, ConsTrigger, ConsFormula, ConsType}
use Rattle.term_pool.specs.declared.node.Three.{Three}
use Rattle.term_pool.specs.declared.node.Three.TheVariants.{Ternary, SetField, If, TypeStruct}

pub data Item : Type 0 where
  NoItem : Item
  TermItem : TermData → Item
  TermsItem : TermsData → Item
  TriggersItem : TriggersData → Item
  FormulaItem : FormulaData → Item
  FormulasItem : FormulasData → Item
  TypeItem : TypeData → Item
  TypesItem : TypesData → Item
  BytesItem : List ℕ → Item

pub data Sort : Type 0 where
  NoSort : Sort
  TermSort : Sort
  TermsSort : Sort
  TriggersSort : Sort
  FormulaSort : Sort
  FormulasSort : Sort
  TypeSort : Sort
  TypesSort : Sort
  BytesSort : Sort

abbrev pub sort_of : Item → Sort
sort_of NoItem = NoSort
sort_of (TermItem t) = TermSort
sort_of (TermsItem ts) = TermsSort
sort_of (TriggersItem ts) = TriggersSort
sort_of (FormulaItem p) = FormulaSort
sort_of (FormulasItem ps) = FormulasSort
sort_of (TypeItem a) = TypeSort
sort_of (TypesItem ts) = TypesSort
sort_of (BytesItem bs) = BytesSort

-- ---- an item as one of each sort, with a default for items of other sorts

abbrev pub term_in : Item → TermData
term_in (TermItem t) = t
term_in _ = NothingTerm

abbrev pub terms_in : Item → TermsData
terms_in (TermsItem ts) = ts
terms_in _ = NoTerms

abbrev pub triggers_in : Item → TriggersData
triggers_in (TriggersItem ts) = ts
triggers_in _ = NoTriggers

abbrev pub formula_in : Item → FormulaData
formula_in (FormulaItem p) = p
formula_in _ = AnyOfFormula NoFormulas

abbrev pub formulas_in : Item → FormulasData
formulas_in (FormulasItem ps) = ps
formulas_in _ = NoFormulas

abbrev pub type_in : Item → TypeData
type_in (TypeItem a) = a
type_in _ = BoolType

abbrev pub types_in : Item → TypesData
types_in (TypesItem ts) = ts
types_in _ = NoTypes

abbrev pub bytes_in : Item → List ℕ
bytes_in (BytesItem bs) = bs
bytes_in _ = []

-- ---- an item by its head symbol and its parts

abbrev pub leaf_item : Leaf → Item
leaf_item (Var n) = TermItem (VarTerm n)
leaf_item (Constant c) = TermItem (ConstantTerm c)
leaf_item TypeBool = TypeItem BoolType
leaf_item (TypeInt w) = TypeItem (IntType w)
leaf_item TypeNum = TypeItem NumType
leaf_item TypeAddress = TypeItem AddressType
leaf_item TypeSigner = TypeItem SignerType
leaf_item (TypeParam n) = TypeItem (ParamType n)
leaf_item NilTerms = TermsItem NoTerms
leaf_item NilTriggers = TriggersItem NoTriggers
leaf_item NilFormulas = FormulasItem NoFormulas
leaf_item NilTypes = TypesItem NoTypes
leaf_item NilBytes = BytesItem []

abbrev pub one_item : One → Item → Item
one_item (Unary o) x = TermItem (UnaryTerm o (term_in x))
one_item Holds x = FormulaItem (HoldsFormula (term_in x))
one_item Not x = FormulaItem (NotFormula (formula_in x))
one_item (Join o) x = FormulaItem (JoinFormula o (formulas_in x))
one_item TypeVector x = TypeItem (VectorType (type_in x))
one_item TypeShared x = TypeItem (SharedType (type_in x))
one_item TypeMutable x = TypeItem (MutableType (type_in x))
one_item TypeTuple x = TypeItem (TupleType (types_in x))
one_item (ConsByte b) x = BytesItem (b ∷ bytes_in x)

abbrev pub two_item : Two → Item → Item → Item
two_item (Binary o) x y = TermItem (BinaryTerm o (term_in x) (term_in y))
two_item Pack x y = TermItem (PackTerm (type_in x) (terms_in y))
two_item (Field k) x y = TermItem (FieldTerm (type_in x) k (term_in y))
two_item (Compare o) x y = FormulaItem (CompareFormula o (term_in x) (term_in y))
two_item Is x y = FormulaItem (IsFormula (type_in x) (term_in y))
two_item (Connect o) x y = FormulaItem (ConnectFormula o (formula_in x) (formula_in y))
two_item (Quantify o n) x y = FormulaItem (QuantifyFormula o n (triggers_in x) (formula_in y))
two_item ConsTerm x y = TermsItem (MoreTerms (term_in x) (terms_in y))
two_item ConsTrigger x y = TriggersItem (MoreTriggers (terms_in x) (triggers_in y))
two_item ConsFormula x y = FormulasItem (MoreFormulas (formula_in x) (formulas_in y))
two_item ConsType x y = TypesItem (MoreTypes (type_in x) (types_in y))

abbrev pub three_item : Three → Item → Item → Item → Item
three_item (Ternary o) x y z = TermItem (TernaryTerm o (term_in x) (term_in y) (term_in z))
three_item (SetField k) x y z = TermItem (SetFieldTerm (type_in x) k (term_in y) (term_in z))
three_item If x y z = TermItem (IfTerm (formula_in x) (term_in y) (term_in z))
three_item (TypeStruct a) x y z = TypeItem (StructType (record { address = a; «module» = bytes_in x; name = bytes_in y }) (types_in z))

-- ---- the sorts of the parts of a head symbol

abbrev pub one_part : One → Sort
one_part (Unary o) = TermSort
one_part Holds = TermSort
one_part Not = FormulaSort
one_part (Join o) = FormulasSort
one_part TypeVector = TypeSort
one_part TypeShared = TypeSort
one_part TypeMutable = TypeSort
one_part TypeTuple = TypesSort
one_part (ConsByte b) = BytesSort

abbrev pub first_of_two : Two → Sort
first_of_two (Binary o) = TermSort
first_of_two Pack = TypeSort
first_of_two (Field k) = TypeSort
first_of_two (Compare o) = TermSort
first_of_two Is = TypeSort
first_of_two (Connect o) = FormulaSort
first_of_two (Quantify o n) = TriggersSort
first_of_two ConsTerm = TermSort
first_of_two ConsTrigger = TermsSort
first_of_two ConsFormula = FormulaSort
first_of_two ConsType = TypeSort

abbrev pub second_of_two : Two → Sort
second_of_two (Binary o) = TermSort
second_of_two Pack = TermsSort
second_of_two (Field k) = TermSort
second_of_two (Compare o) = TermSort
second_of_two Is = TermSort
second_of_two (Connect o) = FormulaSort
second_of_two (Quantify o n) = FormulaSort
second_of_two ConsTerm = TermsSort
second_of_two ConsTrigger = TriggersSort
second_of_two ConsFormula = FormulasSort
second_of_two ConsType = TypesSort

abbrev pub first_of_three : Three → Sort
first_of_three (Ternary o) = TermSort
first_of_three (SetField k) = TypeSort
first_of_three If = FormulaSort
first_of_three (TypeStruct a) = BytesSort

abbrev pub second_of_three : Three → Sort
second_of_three (Ternary o) = TermSort
second_of_three (SetField k) = TermSort
second_of_three If = TermSort
second_of_three (TypeStruct a) = BytesSort

abbrev pub third_of_three : Three → Sort
third_of_three (Ternary o) = TermSort
third_of_three (SetField k) = TermSort
third_of_three If = TermSort
third_of_three (TypeStruct a) = TypesSort
