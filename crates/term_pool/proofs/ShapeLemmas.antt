-- Each item determines the head symbol and the parts of its node.
use Rattle.std.proofs.Common.{◌≡◌, [], ◌∷◌, refl, ap}
use Rattle.base.specs.TypeData.{TypeData, BoolType, IntType, NumType, AddressType, SignerType, VectorType, StructType, ParamType, SharedType, MutableType, TupleType, NoTypes, MoreTypes}
use Rattle.fol.specs.FormulaData.{TermData, VarTerm, ConstantTerm, UnaryTerm, BinaryTerm, TernaryTerm, PackTerm, FieldTerm, SetFieldTerm, IfTerm, NoTerms, MoreTerms, NoTriggers, MoreTriggers, FormulaData, CompareFormula, IsFormula, HoldsFormula, NotFormula, JoinFormula, ConnectFormula, QuantifyFormula, NoFormulas, MoreFormulas}
use Rattle.term_pool.specs.Items.{Item, NoItem, TermItem, TermsItem, TriggersItem, FormulaItem, FormulasItem, TypeItem, TypesItem, BytesItem, TermSort, TermsSort, TriggersSort, FormulaSort, FormulasSort, TypeSort, TypesSort, BytesSort, sort_of, term_in, terms_in, triggers_in, formula_in, formulas_in, type_in, types_in, bytes_in, leaf_item, one_item, two_item, three_item, one_part, first_of_two, second_of_two, first_of_three, second_of_three, third_of_three}
use Rattle.term_pool.specs.declared.node.Leaf.{Leaf}
use Rattle.term_pool.specs.declared.node.Leaf.TheVariants.{Var, Constant, TypeBool, TypeInt, TypeNum, TypeAddress, TypeSigner, TypeParam, NilTerms, NilTriggers, NilFormulas, NilTypes, NilBytes}
use Rattle.term_pool.specs.declared.node.One.{One}
use Rattle.term_pool.specs.declared.node.One.TheVariants.{Unary, Holds, Not, Join, TypeVector, TypeShared, TypeMutable, TypeTuple, ConsByte}
use Rattle.term_pool.specs.declared.node.Two.{Two}
use Rattle.term_pool.specs.declared.node.Two.TheVariants.{Binary, Pack, Field, Compare, Is, Connect, Quantify, ConsTerm, ConsTrigger, ConsFormula, ConsType}
use Rattle.term_pool.specs.declared.node.Three.{Three}
use Rattle.term_pool.specs.declared.node.Three.TheVariants.{Ternary, SetField, If, TypeStruct}

-- ---- an item of a sort is equal to its reading as that sort

pub a_term : (x : Item) → sort_of x ≡ TermSort → TermItem (term_in x) ≡ x
a_term (TermItem t) e = refl
a_term _ e = absurd (cc)

pub a_list_of_terms : (x : Item) → sort_of x ≡ TermsSort → TermsItem (terms_in x) ≡ x
a_list_of_terms (TermsItem ts) e = refl
a_list_of_terms _ e = absurd (cc)

pub a_list_of_triggers : (x : Item) → sort_of x ≡ TriggersSort → TriggersItem (triggers_in x) ≡ x
a_list_of_triggers (TriggersItem ts) e = refl
a_list_of_triggers _ e = absurd (cc)

pub a_formula : (x : Item) → sort_of x ≡ FormulaSort → FormulaItem (formula_in x) ≡ x
a_formula (FormulaItem p) e = refl
a_formula _ e = absurd (cc)

pub a_list_of_formulas : (x : Item) → sort_of x ≡ FormulasSort → FormulasItem (formulas_in x) ≡ x
a_list_of_formulas (FormulasItem ps) e = refl
a_list_of_formulas _ e = absurd (cc)

pub a_type : (x : Item) → sort_of x ≡ TypeSort → TypeItem (type_in x) ≡ x
a_type (TypeItem a) e = refl
a_type _ e = absurd (cc)

pub a_list_of_types : (x : Item) → sort_of x ≡ TypesSort → TypesItem (types_in x) ≡ x
a_list_of_types (TypesItem ts) e = refl
a_list_of_types _ e = absurd (cc)

pub bytes : (x : Item) → sort_of x ≡ BytesSort → BytesItem (bytes_in x) ≡ x
bytes (BytesItem bs) e = refl
bytes _ e = absurd (cc)

-- ---- the head symbol and the parts

pub data Shape : Type 0 where
  NoShape : Shape
  LeafShape : Leaf → Shape
  OneShape : One → Item → Shape
  TwoShape : Two → Item → Item → Shape
  ThreeShape : Three → Item → Item → Item → Shape

abbrev term_shape : TermData → Shape
term_shape (VarTerm n) = LeafShape (Var n)
term_shape (ConstantTerm c) = LeafShape (Constant c)
term_shape (UnaryTerm o t) = OneShape (Unary o) (TermItem t)
term_shape (BinaryTerm o t u) = TwoShape (Binary o) (TermItem t) (TermItem u)
term_shape (TernaryTerm o t u v) = ThreeShape (Ternary o) (TermItem t) (TermItem u) (TermItem v)
term_shape (PackTerm a ts) = TwoShape Pack (TypeItem a) (TermsItem ts)
term_shape (FieldTerm a k t) = TwoShape (Field k) (TypeItem a) (TermItem t)
term_shape (SetFieldTerm a k t u) = ThreeShape (SetField k) (TypeItem a) (TermItem t) (TermItem u)
term_shape (IfTerm p t u) = ThreeShape If (FormulaItem p) (TermItem t) (TermItem u)

abbrev formula_shape : FormulaData → Shape
formula_shape (CompareFormula o t u) = TwoShape (Compare o) (TermItem t) (TermItem u)
formula_shape (IsFormula a t) = TwoShape Is (TypeItem a) (TermItem t)
formula_shape (HoldsFormula t) = OneShape Holds (TermItem t)
formula_shape (NotFormula p) = OneShape Not (FormulaItem p)
formula_shape (JoinFormula o ps) = OneShape (Join o) (FormulasItem ps)
formula_shape (ConnectFormula o p q) = TwoShape (Connect o) (FormulaItem p) (FormulaItem q)
formula_shape (QuantifyFormula o n ts p) = TwoShape (Quantify o n) (TriggersItem ts) (FormulaItem p)

abbrev type_shape : TypeData → Shape
type_shape BoolType = LeafShape TypeBool
type_shape (IntType w) = LeafShape (TypeInt w)
type_shape NumType = LeafShape TypeNum
type_shape AddressType = LeafShape TypeAddress
type_shape SignerType = LeafShape TypeSigner
type_shape (VectorType a) = OneShape TypeVector (TypeItem a)
type_shape (StructType s ts) = ThreeShape (TypeStruct s.address) (BytesItem s.«module») (BytesItem s.name) (TypesItem ts)
type_shape (ParamType n) = LeafShape (TypeParam n)
type_shape (SharedType a) = OneShape TypeShared (TypeItem a)
type_shape (MutableType a) = OneShape TypeMutable (TypeItem a)
type_shape (TupleType ts) = OneShape TypeTuple (TypesItem ts)

abbrev pub shape_of : Item → Shape
shape_of NoItem = NoShape
shape_of (TermItem t) = term_shape t
shape_of (TermsItem NoTerms) = LeafShape NilTerms
shape_of (TermsItem (MoreTerms t ts)) = TwoShape ConsTerm (TermItem t) (TermsItem ts)
shape_of (TriggersItem NoTriggers) = LeafShape NilTriggers
shape_of (TriggersItem (MoreTriggers t ts)) = TwoShape ConsTrigger (TermsItem t) (TriggersItem ts)
shape_of (FormulaItem p) = formula_shape p
shape_of (FormulasItem NoFormulas) = LeafShape NilFormulas
shape_of (FormulasItem (MoreFormulas p ps)) = TwoShape ConsFormula (FormulaItem p) (FormulasItem ps)
shape_of (TypeItem a) = type_shape a
shape_of (TypesItem NoTypes) = LeafShape NilTypes
shape_of (TypesItem (MoreTypes a ts)) = TwoShape ConsType (TypeItem a) (TypesItem ts)
shape_of (BytesItem []) = LeafShape NilBytes
shape_of (BytesItem (b ∷ bs)) = OneShape (ConsByte b) (BytesItem bs)

pub leaf_shape : (h : Leaf) → shape_of (leaf_item h) ≡ LeafShape h
leaf_shape (Var n) = refl
leaf_shape (Constant c) = refl
leaf_shape TypeBool = refl
leaf_shape (TypeInt w) = refl
leaf_shape TypeNum = refl
leaf_shape TypeAddress = refl
leaf_shape TypeSigner = refl
leaf_shape (TypeParam n) = refl
leaf_shape NilTerms = refl
leaf_shape NilTriggers = refl
leaf_shape NilFormulas = refl
leaf_shape NilTypes = refl
leaf_shape NilBytes = refl

pub one_shape : (h : One) (x : Item) → sort_of x ≡ one_part h → shape_of (one_item h x) ≡ OneShape h x
one_shape (Unary o) x e = ap (OneShape (Unary o)) (a_term x e)
one_shape Holds x e = ap (OneShape Holds) (a_term x e)
one_shape Not x e = ap (OneShape Not) (a_formula x e)
one_shape (Join o) x e = ap (OneShape (Join o)) (a_list_of_formulas x e)
one_shape TypeVector x e = ap (OneShape TypeVector) (a_type x e)
one_shape TypeShared x e = ap (OneShape TypeShared) (a_type x e)
one_shape TypeMutable x e = ap (OneShape TypeMutable) (a_type x e)
one_shape TypeTuple x e = ap (OneShape TypeTuple) (a_list_of_types x e)
one_shape (ConsByte b) x e = ap (OneShape (ConsByte b)) (bytes x e)

pub two_shape : (h : Two) (x y : Item) → sort_of x ≡ first_of_two h → sort_of y ≡ second_of_two h → shape_of (two_item h x y) ≡ TwoShape h x y
two_shape (Binary o) x y e f = λ i. TwoShape (Binary o) (a_term x e i) (a_term y f i)
two_shape Pack x y e f = λ i. TwoShape Pack (a_type x e i) (a_list_of_terms y f i)
two_shape (Field k) x y e f = λ i. TwoShape (Field k) (a_type x e i) (a_term y f i)
two_shape (Compare o) x y e f = λ i. TwoShape (Compare o) (a_term x e i) (a_term y f i)
two_shape Is x y e f = λ i. TwoShape Is (a_type x e i) (a_term y f i)
two_shape (Connect o) x y e f = λ i. TwoShape (Connect o) (a_formula x e i) (a_formula y f i)
two_shape (Quantify o n) x y e f = λ i. TwoShape (Quantify o n) (a_list_of_triggers x e i) (a_formula y f i)
two_shape ConsTerm x y e f = λ i. TwoShape ConsTerm (a_term x e i) (a_list_of_terms y f i)
two_shape ConsTrigger x y e f = λ i. TwoShape ConsTrigger (a_list_of_terms x e i) (a_list_of_triggers y f i)
two_shape ConsFormula x y e f = λ i. TwoShape ConsFormula (a_formula x e i) (a_list_of_formulas y f i)
two_shape ConsType x y e f = λ i. TwoShape ConsType (a_type x e i) (a_list_of_types y f i)

pub three_shape : (h : Three) (x y z : Item) → sort_of x ≡ first_of_three h → sort_of y ≡ second_of_three h → sort_of z ≡ third_of_three h → shape_of (three_item h x y z) ≡ ThreeShape h x y z
three_shape (Ternary o) x y z e f g = λ i. ThreeShape (Ternary o) (a_term x e i) (a_term y f i) (a_term z g i)
three_shape (SetField k) x y z e f g = λ i. ThreeShape (SetField k) (a_type x e i) (a_term y f i) (a_term z g i)
three_shape If x y z e f g = λ i. ThreeShape If (a_formula x e i) (a_term y f i) (a_term z g i)
three_shape (TypeStruct a) x y z e f g = λ i. ThreeShape (TypeStruct a) (bytes x e i) (bytes y f i) (a_list_of_types z g i)
