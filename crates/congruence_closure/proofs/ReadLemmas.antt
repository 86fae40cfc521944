-- The items that trees represent are those from which they were made, and their parts have the sorts that their head
-- symbols require.
use Rattle.std.proofs.Common.{◌≡◌, ℕ, List, [], ◌∷◌, Bool, true, false, cond, refl, ap}
use Rattle.base.specs.TypeData.{TypeData, TypesData, BoolType, IntType, NumType, AddressType, SignerType, VectorType, StructType, ParamType, SharedType, MutableType, TupleType, NoTypes, MoreTypes}
use Rattle.fol.specs.FormulaData.{TermData, VarTerm, ConstantTerm, UnaryTerm, BinaryTerm, TernaryTerm, PackTerm, FieldTerm, SetFieldTerm, IfTerm, TermsData, NoTerms, MoreTerms, TriggersData, NoTriggers, MoreTriggers, FormulaData, CompareFormula, IsFormula, HoldsFormula, NotFormula, JoinFormula, ConnectFormula, QuantifyFormula, FormulasData, NoFormulas, MoreFormulas}
use Rattle.term_pool.specs.declared.node.Leaf.TheVariants.{Var}
use Rattle.term_pool.specs.declared.node.One.TheVariants.{Unary, Holds, Not, Join, TypeVector, TypeShared, TypeMutable, TypeTuple, ConsByte}
use Rattle.term_pool.specs.declared.node.Two.TheVariants.{Binary, Pack, Field, Compare, Is, Connect, Quantify, ConsTerm, ConsTrigger, ConsFormula, ConsType}
use Rattle.term_pool.specs.declared.node.Three.TheVariants.{Ternary, SetField, If, TypeStruct}
use Rattle.term_pool.specs.Items.{Item, NoItem, TermItem, TermsItem, TriggersItem, FormulaItem, FormulasItem, TypeItem, TypesItem, BytesItem, sort_of, leaf_item, one_item, two_item, three_item, one_part, first_of_two, second_of_two, first_of_three, second_of_three, third_of_three}
use Rattle.congruence_closure.specs.Trees.{plain_bytes, plain_type, plain_types, plain_term, plain_terms, plain_triggers, plain_formula, plain_formulas, Tree, BoundTree, LeafTree, OneTree, TwoTree, ThreeTree, among, renamed, tree_of}

-- the item of the tree, where bound variables count as variables again
abbrev pub read : Tree → Item
read (BoundTree n) = TermItem (VarTerm n)
read (LeafTree h) = leaf_item h
read (OneTree h x) = one_item h (read x)
read (TwoTree h x y) = two_item h (read x) (read y)
read (ThreeTree h x y z) = three_item h (read x) (read y) (read z)

read_variable : (bound : List ℕ) (n : ℕ) (b : Bool) → read (cond b (BoundTree n) (LeafTree (Var n))) ≡ TermItem (VarTerm n)
read_variable bound n true = refl
read_variable bound n false = refl

pub read_bytes : (bound : List ℕ) (bs : List ℕ) → read (renamed bound (plain_bytes bs)) ≡ BytesItem bs
read_bytes bound [] = refl
read_bytes bound (b ∷ bs) = ap (one_item (ConsByte b)) (read_bytes bound bs)

mutual
  pub read_type : (bound : List ℕ) (a : TypeData) → read (renamed bound (plain_type a)) ≡ TypeItem a
  read_type bound BoolType = refl
  read_type bound (IntType w) = refl
  read_type bound NumType = refl
  read_type bound AddressType = refl
  read_type bound SignerType = refl
  read_type bound (VectorType a) = ap (one_item TypeVector) (read_type bound a)
  read_type bound (StructType s ts) = λ i. three_item (TypeStruct s.address) (read_bytes bound s.«module» i) (read_bytes bound s.name i) (read_types bound ts i)
  read_type bound (ParamType n) = refl
  read_type bound (SharedType a) = ap (one_item TypeShared) (read_type bound a)
  read_type bound (MutableType a) = ap (one_item TypeMutable) (read_type bound a)
  read_type bound (TupleType ts) = ap (one_item TypeTuple) (read_types bound ts)

  pub read_types : (bound : List ℕ) (ts : TypesData) → read (renamed bound (plain_types ts)) ≡ TypesItem ts
  read_types bound NoTypes = refl
  read_types bound (MoreTypes a ts) = λ i. two_item ConsType (read_type bound a i) (read_types bound ts i)

mutual
  pub read_term : (bound : List ℕ) (t : TermData) → read (renamed bound (plain_term t)) ≡ TermItem t
  read_term bound (VarTerm n) = read_variable bound n (among n bound)
  read_term bound (ConstantTerm c) = refl
  read_term bound (UnaryTerm o t) = ap (one_item (Unary o)) (read_term bound t)
  read_term bound (BinaryTerm o t u) = λ i. two_item (Binary o) (read_term bound t i) (read_term bound u i)
  read_term bound (TernaryTerm o t u v) = λ i. three_item (Ternary o) (read_term bound t i) (read_term bound u i) (read_term bound v i)
  read_term bound (PackTerm a ts) = λ i. two_item Pack (read_type bound a i) (read_terms bound ts i)
  read_term bound (FieldTerm a k t) = λ i. two_item (Field k) (read_type bound a i) (read_term bound t i)
  read_term bound (SetFieldTerm a k t u) = λ i. three_item (SetField k) (read_type bound a i) (read_term bound t i) (read_term bound u i)
  read_term bound (IfTerm p t u) = λ i. three_item If (read_formula bound p i) (read_term bound t i) (read_term bound u i)

  pub read_terms : (bound : List ℕ) (ts : TermsData) → read (renamed bound (plain_terms ts)) ≡ TermsItem ts
  read_terms bound NoTerms = refl
  read_terms bound (MoreTerms t ts) = λ i. two_item ConsTerm (read_term bound t i) (read_terms bound ts i)

  pub read_triggers : (bound : List ℕ) (ts : TriggersData) → read (renamed bound (plain_triggers ts)) ≡ TriggersItem ts
  read_triggers bound NoTriggers = refl
  read_triggers bound (MoreTriggers t ts) = λ i. two_item ConsTrigger (read_terms bound t i) (read_triggers bound ts i)

  pub read_formula : (bound : List ℕ) (p : FormulaData) → read (renamed bound (plain_formula p)) ≡ FormulaItem p
  read_formula bound (CompareFormula o t u) = λ i. two_item (Compare o) (read_term bound t i) (read_term bound u i)
  read_formula bound (IsFormula a t) = λ i. two_item Is (read_type bound a i) (read_term bound t i)
  read_formula bound (HoldsFormula t) = ap (one_item Holds) (read_term bound t)
  read_formula bound (NotFormula p) = ap (one_item Not) (read_formula bound p)
  read_formula bound (JoinFormula o ps) = ap (one_item (Join o)) (read_formulas bound ps)
  read_formula bound (ConnectFormula o p q) = λ i. two_item (Connect o) (read_formula bound p i) (read_formula bound q i)
  read_formula bound (QuantifyFormula o n ts p) = λ i. two_item (Quantify o n) (read_triggers (n ∷ bound) ts i) (read_formula (n ∷ bound) p i)

  pub read_formulas : (bound : List ℕ) (ps : FormulasData) → read (renamed bound (plain_formulas ps)) ≡ FormulasItem ps
  read_formulas bound NoFormulas = refl
  read_formulas bound (MoreFormulas p ps) = λ i. two_item ConsFormula (read_formula bound p i) (read_formulas bound ps i)

-- ---- sorts

-- the parts of the tree, and theirs, have the sorts that their head symbols require
abbrev pub IsSorted : Tree → Type 0
IsSorted (BoundTree n) = Unit {0}
IsSorted (LeafTree h) = Unit {0}
IsSorted (OneTree h x) = (sort_of (read x) ≡ one_part h) × IsSorted x
IsSorted (TwoTree h x y) = (sort_of (read x) ≡ first_of_two h) × (sort_of (read y) ≡ second_of_two h) × IsSorted x × IsSorted y
IsSorted (ThreeTree h x y z) = (sort_of (read x) ≡ first_of_three h) × (sort_of (read y) ≡ second_of_three h) × (sort_of (read z) ≡ third_of_three h) × IsSorted x × IsSorted y × IsSorted z

sorted_variable : (n : ℕ) (b : Bool) → IsSorted (cond b (BoundTree n) (LeafTree (Var n)))
sorted_variable n true = tt
sorted_variable n false = tt

sorted_bytes : (bound : List ℕ) (bs : List ℕ) → IsSorted (renamed bound (plain_bytes bs))
sorted_bytes bound [] = tt
sorted_bytes bound (b ∷ bs) = (ap sort_of (read_bytes bound bs), sorted_bytes bound bs)

mutual
  sorted_type : (bound : List ℕ) (a : TypeData) → IsSorted (renamed bound (plain_type a))
  sorted_type bound BoolType = tt
  sorted_type bound (IntType w) = tt
  sorted_type bound NumType = tt
  sorted_type bound AddressType = tt
  sorted_type bound SignerType = tt
  sorted_type bound (VectorType a) = (ap sort_of (read_type bound a), sorted_type bound a)
  sorted_type bound (StructType s ts) = (ap sort_of (read_bytes bound s.«module»), ap sort_of (read_bytes bound s.name), ap sort_of (read_types bound ts), sorted_bytes bound s.«module», sorted_bytes bound s.name, sorted_types bound ts)
  sorted_type bound (ParamType n) = tt
  sorted_type bound (SharedType a) = (ap sort_of (read_type bound a), sorted_type bound a)
  sorted_type bound (MutableType a) = (ap sort_of (read_type bound a), sorted_type bound a)
  sorted_type bound (TupleType ts) = (ap sort_of (read_types bound ts), sorted_types bound ts)

  sorted_types : (bound : List ℕ) (ts : TypesData) → IsSorted (renamed bound (plain_types ts))
  sorted_types bound NoTypes = tt
  sorted_types bound (MoreTypes a ts) = (ap sort_of (read_type bound a), ap sort_of (read_types bound ts), sorted_type bound a, sorted_types bound ts)

mutual
  sorted_term : (bound : List ℕ) (t : TermData) → IsSorted (renamed bound (plain_term t))
  sorted_term bound (VarTerm n) = sorted_variable n (among n bound)
  sorted_term bound (ConstantTerm c) = tt
  sorted_term bound (UnaryTerm o t) = (ap sort_of (read_term bound t), sorted_term bound t)
  sorted_term bound (BinaryTerm o t u) = (ap sort_of (read_term bound t), ap sort_of (read_term bound u), sorted_term bound t, sorted_term bound u)
  sorted_term bound (TernaryTerm o t u v) = (ap sort_of (read_term bound t), ap sort_of (read_term bound u), ap sort_of (read_term bound v), sorted_term bound t, sorted_term bound u, sorted_term bound v)
  sorted_term bound (PackTerm a ts) = (ap sort_of (read_type bound a), ap sort_of (read_terms bound ts), sorted_type bound a, sorted_terms bound ts)
  sorted_term bound (FieldTerm a k t) = (ap sort_of (read_type bound a), ap sort_of (read_term bound t), sorted_type bound a, sorted_term bound t)
  sorted_term bound (SetFieldTerm a k t u) = (ap sort_of (read_type bound a), ap sort_of (read_term bound t), ap sort_of (read_term bound u), sorted_type bound a, sorted_term bound t, sorted_term bound u)
  sorted_term bound (IfTerm p t u) = (ap sort_of (read_formula bound p), ap sort_of (read_term bound t), ap sort_of (read_term bound u), sorted_formula bound p, sorted_term bound t, sorted_term bound u)

  sorted_terms : (bound : List ℕ) (ts : TermsData) → IsSorted (renamed bound (plain_terms ts))
  sorted_terms bound NoTerms = tt
  sorted_terms bound (MoreTerms t ts) = (ap sort_of (read_term bound t), ap sort_of (read_terms bound ts), sorted_term bound t, sorted_terms bound ts)

  sorted_triggers : (bound : List ℕ) (ts : TriggersData) → IsSorted (renamed bound (plain_triggers ts))
  sorted_triggers bound NoTriggers = tt
  sorted_triggers bound (MoreTriggers t ts) = (ap sort_of (read_terms bound t), ap sort_of (read_triggers bound ts), sorted_terms bound t, sorted_triggers bound ts)

  sorted_formula : (bound : List ℕ) (p : FormulaData) → IsSorted (renamed bound (plain_formula p))
  sorted_formula bound (CompareFormula o t u) = (ap sort_of (read_term bound t), ap sort_of (read_term bound u), sorted_term bound t, sorted_term bound u)
  sorted_formula bound (IsFormula a t) = (ap sort_of (read_type bound a), ap sort_of (read_term bound t), sorted_type bound a, sorted_term bound t)
  sorted_formula bound (HoldsFormula t) = (ap sort_of (read_term bound t), sorted_term bound t)
  sorted_formula bound (NotFormula p) = (ap sort_of (read_formula bound p), sorted_formula bound p)
  sorted_formula bound (JoinFormula o ps) = (ap sort_of (read_formulas bound ps), sorted_formulas bound ps)
  sorted_formula bound (ConnectFormula o p q) = (ap sort_of (read_formula bound p), ap sort_of (read_formula bound q), sorted_formula bound p, sorted_formula bound q)
  sorted_formula bound (QuantifyFormula o n ts p) = (ap sort_of (read_triggers (n ∷ bound) ts), ap sort_of (read_formula (n ∷ bound) p), sorted_triggers (n ∷ bound) ts, sorted_formula (n ∷ bound) p)

  sorted_formulas : (bound : List ℕ) (ps : FormulasData) → IsSorted (renamed bound (plain_formulas ps))
  sorted_formulas bound NoFormulas = tt
  sorted_formulas bound (MoreFormulas p ps) = (ap sort_of (read_formula bound p), ap sort_of (read_formulas bound ps), sorted_formula bound p, sorted_formulas bound ps)

pub sorted_item : (bound : List ℕ) (x : Item) → IsSorted (tree_of bound x)
sorted_item bound NoItem = tt
sorted_item bound (TermItem t) = sorted_term bound t
sorted_item bound (TermsItem ts) = sorted_terms bound ts
sorted_item bound (TriggersItem ts) = sorted_triggers bound ts
sorted_item bound (FormulaItem p) = sorted_formula bound p
sorted_item bound (FormulasItem ps) = sorted_formulas bound ps
sorted_item bound (TypeItem a) = sorted_type bound a
sorted_item bound (TypesItem ts) = sorted_types bound ts
sorted_item bound (BytesItem bs) = sorted_bytes bound bs
