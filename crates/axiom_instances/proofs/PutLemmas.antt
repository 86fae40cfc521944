-- Substitution of type arguments, head symbol by head symbol.
use Rattle.std.proofs.Common.{◌≡◌, ◌≢◌, ℕ, suc, ◌<◌, Bool, true, false, List, [], ◌∷◌, length, Option, Some, None, refl, sym, ap, ◌∙◌, subst, arith}
use Rattle.std.specs.Prelude.{slice_get}
use Rattle.base.specs.TypeData.{TypeData, BoolType, IntType, NumType, AddressType, SignerType, VectorType, StructType, ParamType, SharedType, MutableType, TupleType, TypesData, NoTypes, MoreTypes, list_of_types}
use Rattle.base.specs.declared.types.StructId.{StructId}
use Rattle.axioms.specs.Fields.{IsPut, ArePut}
use Rattle.term_pool.specs.Items.{Item, NoItem, TermItem, TermsItem, TriggersItem, FormulaItem, FormulasItem, TypeItem, TypesItem, BytesItem, Sort, NoSort, TermSort, TermsSort, TriggersSort, FormulaSort, FormulasSort, TypeSort, TypesSort, BytesSort, sort_of, type_in, types_in, bytes_in, leaf_item, one_item, two_item, three_item, one_part, first_of_two, second_of_two, first_of_three, second_of_three, third_of_three}
use Rattle.term_pool.specs.Pools.{item_at, HasPart, HasParts, IsItem, IsMade, Extends}
use Rattle.term_pool.specs.declared.node.Leaf.{Leaf}
use Rattle.term_pool.specs.declared.node.Leaf.TheVariants.{Var, Constant, TypeBool, TypeInt, TypeNum, TypeAddress, TypeSigner, TypeParam, NilTerms, NilTriggers, NilFormulas, NilTypes, NilBytes}
use Rattle.term_pool.specs.declared.node.One.{One}
use Rattle.term_pool.specs.declared.node.One.TheVariants.{Unary, Holds, Not, Join, TypeVector, TypeShared, TypeMutable, TypeTuple, ConsByte}
use Rattle.term_pool.specs.declared.node.Two.{Two}
use Rattle.term_pool.specs.declared.node.Two.TheVariants.{Binary, Pack, Field, Compare, Is, Connect, Quantify, ConsTerm, ConsTrigger, ConsFormula, ConsType}
use Rattle.term_pool.specs.declared.node.Three.{Three}
use Rattle.term_pool.specs.declared.node.Three.TheVariants.{Ternary, SetField, If, TypeStruct}
use Rattle.term_pool.specs.declared.node.Node.{Node}
use Rattle.term_pool.specs.declared.node.Node.TheVariants.{Leaf as LeafNode, One as OneNode, Two as TwoNode, Three as ThreeNode}
use Rattle.term_pool.proofs.ItemLemmas.{item_kept}
use Rattle.term_pool.proofs.GrowthLemmas.{item_stays, one_made, two_made, three_made, one_parts, two_parts, three_parts}
use Rattle.term_pool.proofs.ShapeLemmas.{a_type, a_list_of_types}
use Rattle.axiom_instances.specs.Puts.{types_at, IsTypesNumber, IsTypeNumber, IsArgument, is_fixed, IsPutItem, HasNoPut, IsPutNumber}

module _ (args : List TypeData) where
  -- ---- sorts

  pub same_sort : (x y : Item) → IsPutItem args x y → sort_of y ≡ sort_of x
  same_sort (TypeItem a) (TypeItem b) h = refl
  same_sort (TypesItem as') (TypesItem bs) h = refl
  same_sort _ _ h = absurd h

  abbrev is_type_sort : Sort → Bool
  is_type_sort TypeSort = true
  is_type_sort TypesSort = true
  is_type_sort _ = false

  type_sort : (x y : Item) → IsPutItem args x y → is_type_sort (sort_of x) ≡ true
  type_sort (TypeItem a) y h = refl
  type_sort (TypesItem as') y h = refl
  type_sort _ y h = absurd h

  wrong : {s : Sort} (x y : Item) → sort_of x ≡ s → is_type_sort s ≡ false → IsPutItem args x y → ⊥
  wrong x y e f h = let both : false ≡ true = sym f ∙ ap is_type_sort (sym e) ∙ type_sort x y h in absurd (cc)

  -- ---- a type, or a list of types, and its result

  type_forth : (a : TypeData) (y : Item) → IsPutItem args (TypeItem a) y → IsPut args a (type_in y)
  type_forth a (TypeItem b) h = h
  type_forth a _ h = absurd h

  types_forth : (as' : TypesData) (y : Item) → IsPutItem args (TypesItem as') y → ArePut args as' (types_in y)
  types_forth as' (TypesItem bs) h = h
  types_forth as' _ h = absurd h

  of_type : (x y : Item) → sort_of x ≡ TypeSort → IsPutItem args x y → IsPut args (type_in x) (type_in y)
  of_type x y e h = type_forth (type_in x) y (subst (λ w. IsPutItem args w y) (sym (a_type x e)) h)

  of_types : (x y : Item) → sort_of x ≡ TypesSort → IsPutItem args x y → ArePut args (types_in x) (types_in y)
  of_types x y e h = types_forth (types_in x) y (subst (λ w. IsPutItem args w y) (sym (a_list_of_types x e)) h)

  -- some item is this one with the arguments substituted
  pub record Becomes (x : Item) : Type 0 where
    pub item : Item
    pub put : IsPutItem args x item

  a_type_becomes : (x : Item) (b : TypeData) → sort_of x ≡ TypeSort → IsPut args (type_in x) b → Becomes x
  a_type_becomes x b e h = subst Becomes (a_type x e) (record { item = TypeItem b; put = h })

  types_become : (x : Item) (bs : TypesData) → sort_of x ≡ TypesSort → ArePut args (types_in x) bs → Becomes x
  types_become x bs e h = subst Becomes (a_list_of_types x e) (record { item = TypesItem bs; put = h })

  -- ---- head symbols of one part

  one_forth : (h : One) (x y : Item) → sort_of x ≡ one_part h → IsPutItem args x y → IsPutItem args (one_item h x) (one_item h y)
  one_forth TypeVector x y e p = of_type x y e p
  one_forth TypeShared x y e p = of_type x y e p
  one_forth TypeMutable x y e p = of_type x y e p
  one_forth TypeTuple x y e p = of_types x y e p
  one_forth (Unary o) x y e p = absurd (wrong x y e refl p)
  one_forth Holds x y e p = absurd (wrong x y e refl p)
  one_forth Not x y e p = absurd (wrong x y e refl p)
  one_forth (Join o) x y e p = absurd (wrong x y e refl p)
  one_forth (ConsByte b) x y e p = absurd (wrong x y e refl p)

  vector_back : (x z : Item) → sort_of x ≡ TypeSort → IsPutItem args (TypeItem (VectorType (type_in x))) z → Becomes x
  vector_back x (TypeItem (VectorType b)) e p = a_type_becomes x b e p
  vector_back x _ e p = absurd p

  shared_back : (x z : Item) → sort_of x ≡ TypeSort → IsPutItem args (TypeItem (SharedType (type_in x))) z → Becomes x
  shared_back x (TypeItem (SharedType b)) e p = a_type_becomes x b e p
  shared_back x _ e p = absurd p

  mutable_back : (x z : Item) → sort_of x ≡ TypeSort → IsPutItem args (TypeItem (MutableType (type_in x))) z → Becomes x
  mutable_back x (TypeItem (MutableType b)) e p = a_type_becomes x b e p
  mutable_back x _ e p = absurd p

  tuple_back : (x z : Item) → sort_of x ≡ TypesSort → IsPutItem args (TypeItem (TupleType (types_in x))) z → Becomes x
  tuple_back x (TypeItem (TupleType bs)) e p = types_become x bs e p
  tuple_back x _ e p = absurd p

  one_back : (h : One) (x z : Item) → sort_of x ≡ one_part h → IsPutItem args (one_item h x) z → Becomes x
  one_back TypeVector x z e p = vector_back x z e p
  one_back TypeShared x z e p = shared_back x z e p
  one_back TypeMutable x z e p = mutable_back x z e p
  one_back TypeTuple x z e p = tuple_back x z e p
  one_back _ x z e p = absurd p

  -- ---- head symbols of two parts

  two_forth : (h : Two) (x y z w : Item) → sort_of x ≡ first_of_two h → sort_of y ≡ second_of_two h → IsPutItem args x z → IsPutItem args y w → IsPutItem args (two_item h x y) (two_item h z w)
  two_forth ConsType x y z w e f p q = (of_type x z e p, of_types y w f q)
  two_forth (Binary o) x y z w e f p q = absurd (wrong x z e refl p)
  two_forth Pack x y z w e f p q = absurd (wrong y w f refl q)
  two_forth (Field k) x y z w e f p q = absurd (wrong y w f refl q)
  two_forth (Compare o) x y z w e f p q = absurd (wrong x z e refl p)
  two_forth Is x y z w e f p q = absurd (wrong y w f refl q)
  two_forth (Connect o) x y z w e f p q = absurd (wrong x z e refl p)
  two_forth (Quantify o n) x y z w e f p q = absurd (wrong x z e refl p)
  two_forth ConsTerm x y z w e f p q = absurd (wrong x z e refl p)
  two_forth ConsTrigger x y z w e f p q = absurd (wrong x z e refl p)
  two_forth ConsFormula x y z w e f p q = absurd (wrong x z e refl p)

  list_back : (x y z : Item) → sort_of x ≡ TypeSort → sort_of y ≡ TypesSort → IsPutItem args (TypesItem (MoreTypes (type_in x) (types_in y))) z → Becomes x × Becomes y
  list_back x y (TypesItem (MoreTypes b bs)) e f p = (a_type_becomes x b e p.0, types_become y bs f p.1)
  list_back x y _ e f p = absurd p

  two_back : (h : Two) (x y z : Item) → sort_of x ≡ first_of_two h → sort_of y ≡ second_of_two h → IsPutItem args (two_item h x y) z → Becomes x × Becomes y
  two_back ConsType x y z e f p = list_back x y z e f p
  two_back _ x y z e f p = absurd p

  -- ---- head symbols of three parts

  three_forth : (h : Three) (x y z w : Item) → sort_of z ≡ third_of_three h → IsPutItem args z w → IsPutItem args (three_item h x y z) (three_item h x y w)
  three_forth (TypeStruct n) x y z w e p = (refl, of_types z w e p)
  three_forth (Ternary o) x y z w e p = absurd (wrong z w e refl p)
  three_forth (SetField k) x y z w e p = absurd (wrong z w e refl p)
  three_forth If x y z w e p = absurd (wrong z w e refl p)

  struct_back : (s : StructId) (x z : Item) → sort_of x ≡ TypesSort → IsPutItem args (TypeItem (StructType s (types_in x))) z → Becomes x
  struct_back s x (TypeItem (StructType r bs)) e p = types_become x bs e p.1
  struct_back s x _ e p = absurd p

  three_back : (h : Three) (x y z v : Item) → sort_of z ≡ third_of_three h → IsPutItem args (three_item h x y z) v → Becomes z
  three_back (TypeStruct n) x y z v e p = struct_back _ z v e p
  three_back _ x y z v e p = absurd p

  -- ---- head symbols without parts

  pub leaf_itself : (h : Leaf) → is_fixed h ≡ true → IsPutItem args (leaf_item h) (leaf_item h)
  leaf_itself TypeBool e = tt
  leaf_itself (TypeInt w) e = refl
  leaf_itself TypeNum e = tt
  leaf_itself TypeAddress e = tt
  leaf_itself TypeSigner e = tt
  leaf_itself NilTypes e = tt
  leaf_itself _ e = absurd (cc)

  pub leaf_none : (h : Leaf) → is_fixed h ≡ false → ((n : ℕ) → h ≡ TypeParam n → ⊥) → HasNoPut args (leaf_item h)
  leaf_none (TypeParam n) e d = absurd (d n refl)
  leaf_none TypeBool e d = absurd (cc)
  leaf_none (TypeInt w) e d = absurd (cc)
  leaf_none TypeNum e d = absurd (cc)
  leaf_none TypeAddress e d = absurd (cc)
  leaf_none TypeSigner e d = absurd (cc)
  leaf_none NilTypes e d = absurd (cc)
  leaf_none _ e d = record { none = λ y p. absurd p }

  param_back : (n : ℕ) (y : Item) → IsPutItem args (TypeItem (ParamType n)) y → slice_get args n ≡ None → ⊥
  param_back n (TypeItem b) p e = let both : None ≡ Some b = sym e ∙ p in absurd (cc)
  param_back n _ p e = absurd p

  pub no_argument : (n : ℕ) → slice_get args n ≡ None → HasNoPut args (TypeItem (ParamType n))
  no_argument n e = record { none = λ y p. param_back n y p e }

  pub an_argument : (ns : List Node) (n m : ℕ) → IsArgument ns args n m → IsPutNumber ns args (TypeItem (ParamType n)) m
  an_argument ns n m h = record { item = _; is = h.number; put = h.found }

  -- ---- by number

  module _ (ns : List Node) where
    pub one_parts_put : (h : One) (x : Item) (a : ℕ) → sort_of x ≡ one_part h → IsPutNumber ns args x a → HasParts ns (length ns) (OneNode h a)
    one_parts_put h x a e p = one_parts h p.is (same_sort x p.item p.put ∙ e)

    pub two_parts_put : (h : Two) (x y : Item) (a b : ℕ) → sort_of x ≡ first_of_two h → sort_of y ≡ second_of_two h → IsPutNumber ns args x a → IsPutNumber ns args y b → HasParts ns (length ns) (TwoNode h a b)
    two_parts_put h x y a b e f p q = two_parts h p.is q.is (same_sort x p.item p.put ∙ e) (same_sort y q.item q.put ∙ f)

    pub three_parts_put : (h : Three) (x y z : Item) (a b c : ℕ) → IsItem ns a x → IsItem ns b y → sort_of x ≡ first_of_three h → sort_of y ≡ second_of_three h → sort_of z ≡ third_of_three h → IsPutNumber ns args z c → HasParts ns (length ns) (ThreeNode h a b c)
    three_parts_put h x y z a b c i j e f g p = three_parts h i j p.is e f (same_sort z p.item p.put ∙ g)

    module _ (ms : List Node) (grown : Extends ns ms) where
      pub put_stays : (x : Item) (n : ℕ) → IsPutNumber ns args x n → IsPutNumber ms args x n
      put_stays x n p = record { item = p.item; is = item_stays grown p.is; put = p.put }

      pub one_put : (h : One) (x : Item) (a k : ℕ) → sort_of x ≡ one_part h → IsPutNumber ns args x a → IsMade ms k (OneNode h a) → IsPutNumber ms args (one_item h x) k
      one_put h x a k e p made =
          let is = one_made h grown (one_parts_put h x a e p) made in
          record { item = one_item h p.item; is = record { within = is.within; is = is.is ∙ ap (one_item h) p.is.is }; put = one_forth h x p.item e p.put }

      pub two_put : (h : Two) (x y : Item) (a b k : ℕ) → sort_of x ≡ first_of_two h → sort_of y ≡ second_of_two h → IsPutNumber ns args x a → IsPutNumber ns args y b → IsMade ms k (TwoNode h a b) → IsPutNumber ms args (two_item h x y) k
      two_put h x y a b k e f p q made =
          let is = two_made h grown (two_parts_put h x y a b e f p q) made in
          record {
            item = two_item h p.item q.item;
            is = record { within = is.within; is = is.is ∙ (λ i. two_item h (p.is.is i) (q.is.is i)) };
            put = two_forth h x y p.item q.item e f p.put q.put;
          }

      pub three_put : (h : Three) (x y z : Item) (a b c k : ℕ) → IsItem ns a x → IsItem ns b y → sort_of x ≡ first_of_three h → sort_of y ≡ second_of_three h → sort_of z ≡ third_of_three h → IsPutNumber ns args z c → IsMade ms k (ThreeNode h a b c) → IsPutNumber ms args (three_item h x y z) k
      three_put h x y z a b c k i j e f g p made =
          let is = three_made h grown (three_parts_put h x y z a b c i j e f g p) made in
          record {
            item = three_item h x y p.item;
            is = record { within = is.within; is = is.is ∙ (λ l. three_item h (i.is l) (j.is l) (p.is.is l)) };
            put = three_forth h x y z p.item g p.put;
          }

  -- ---- a part without a result

  pub one_none : (h : One) (x : Item) → sort_of x ≡ one_part h → HasNoPut args x → HasNoPut args (one_item h x)
  one_none h x e none = record { none = λ z p. (let b = one_back h x z e p in none.none b.item b.put) }

  pub first_none : (h : Two) (x y : Item) → sort_of x ≡ first_of_two h → sort_of y ≡ second_of_two h → HasNoPut args x → HasNoPut args (two_item h x y)
  first_none h x y e f none = record { none = λ z p. (let b = two_back h x y z e f p in none.none b.0.item b.0.put) }

  pub second_none : (h : Two) (x y : Item) → sort_of x ≡ first_of_two h → sort_of y ≡ second_of_two h → HasNoPut args y → HasNoPut args (two_item h x y)
  second_none h x y e f none = record { none = λ z p. (let b = two_back h x y z e f p in none.none b.1.item b.1.put) }

  pub third_none : (h : Three) (x y z : Item) → sort_of z ≡ third_of_three h → HasNoPut args z → HasNoPut args (three_item h x y z)
  third_none h x y z e none = record { none = λ v p. (let b = three_back h x y z v e p in none.none b.item b.put) }

-- ---- arguments in a pool that is extended

pub types_kept : (ns ms : List Node) (args : ℕ) → Extends ns ms → IsTypesNumber ns args → types_at ms args ≡ types_at ns args
types_kept ns ms args grown h = ap (λ x. list_of_types (types_in x)) (item_kept ns ms grown args h.within)

pub types_stay : (ns ms : List Node) (args : ℕ) → Extends ns ms → IsTypesNumber ns args → IsTypesNumber ms args
types_stay ns ms args grown h =
    let stays = item_stays grown h in
    record { within = stays.within; is = stays.is ∙ ap (λ x. TypesItem (types_in x)) (sym (item_kept ns ms grown args h.within)) }

-- ---- node by node

module _ (args : List TypeData) (ns : List Node) (n : ℕ) where
  pub node_one_none : (h : One) (a : ℕ) → IsMade ns n (OneNode h a) → HasNoPut args (item_at ns a) → HasNoPut args (item_at ns n)
  node_one_none h a m none = subst (HasNoPut args) (sym m.item) (one_none args h (item_at ns a) m.parts.sort none)

  pub node_first_none : (h : Two) (a b : ℕ) → IsMade ns n (TwoNode h a b) → HasNoPut args (item_at ns a) → HasNoPut args (item_at ns n)
  node_first_none h a b m none =
      subst (HasNoPut args) (sym m.item) (first_none args h (item_at ns a) (item_at ns b) m.parts.0.sort m.parts.1.sort none)

  pub node_second_none : (h : Two) (a b : ℕ) → IsMade ns n (TwoNode h a b) → HasNoPut args (item_at ns b) → HasNoPut args (item_at ns n)
  node_second_none h a b m none =
      subst (HasNoPut args) (sym m.item) (second_none args h (item_at ns a) (item_at ns b) m.parts.0.sort m.parts.1.sort none)

  pub node_third_none : (h : Three) (a b c : ℕ) → IsMade ns n (ThreeNode h a b c) → HasNoPut args (item_at ns c) → HasNoPut args (item_at ns n)
  node_third_none h a b c m none =
      subst (HasNoPut args) (sym m.item) (third_none args h (item_at ns a) (item_at ns b) (item_at ns c) m.parts.2.sort none)

  module _ (ms ks : List Node) (grown : Extends ms ks) (k : ℕ) where
    pub node_one_put : (h : One) (a p : ℕ) → IsMade ns n (OneNode h a) → IsPutNumber ms args (item_at ns a) p → IsMade ks k (OneNode h p) → IsPutNumber ks args (item_at ns n) k
    node_one_put h a p m put made =
        subst (λ x. IsPutNumber ks args x k) (sym m.item) (one_put args ms ks grown h (item_at ns a) p k m.parts.sort put made)

    pub node_two_put : (h : Two) (a b p q : ℕ) → IsMade ns n (TwoNode h a b) → IsPutNumber ms args (item_at ns a) p → IsPutNumber ms args (item_at ns b) q → IsMade ks k (TwoNode h p q) → IsPutNumber ks args (item_at ns n) k
    node_two_put h a b p q m first second made =
        subst (λ x. IsPutNumber ks args x k) (sym m.item) (two_put args ms ks grown h (item_at ns a) (item_at ns b) p q k m.parts.0.sort m.parts.1.sort first second made)

    pub node_three_put : (h : Three) (a b c p : ℕ) → Extends ns ms → n < length ns → IsMade ns n (ThreeNode h a b c) → IsPutNumber ms args (item_at ns c) p → IsMade ks k (ThreeNode h a b p) → IsPutNumber ks args (item_at ns n) k
    node_three_put h a b c p e w m put made =
        let i : IsItem ns a (item_at ns a) = record { within = (let l = m.parts.0.earlier in omega (arith, l, w)); is = refl } in
        let j : IsItem ns b (item_at ns b) = record { within = (let l = m.parts.1.earlier in omega (arith, l, w)); is = refl } in
        subst (λ x. IsPutNumber ks args x k) (sym m.item) (three_put args ms ks grown h (item_at ns a) (item_at ns b) (item_at ns c) a b p k (item_stays e i) (item_stays e j) m.parts.0.sort m.parts.1.sort m.parts.2.sort put made)

  pub node_three_parts : (ms : List Node) (h : Three) (a b c p : ℕ) → Extends ns ms → n < length ns → IsMade ns n (ThreeNode h a b c) → IsPutNumber ms args (item_at ns c) p → HasParts ms (length ms) (ThreeNode h a b p)
  node_three_parts ms h a b c p e w m put =
      let i : IsItem ns a (item_at ns a) = record { within = (let l = m.parts.0.earlier in omega (arith, l, w)); is = refl } in
      let j : IsItem ns b (item_at ns b) = record { within = (let l = m.parts.1.earlier in omega (arith, l, w)); is = refl } in
      three_parts_put args ms h (item_at ns a) (item_at ns b) (item_at ns c) a b p (item_stays e i) (item_stays e j) m.parts.0.sort m.parts.1.sort m.parts.2.sort put

-- properties of a part in a pool that has been extended since
module _ (ns ms : List Node) (args b : ℕ) (grown : Extends ns ms) (h : IsTypesNumber ns args) (w : b < length ns) where
  pub none_before : HasNoPut (types_at ms args) (item_at ms b) → HasNoPut (types_at ns args) (item_at ns b)
  none_before none =
      subst (λ ts. HasNoPut ts (item_at ns b)) (types_kept ns ms args grown h) (subst (HasNoPut (types_at ms args)) (item_kept ns ms grown b w) none)

  pub put_before : (ks : List Node) (k : ℕ) → IsPutNumber ks (types_at ms args) (item_at ms b) k → IsPutNumber ks (types_at ns args) (item_at ns b) k
  put_before ks k put =
      subst (λ ts. IsPutNumber ks ts (item_at ns b) k) (types_kept ns ms args grown h) (subst (λ x. IsPutNumber ks (types_at ms args) x k) (item_kept ns ms grown b w) put)
