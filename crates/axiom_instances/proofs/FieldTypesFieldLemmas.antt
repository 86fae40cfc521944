-- The types of the fields of struct types.
use Rattle.std.proofs.Common.{◌≡◌, ℕ, suc, ◌+◌, ◌<◌, ◌≤◌, List, [], ◌∷◌, ◌++◌, length, get_or, take, Option, Some, None, refl, sym, ap, ◌∙◌, subst, arith}
use Rattle.std.specs.Prelude.{MatchOption}
use Rattle.std.proofs.Math.Seq.{take-suc}
use Rattle.base.specs.TypeData.{TypeData, TypesData, StructType, list_of_types}
use Rattle.base.specs.declared.types.StructId.{StructId}
use Rattle.fol.specs.declared.shapes.Shape.{Shape}
use Rattle.axioms.specs.Fields.{IsStruct, IsPut}
use Rattle.term_pool.specs.Items.{Item, TypeItem, type_in, types_in, bytes_in, sort_of, TypesSort, leaf_item, one_item, two_item, three_item}
use Rattle.term_pool.specs.Pools.{item_at, IsItem, IsMade, Extends}
use Rattle.term_pool.specs.declared.node.Leaf.{Leaf}
use Rattle.term_pool.specs.declared.node.Leaf.TheVariants.{TypeInt, TypeNum, TypeAddress, TypeSigner, TypeParam}
use Rattle.term_pool.specs.declared.node.One.{One}
use Rattle.term_pool.specs.declared.node.One.TheVariants.{TypeVector, TypeShared, TypeMutable, TypeTuple}
use Rattle.term_pool.specs.declared.node.Two.{Two}
use Rattle.term_pool.specs.declared.node.Two.TheVariants.{Binary, Pack, Field, Compare, Is, Connect, Quantify, ConsTerm, ConsTrigger, ConsFormula, ConsType}
use Rattle.term_pool.specs.declared.node.Three.{Three}
use Rattle.term_pool.specs.declared.node.Three.TheVariants.{TypeStruct}
use Rattle.term_pool.specs.declared.node.Node.{Node}
use Rattle.term_pool.specs.declared.node.Node.TheVariants.{Leaf as LeafNode, One as OneNode, Two as TwoNode, Three as ThreeNode}
use Rattle.term_pool.proofs.GrowthLemmas.{item_stays}
use Rattle.term_pool.proofs.ItemLemmas.{item_past}
use Rattle.term_pool.proofs.ShapeLemmas.{a_list_of_types}
use Rattle.std.proofs.lemmas.Option.{slice_get_within}
use Rattle.axiom_instances.specs.Puts.{types_at, type_at, IsTypeNumber, IsTypesNumber, IsPutItem, HasNoPut, IsPutNumber}
use Rattle.axiom_instances.specs.FieldTypes.{IsNoStructType, AreArguments, HasNoShape, HasNoType, IsTypeWith, IsPutResult, ArePutResults, NoResults, MoreResults, AreFieldTypes}

-- ---- struct types by their nodes

no_struct : (ns : List Node) (n : ℕ) {x : Item} → item_at ns n ≡ x → IsNoStructType (type_in x) → IsNoStructType (type_at ns n)
no_struct ns n e h = subst IsNoStructType (sym (ap type_in e)) h

leaf_type : (h : Leaf) → IsNoStructType (type_in (leaf_item h))
leaf_type (TypeInt w) = record { none = λ s args e. absurd (cc) }
leaf_type TypeNum = record { none = λ s args e. absurd (cc) }
leaf_type TypeAddress = record { none = λ s args e. absurd (cc) }
leaf_type TypeSigner = record { none = λ s args e. absurd (cc) }
leaf_type (TypeParam k) = record { none = λ s args e. absurd (cc) }
leaf_type _ = record { none = λ s args e. absurd (cc) }

one_type : (h : One) (x : Item) → IsNoStructType (type_in (one_item h x))
one_type TypeVector x = record { none = λ s args e. absurd (cc) }
one_type TypeShared x = record { none = λ s args e. absurd (cc) }
one_type TypeMutable x = record { none = λ s args e. absurd (cc) }
one_type TypeTuple x = record { none = λ s args e. absurd (cc) }
one_type _ x = record { none = λ s args e. absurd (cc) }

two_type : (h : Two) (x y : Item) → IsNoStructType (type_in (two_item h x y))
two_type (Binary o) x y = record { none = λ s args e. absurd (cc) }
two_type Pack x y = record { none = λ s args e. absurd (cc) }
two_type (Field k) x y = record { none = λ s args e. absurd (cc) }
two_type (Compare o) x y = record { none = λ s args e. absurd (cc) }
two_type Is x y = record { none = λ s args e. absurd (cc) }
two_type (Connect o) x y = record { none = λ s args e. absurd (cc) }
two_type (Quantify o n) x y = record { none = λ s args e. absurd (cc) }
two_type ConsTerm x y = record { none = λ s args e. absurd (cc) }
two_type ConsTrigger x y = record { none = λ s args e. absurd (cc) }
two_type ConsFormula x y = record { none = λ s args e. absurd (cc) }
two_type ConsType x y = record { none = λ s args e. absurd (cc) }

three_type : (h : Three) (x y z : Item) → ((a : ℕ) → h ≡ TypeStruct a → ⊥) → IsNoStructType (type_in (three_item h x y z))
three_type (TypeStruct a) x y z d = absurd (d a refl)
three_type _ x y z d = record { none = λ s args e. absurd (cc) }

pub no_node : (ns : List Node) (n : ℕ) → length ns ≤ n → IsNoStructType (type_at ns n)
no_node ns n w = no_struct ns n (item_past ns n w) (record { none = λ s args e. absurd (cc) })

module _ {ns : List Node} {n : ℕ} where
  pub leaf_no_struct : (h : Leaf) → IsMade ns n (LeafNode h) → IsNoStructType (type_at ns n)
  leaf_no_struct h m = no_struct ns n m.item (leaf_type h)

  pub one_no_struct : (h : One) (a : ℕ) → IsMade ns n (OneNode h a) → IsNoStructType (type_at ns n)
  one_no_struct h a m = no_struct ns n m.item (one_type h (item_at ns a))

  pub two_no_struct : (h : Two) (a b : ℕ) → IsMade ns n (TwoNode h a b) → IsNoStructType (type_at ns n)
  two_no_struct h a b m = no_struct ns n m.item (two_type h (item_at ns a) (item_at ns b))

  pub three_no_struct : (h : Three) (a b c : ℕ) → IsMade ns n (ThreeNode h a b c) → ((k : ℕ) → h ≡ TypeStruct k → ⊥) → IsNoStructType (type_at ns n)
  three_no_struct h a b c m d = no_struct ns n m.item (three_type h (item_at ns a) (item_at ns b) (item_at ns c) d)

  pub struct_arguments : (k a b c : ℕ) → IsMade ns n (ThreeNode (TypeStruct k) a b c) → AreArguments ns n c
  struct_arguments k a b c m = record {
    id = record { address = k; «module» = bytes_in (item_at ns a); name = bytes_in (item_at ns b) };
    is = ap type_in m.item;
    list = record {
      within = (let w = slice_get_within ns n _ m.found in let e = m.parts.2.earlier in omega (arith, w, e));
      is = sym (a_list_of_types (item_at ns c) m.parts.2.sort);
    };
  }

-- ---- one field after another

number_of : {ns : List Node} {args : List TypeData} {f : TypeData} (n : ℕ) (y : Item) → IsItem ns n y → IsPutItem args (TypeItem f) y → IsTypeWith ns args f n
number_of {ns} {args} {f} n (TypeItem b) is put =
    let same : type_at ns n ≡ b = ap type_in is.is in
    record { number = record { within = is.within; is = is.is ∙ ap TypeItem (sym same) }; put = subst (IsPut args f) (sym same) put }
number_of n _ is put = absurd put

pub result_of : (ms : List Node) (args : List TypeData) (f : TypeData) (x : Item) (found : Option ℕ) → x ≡ TypeItem f → MatchOption found (HasNoPut args x) (IsPutNumber ms args x) → IsPutResult ms args f found
result_of ms args f x None e h =
    let none : HasNoPut args (TypeItem f) = subst (HasNoPut args) e h in record { none = λ a p. none.none (TypeItem a) p }
result_of ms args f x (Some n) e h =
    let put : IsPutNumber ms args (TypeItem f) n = subst (λ y. IsPutNumber ms args y n) e h in number_of n put.item put.is put.put

result_stays : {ns ms : List Node} (args : List TypeData) (f : TypeData) (found : Option ℕ) → Extends ns ms → IsPutResult ns args f found → IsPutResult ms args f found
result_stays args f None e h = h
result_stays {ns} {ms} args f (Some n) e h = number_of n (TypeItem (type_at ns n)) (item_stays e h.number) h.put

pub results_stay : {ns ms : List Node} {args : List TypeData} {fs : List TypeData} {os : List (Option ℕ)} → Extends ns ms → ArePutResults ns args fs os → ArePutResults ms args fs os
results_stay e NoResults = NoResults
results_stay {args = args} e (MoreResults f o fs os h r) = MoreResults f o fs os (result_stays args f o e h) (results_stay e r)

pub results_more : {ns : List Node} {args : List TypeData} {fs : List TypeData} {os : List (Option ℕ)} (f : TypeData) (o : Option ℕ) → ArePutResults ns args fs os → IsPutResult ns args f o → ArePutResults ns args (fs ++ f ∷ []) (os ++ o ∷ [])
results_more g p NoResults k = MoreResults g p [] [] k NoResults
results_more g p (MoreResults f o fs os h r) k = MoreResults f o (fs ++ g ∷ []) (os ++ p ∷ []) h (results_more g p r k)

pub results_next : {ns : List Node} (args fs : List TypeData) (os : List (Option ℕ)) (o : Option ℕ) (i : ℕ) (d : TypeData) → i < length fs → ArePutResults ns args (take i fs) os → IsPutResult ns args (get_or fs i d) o → ArePutResults ns args (take (i + 1) fs) (os ++ o ∷ [])
results_next {ns} args fs os o i d w h k =
    let one : suc i ≡ i + 1 = omega arith in
    let longer : take (i + 1) fs ≡ take i fs ++ get_or fs i d ∷ [] = ap (λ j. take j fs) (sym one) ∙ take-suc fs i d w in
    subst (λ gs. ArePutResults ns args gs (os ++ o ∷ [])) (sym longer) (results_more (get_or fs i d) o h k)

-- ---- the fields of a struct type

pub no_shape : (shapes : List Shape) (a : TypeData) → IsNoStructType a → HasNoShape shapes a
no_shape shapes a h = record { none = λ shape args s. h.none s.0 args s.1 }

pub fields_are : (shapes : List Shape) {ns ms : List Node} {of list : ℕ} (a : TypeData) (shape : Shape) (found : List (Option ℕ)) → a ≡ type_at ns of → AreArguments ns of list → ((args : TypesData) × IsStruct shapes a shape args) → ArePutResults ms (types_at ns list) (list_of_types shape.fields) found → AreFieldTypes ms shapes (type_at ns of) found
fields_are shapes {ns} {ms} {of} {list} a shape found e h (args, s) results =
    let both : StructType h.id (types_in (item_at ns list)) ≡ StructType s.0 args = sym h.is ∙ sym e ∙ s.1 in
    let same : types_in (item_at ns list) ≡ args = cc in
    record {
      shape = shape;
      args = args;
      is_struct = subst (λ b. IsStruct shapes b shape args) e s;
      results = subst (λ ts. ArePutResults ms (list_of_types ts) (list_of_types shape.fields) found) same results;
    }
