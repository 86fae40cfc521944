-- The quantifier-free items, one more node at a time.
use Rattle.std.proofs.Common.{◌≡◌, ◌⊎◌, inl, inr, ℕ, ◌<◌, ◌≤◌, Bool, true, false, ◌&&◌, List, [], ◌∷◌, ◌++◌, length, get_or, refl, sym, ap, ◌∙◌, subst, arith, length-append}
use Rattle.std.proofs.lemmas.Bool.{cases_lt}
use Rattle.std.proofs.lemmas.List.{get_or_append_left, get_or_push, length_push}
use Rattle.std.proofs.lemmas.Option.{get_or_from_slice_get, slice_get-get_or}
use Rattle.term_pool.specs.Items.{Item, FormulaSort, sort_of, formula_in, leaf_item, one_item, two_item, three_item, one_part, first_of_two, second_of_two, first_of_three, second_of_three, third_of_three}
use Rattle.term_pool.specs.Pools.{item_at, IsMade, Extends}
use Rattle.term_pool.specs.declared.node.Leaf.{Leaf}
use Rattle.term_pool.specs.declared.node.Leaf.TheVariants.{Var, Constant, TypeBool, TypeInt, TypeNum, TypeAddress, TypeSigner, TypeParam, NilTerms, NilTriggers, NilFormulas, NilTypes, NilBytes}
use Rattle.term_pool.specs.declared.node.One.{One}
use Rattle.term_pool.specs.declared.node.One.TheVariants.{Unary, Holds, Not, Join, TypeVector, TypeShared, TypeMutable, TypeTuple, ConsByte}
use Rattle.term_pool.specs.declared.node.Two.{Two}
use Rattle.term_pool.specs.declared.node.Two.TheVariants.{Binary, Pack, Field, Compare, Is, Connect, Quantify, ConsTerm, ConsTrigger, ConsFormula, ConsType}
use Rattle.term_pool.specs.declared.node.Three.{Three}
use Rattle.term_pool.specs.declared.node.Three.TheVariants.{Ternary, SetField, If, TypeStruct}
use Rattle.term_pool.specs.declared.node.Node.{Node}
use Rattle.term_pool.specs.declared.node.Node.TheVariants.{Leaf as LeafNode, One as OneNode, Two as TwoNode, Three as ThreeNode}
use Rattle.term_pool.proofs.ItemLemmas.{item_kept}
use Rattle.term_pool.proofs.ShapeLemmas.{a_term, a_list_of_terms, a_list_of_triggers, a_formula, a_list_of_formulas, a_type, a_list_of_types, bytes}
use Rattle.ematching.specs.QuantifierFree.{quantifier_free, quantifier_free_item, is_plain, AreFree, IsNextFree}

-- ---- an item by its parts

leaf_free : (h : Leaf) → quantifier_free_item (leaf_item h) ≡ true
leaf_free (Var n) = refl
leaf_free (Constant c) = refl
leaf_free TypeBool = refl
leaf_free (TypeInt w) = refl
leaf_free TypeNum = refl
leaf_free TypeAddress = refl
leaf_free TypeSigner = refl
leaf_free (TypeParam n) = refl
leaf_free NilTerms = refl
leaf_free NilTriggers = refl
leaf_free NilFormulas = refl
leaf_free NilTypes = refl
leaf_free NilBytes = refl

one_free : (h : One) (x : Item) → sort_of x ≡ one_part h → quantifier_free_item (one_item h x) ≡ quantifier_free_item x
one_free (Unary o) x e = ap quantifier_free_item (a_term x e)
one_free Holds x e = ap quantifier_free_item (a_term x e)
one_free Not x e = ap quantifier_free_item (a_formula x e)
one_free (Join o) x e = ap quantifier_free_item (a_list_of_formulas x e)
one_free TypeVector x e = ap quantifier_free_item (a_type x e)
one_free TypeShared x e = ap quantifier_free_item (a_type x e)
one_free TypeMutable x e = ap quantifier_free_item (a_type x e)
one_free TypeTuple x e = ap quantifier_free_item (a_list_of_types x e)
one_free (ConsByte b) x e = ap quantifier_free_item (bytes x e)

two_free : (h : Two) (a b : ℕ) (x y : Item) → sort_of x ≡ first_of_two h → sort_of y ≡ second_of_two h → quantifier_free_item (two_item h x y) ≡ is_plain (TwoNode h a b) && (quantifier_free_item x && quantifier_free_item y)
two_free (Binary o) a b x y e f = λ i. quantifier_free_item (a_term x e i) && quantifier_free_item (a_term y f i)
two_free Pack a b x y e f = λ i. quantifier_free_item (a_type x e i) && quantifier_free_item (a_list_of_terms y f i)
two_free (Field k) a b x y e f = λ i. quantifier_free_item (a_type x e i) && quantifier_free_item (a_term y f i)
two_free (Compare o) a b x y e f = λ i. quantifier_free_item (a_term x e i) && quantifier_free_item (a_term y f i)
two_free Is a b x y e f = λ i. quantifier_free_item (a_type x e i) && quantifier_free_item (a_term y f i)
two_free (Connect o) a b x y e f = λ i. quantifier_free_item (a_formula x e i) && quantifier_free_item (a_formula y f i)
two_free (Quantify o n) a b x y e f = refl
two_free ConsTerm a b x y e f = λ i. quantifier_free_item (a_term x e i) && quantifier_free_item (a_list_of_terms y f i)
two_free ConsTrigger a b x y e f = λ i. quantifier_free_item (a_list_of_terms x e i) && quantifier_free_item (a_list_of_triggers y f i)
two_free ConsFormula a b x y e f = λ i. quantifier_free_item (a_formula x e i) && quantifier_free_item (a_list_of_formulas y f i)
two_free ConsType a b x y e f = λ i. quantifier_free_item (a_type x e i) && quantifier_free_item (a_list_of_types y f i)

three_free : (h : Three) (x y z : Item) → sort_of x ≡ first_of_three h → sort_of y ≡ second_of_three h → sort_of z ≡ third_of_three h → quantifier_free_item (three_item h x y z) ≡ quantifier_free_item x && (quantifier_free_item y && quantifier_free_item z)
three_free (Ternary o) x y z e f g = λ i. quantifier_free_item (a_term x e i) && (quantifier_free_item (a_term y f i) && quantifier_free_item (a_term z g i))
three_free (SetField k) x y z e f g = λ i. quantifier_free_item (a_type x e i) && (quantifier_free_item (a_term y f i) && quantifier_free_item (a_term z g i))
three_free If x y z e f g = λ i. quantifier_free_item (a_formula x e i) && (quantifier_free_item (a_term y f i) && quantifier_free_item (a_term z g i))
three_free (TypeStruct a) x y z e f g = λ i. quantifier_free_item (bytes x e i) && (quantifier_free_item (bytes y f i) && quantifier_free_item (a_list_of_types z g i))

-- ---- the nodes

module _ (ns : List Node) where
  pub free_more : (xs ys : List Bool) (n : Bool) → ys ≡ xs ++ n ∷ [] → IsNextFree ns xs n → AreFree ns xs → AreFree ns ys
  free_more xs ys n e next h = subst (AreFree ns) (sym e) (record {
    few = (let w = next.within in omega (arith, w, length_push xs n));
    each = λ i w. each i w (cases_lt i (length xs));
  })
    where
      each : (i : ℕ) → i < length (xs ++ n ∷ []) → (i < length xs) ⊎ (length xs ≤ i) → get_or (xs ++ n ∷ []) i false ≡ quantifier_free_item (item_at ns i)
      each i w (inl l) = get_or_append_left xs (n ∷ []) false i l ∙ h.each i l
      each i w (inr l) =
          let last : i ≡ length xs = omega (arith, w, l, length_push xs n) in
          ap (λ k. get_or (xs ++ n ∷ []) k false) last ∙ get_or_push xs n false (length xs) refl ∙ next.is ∙ ap (λ k. quantifier_free_item (item_at ns k)) (sym last)

  module _ (xs : List Bool) (h : AreFree ns xs) where
    -- the value that is read
    pub free_read : (i : ℕ) (n : Bool) → i < length xs → n ≡ get_or xs i n → n ≡ quantifier_free_item (item_at ns i)
    free_read i n w e = e ∙ default i n w ∙ h.each i w
      where
        default : (i : ℕ) (n : Bool) → i < length xs → get_or xs i n ≡ get_or xs i false
        default i n w = get_or_from_slice_get xs i (get_or xs i false) n (slice_get-get_or xs i false w)

    pub leaf_next : (k : Leaf) (n : Bool) → length xs < length ns → IsMade ns (length xs) (LeafNode k) → n ≡ true → IsNextFree ns xs n
    leaf_next k n w made e = record { within = w; is = e ∙ sym (ap quantifier_free_item made.item ∙ leaf_free k) }

    pub one_next : (k : One) (a : ℕ) (n : Bool) → length xs < length ns → IsMade ns (length xs) (OneNode k a) → n ≡ quantifier_free_item (item_at ns a) → IsNextFree ns xs n
    one_next k a n w made e = record { within = w; is = e ∙ sym (ap quantifier_free_item made.item ∙ one_free k (item_at ns a) made.parts.sort) }

    pub two_next : (k : Two) (a b : ℕ) (own n m l r : Bool) → length xs < length ns → IsMade ns (length xs) (TwoNode k a b) → own ≡ is_plain (TwoNode k a b) → l ≡ quantifier_free_item (item_at ns a) → r ≡ quantifier_free_item (item_at ns b) → m ≡ l && r → n ≡ own && m → IsNextFree ns xs n
    two_next k a b own n m l r w made o p q d e = record {
      within = w;
      is = e ∙ (λ i. o i && d i) ∙ (λ i. is_plain (TwoNode k a b) && (p i && q i)) ∙ sym (ap quantifier_free_item made.item ∙ two_free k a b (item_at ns a) (item_at ns b) made.parts.0.sort made.parts.1.sort);
    }

    pub three_next : (k : Three) (a b c : ℕ) (n m l j r : Bool) → length xs < length ns → IsMade ns (length xs) (ThreeNode k a b c) → l ≡ quantifier_free_item (item_at ns a) → j ≡ quantifier_free_item (item_at ns b) → r ≡ quantifier_free_item (item_at ns c) → m ≡ j && r → n ≡ l && m → IsNextFree ns xs n
    three_next k a b c n m l j r w made p q s d e = record {
      within = w;
      is = e ∙ (λ i. l && d i) ∙ (λ i. p i && (q i && s i)) ∙ sym (ap quantifier_free_item made.item ∙ three_free k (item_at ns a) (item_at ns b) (item_at ns c) made.parts.0.sort made.parts.1.sort made.parts.2.sort);
    }

pub free_grown : (ns ms : List Node) (xs : List Bool) → Extends ns ms → AreFree ns xs → AreFree ms xs
free_grown ns ms xs grown h = record {
  few = (let l = ap length grown.is in let f = h.few in omega (arith, l, f, length-append ns grown.more));
  each = λ i w. h.each i w ∙ ap quantifier_free_item (sym (item_kept ns ms grown i (let f = h.few in omega (arith, f, w))));
}

-- the case of a formula
pub free_formula : (x : Item) → sort_of x ≡ FormulaSort → quantifier_free_item x ≡ quantifier_free (formula_in x)
free_formula x e = ap quantifier_free_item (sym (a_formula x e))
