-- The depth of an item by those of its parts.
use Rattle.std.proofs.Common.{◌≡◌, ◌⊎◌, inl, inr, ℕ, ◌+◌, ◌<◌, ◌≤◌, min, max, List, [], ◌∷◌, ◌++◌, length, get_or, refl, sym, ap, ◌∙◌, arith, length-append}
use Rattle.std.proofs.lemmas.List.{get_or_append_left, get_or_push}
use Rattle.std.proofs.lemmas.Bool.{cases_lt}
use Rattle.term_pool.specs.Items.{Item, sort_of, leaf_item, one_item, two_item, three_item, one_part, first_of_two, second_of_two, first_of_three, second_of_three, third_of_three}
use Rattle.term_pool.specs.Pools.{item_of, items, item_at, HasParts, IsPool, IsNowhere}
use Rattle.term_pool.specs.Depths.{item_depth, counted, IsKept, leaf_steps, one_steps, two_steps}
use Rattle.term_pool.specs.declared.node.Leaf.{Leaf}
use Rattle.term_pool.specs.declared.node.Leaf.TheVariants.{Var, Constant, TypeBool, TypeInt, TypeNum, TypeAddress, TypeSigner, TypeParam, NilTerms, NilTriggers, NilFormulas, NilTypes, NilBytes}
use Rattle.term_pool.specs.declared.node.One.{One}
use Rattle.term_pool.specs.declared.node.One.TheVariants.{Unary, Holds, Not, Join, TypeVector, TypeShared, TypeMutable, TypeTuple, ConsByte}
use Rattle.term_pool.specs.declared.node.Two.{Two}
use Rattle.term_pool.specs.declared.node.Two.TheVariants.{Binary, Pack, Field, Compare, Is, Connect, Quantify, ConsTerm, ConsTrigger, ConsFormula, ConsType}
use Rattle.term_pool.specs.declared.node.Three.{Three}
use Rattle.term_pool.specs.declared.node.Three.TheVariants.{Ternary, SetField, If, TypeStruct}
use Rattle.term_pool.specs.declared.node.Node.{Node}
use Rattle.term_pool.specs.declared.node.Node.TheVariants.{One as OneNode, Two as TwoNode, Three as ThreeNode}
use Rattle.term_pool.proofs.ShapeLemmas.{a_term, a_list_of_terms, a_list_of_triggers, a_formula, a_list_of_formulas, a_type, a_list_of_types, bytes}
use Rattle.term_pool.proofs.ItemLemmas.{item_kept, new_item}
use Rattle.term_pool.proofs.OnceLemmas.{pool_more, extended}

leaf_depth : (h : Leaf) → item_depth (leaf_item h) ≡ leaf_steps h
leaf_depth (Var n) = refl
leaf_depth (Constant c) = refl
leaf_depth TypeBool = refl
leaf_depth (TypeInt w) = refl
leaf_depth TypeNum = refl
leaf_depth TypeAddress = refl
leaf_depth TypeSigner = refl
leaf_depth (TypeParam n) = refl
leaf_depth NilTerms = refl
leaf_depth NilTriggers = refl
leaf_depth NilFormulas = refl
leaf_depth NilTypes = refl
leaf_depth NilBytes = refl

one_depth : (h : One) (x : Item) → sort_of x ≡ one_part h → item_depth (one_item h x) ≡ one_steps h + item_depth x
one_depth (Unary o) x e = ap (λ y. 1 + item_depth y) (a_term x e)
one_depth Holds x e = ap (λ y. 1 + item_depth y) (a_term x e)
one_depth Not x e = ap (λ y. 1 + item_depth y) (a_formula x e)
one_depth (Join o) x e = ap (λ y. 1 + item_depth y) (a_list_of_formulas x e)
one_depth TypeVector x e = ap (λ y. 1 + item_depth y) (a_type x e)
one_depth TypeShared x e = ap (λ y. 1 + item_depth y) (a_type x e)
one_depth TypeMutable x e = ap (λ y. 1 + item_depth y) (a_type x e)
one_depth TypeTuple x e = ap (λ y. 1 + item_depth y) (a_list_of_types x e)
one_depth (ConsByte b) x e = ap item_depth (bytes x e) ∙ omega arith

-- one more than the greater depth, and the greater depth
above : (x y u v : Item) → x ≡ u → y ≡ v → 1 + max (item_depth x) (item_depth y) ≡ 1 + max (item_depth u) (item_depth v)
above x y u v e f = λ i. 1 + max (item_depth (e i)) (item_depth (f i))

beside : (x y u v : Item) → x ≡ u → y ≡ v → max (item_depth x) (item_depth y) ≡ 0 + max (item_depth u) (item_depth v)
beside x y u v e f = (λ i. max (item_depth (e i)) (item_depth (f i))) ∙ omega arith

two_depth : (h : Two) (x y : Item) → sort_of x ≡ first_of_two h → sort_of y ≡ second_of_two h → item_depth (two_item h x y) ≡ two_steps h + max (item_depth x) (item_depth y)
two_depth (Binary o) x y e f = above _ _ x y (a_term x e) (a_term y f)
two_depth Pack x y e f = above _ _ x y (a_type x e) (a_list_of_terms y f)
two_depth (Field k) x y e f = above _ _ x y (a_type x e) (a_term y f)
two_depth (Compare o) x y e f = above _ _ x y (a_term x e) (a_term y f)
two_depth Is x y e f = above _ _ x y (a_type x e) (a_term y f)
two_depth (Connect o) x y e f = above _ _ x y (a_formula x e) (a_formula y f)
two_depth (Quantify o n) x y e f = above _ _ x y (a_list_of_triggers x e) (a_formula y f)
two_depth ConsTerm x y e f = beside _ _ x y (a_term x e) (a_list_of_terms y f)
two_depth ConsTrigger x y e f = beside _ _ x y (a_list_of_terms x e) (a_list_of_triggers y f)
two_depth ConsFormula x y e f = beside _ _ x y (a_formula x e) (a_list_of_formulas y f)
two_depth ConsType x y e f = beside _ _ x y (a_type x e) (a_list_of_types y f)

over : (x y z u v w : Item) → x ≡ u → y ≡ v → z ≡ w → 1 + max (item_depth x) (max (item_depth y) (item_depth z)) ≡ 1 + max (item_depth u) (max (item_depth v) (item_depth w))
over x y z u v w e f g = λ i. 1 + max (item_depth (e i)) (max (item_depth (f i)) (item_depth (g i)))

no_depth : (d : ℕ) → 1 + d ≡ 1 + max 0 (max 0 d)
no_depth d = omega arith

three_depth : (h : Three) (x y z : Item) → sort_of x ≡ first_of_three h → sort_of y ≡ second_of_three h → sort_of z ≡ third_of_three h → item_depth (three_item h x y z) ≡ 1 + max (item_depth x) (max (item_depth y) (item_depth z))
three_depth (Ternary o) x y z e f g = over _ _ _ x y z (a_term x e) (a_term y f) (a_term z g)
three_depth (SetField k) x y z e f g = over _ _ _ x y z (a_type x e) (a_term y f) (a_term z g)
three_depth If x y z e f g = over _ _ _ x y z (a_formula x e) (a_term y f) (a_term z g)
three_depth (TypeStruct a) x y z e f g = no_depth _ ∙ over _ _ _ x y z (bytes x e) (bytes y f) (a_list_of_types z g)

-- ---- counted depths

pub counted_leaf : (h : Leaf) → min (leaf_steps h) 2001 ≡ counted (item_depth (leaf_item h))
counted_leaf h = ap counted (sym (leaf_depth h))

count_one : (s d x : ℕ) → d ≡ min x 2001 → min (s + d) 2001 ≡ min (s + x) 2001
count_one s d x e = omega (arith, e)

pub counted_one : (ns : List Node) (i : ℕ) (h : One) (a d : ℕ) → HasParts ns i (OneNode h a) → d ≡ counted (item_depth (item_at ns a)) → min (one_steps h + d) 2001 ≡ counted (item_depth (one_item h (item_at ns a)))
counted_one ns i h a d p e = count_one (one_steps h) d (item_depth (item_at ns a)) e ∙ ap counted (sym (one_depth h (item_at ns a) p.sort))

count_two : (s d e x y : ℕ) → d ≡ min x 2001 → e ≡ min y 2001 → min (s + max d e) 2001 ≡ min (s + max x y) 2001
count_two s d e x y p q = omega (arith, p, q)

pub counted_two : (ns : List Node) (i : ℕ) (h : Two) (a b d e : ℕ) → HasParts ns i (TwoNode h a b) → d ≡ counted (item_depth (item_at ns a)) → e ≡ counted (item_depth (item_at ns b)) → min (two_steps h + max d e) 2001 ≡ counted (item_depth (two_item h (item_at ns a) (item_at ns b)))
counted_two ns i h a b d e p q r = count_two (two_steps h) d e (item_depth (item_at ns a)) (item_depth (item_at ns b)) q r ∙ ap counted (sym (two_depth h (item_at ns a) (item_at ns b) p.0.sort p.1.sort))

count_three : (d e f x y z : ℕ) → d ≡ min x 2001 → e ≡ min y 2001 → f ≡ min z 2001 → min (1 + max (max d e) f) 2001 ≡ min (1 + max x (max y z)) 2001
count_three d e f x y z p q r = omega (arith, p, q, r)

pub counted_three : (ns : List Node) (i : ℕ) (h : Three) (a b c d e f : ℕ) → HasParts ns i (ThreeNode h a b c) → d ≡ counted (item_depth (item_at ns a)) → e ≡ counted (item_depth (item_at ns b)) → f ≡ counted (item_depth (item_at ns c)) → min (1 + max (max d e) f) 2001 ≡ counted (item_depth (three_item h (item_at ns a) (item_at ns b) (item_at ns c)))
counted_three ns i h a b c d e f p q r t =
    count_three d e f (item_depth (item_at ns a)) (item_depth (item_at ns b)) (item_depth (item_at ns c)) q r t
    ∙ ap counted (sym (three_depth h (item_at ns a) (item_at ns b) (item_at ns c) p.0.sort p.1.sort p.2.sort))

-- ---- a pool with one more node, and its depth

pub kept_more : (ns : List Node) (ds : List ℕ) (n : Node) (d : ℕ) → IsKept ns ds → HasParts ns (length ns) n → IsNowhere ns n → d ≡ counted (item_depth (item_of (items ns) n)) → IsKept (ns ++ n ∷ []) (ds ++ d ∷ [])
kept_more ns ds n d kept parts nowhere e = record {
  pool = more;
  depths = record {
    one_each = omega (arith, kept.depths.one_each, length-append ns (n ∷ []), length-append ds (d ∷ []));
    each = λ i h. each i h (cases_lt i (length ns));
  };
}
  where
    more : IsPool (ns ++ n ∷ [])
    more = pool_more ns n kept.pool parts nowhere

    each : (i : ℕ) → i < length (ns ++ n ∷ []) → (i < length ns) ⊎ (length ns ≤ i) → get_or (ds ++ d ∷ []) i 0 ≡ counted (item_depth (item_at (ns ++ n ∷ []) i))
    each i h (inl w) =
        get_or_append_left ds (d ∷ []) 0 i (omega (arith, w, kept.depths.one_each))
        ∙ kept.depths.each i w
        ∙ ap (λ x. counted (item_depth x)) (sym (item_kept ns (ns ++ n ∷ []) (extended ns n) i w))
    each i h (inr w) =
        let last : i ≡ length ns = omega (arith, h, w, length-append ns (n ∷ [])) in
        ap (λ k. get_or (ds ++ d ∷ []) k 0) last
        ∙ get_or_push ds d 0 (length ns) kept.depths.one_each
        ∙ e
        ∙ ap (λ x. counted (item_depth x)) (sym (new_item ns n))
        ∙ ap (λ k. counted (item_depth (item_at (ns ++ n ∷ []) k))) (sym last)
