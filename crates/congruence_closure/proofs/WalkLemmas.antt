-- The nodes that a walk over a pool makes.
use Rattle.std.proofs.Common.{length-append, Result, Ok, Err, IfOk, ◌+◌, ◌≡◌, ◌≢◌, ◌⊎◌, inl, inr, ℕ, zero, suc, ◌<◌, List, [], ◌∷◌, ◌++◌, length, Option, Some, None, Bool, true, false, cond, nat_eq, refl, sym, ap, ◌∙◌, subst, arith}
use Rattle.std.specs.Prelude.{slice_get, OnOk}
use Rattle.std.specs.Map.{lookup}
use Rattle.base.specs.TypeData.{ParamType}
use Rattle.fol.specs.FormulaData.{CompareFormula, IsFormula, HoldsFormula, NotFormula, JoinFormula, ConnectFormula, QuantifyFormula}
use Rattle.term_pool.specs.declared.node.Leaf.{Leaf}
use Rattle.term_pool.specs.declared.node.Leaf.TheVariants.{TypeParam}
use Rattle.term_pool.specs.declared.node.One.{One}
use Rattle.term_pool.specs.declared.node.One.TheVariants.{Not}
use Rattle.term_pool.specs.declared.node.Two.{Two}
use Rattle.term_pool.specs.declared.node.Two.TheVariants.{Quantify}
use Rattle.term_pool.specs.declared.node.Three.{Three}
use Rattle.term_pool.specs.declared.node.Node.{Node}
use Rattle.term_pool.specs.declared.node.Node.TheVariants.{Leaf as LeafNode, One as OneNode, Two as TwoNode, Three as ThreeNode}
use Rattle.term_pool.specs.Items.{Item, FormulaItem, TypeItem, FormulaSort, sort_of, one_part}
use Rattle.congruence_closure.specs.Trees.{Tree, BoundTree, LeafTree, OneTree, TwoTree, ThreeTree, under, leaf_tree, renamed, tree_of}
use Rattle.congruence_closure.specs.Nodes.{denied, one_tree, IsTree, OfLeaf, OfOne, OfTwo, OfThree, IsNode, IsSomeNode, AreNodes}
use Rattle.congruence_closure.specs.Known.{IsOuterPart, IsFound, ArePartsFound, IsNodeOf, AreKnown, IsAdded, IsGrown, IsWalked}
use Rattle.std.proofs.lemmas.List.{length_push}
use Rattle.std.proofs.lemmas.Bool.{cases_eq}
use Rattle.std.proofs.lemmas.Bool.Decides.{nat_tests}
use Rattle.std.proofs.lemmas.Option.{slice_get_within}
use Rattle.term_pool.specs.Pools.{item_at, IsMade, Extends}
use Rattle.term_pool.proofs.GrowthLemmas.{extends_itself, extends_then, if_ok}
use Rattle.congruence_closure.proofs.ListLemmas.{push_new}
use Rattle.congruence_closure.proofs.ItemLemmas.{plain_leaf, plain_one, plain_two, plain_three}
use Rattle.congruence_closure.proofs.BranchClassesNodeLemmas.{tree_within}

-- ---- added nodes

append_kept : {X : Type 0} (xs ys : List X) (k : ℕ) (x : X) → slice_get xs k ≡ Some x → slice_get (xs ++ ys) k ≡ Some x
append_kept [] ys k x e = absurd (cc)
append_kept (y ∷ xs) ys zero x e = e
append_kept (y ∷ xs) ys (suc k) x e = append_kept xs ys k x e

pub kept : (ns ms : List Node) → Extends ns ms → (i : ℕ) (n : Node) → slice_get ns i ≡ Some n → slice_get ms i ≡ Some n
kept ns ms x i n e = subst (λ ks. slice_get ks i ≡ Some n) (sym x.is) (append_kept ns x.more i n e)

pub tree_kept : (ns ms : List Node) → Extends ns ms → (i : ℕ) (x : Tree) → IsTree ns i x → IsTree ms i x
tree_kept ns ms g _ _ (OfLeaf i h e) = OfLeaf i h (kept ns ms g i (LeafNode h) e)
tree_kept ns ms g _ _ (OfOne i h a x e u) = OfOne i h a x (kept ns ms g i (OneNode h a) e) (tree_kept ns ms g a x u)
tree_kept ns ms g _ _ (OfTwo i h a b x y e u v) = OfTwo i h a b x y (kept ns ms g i (TwoNode h a b) e) (tree_kept ns ms g a x u) (tree_kept ns ms g b y v)
tree_kept ns ms g _ _ (OfThree i h a b c x y z e u v w) = OfThree i h a b c x y z (kept ns ms g i (ThreeNode h a b c) e) (tree_kept ns ms g a x u) (tree_kept ns ms g b y v) (tree_kept ns ms g c z w)

pub node_kept : (ns ms : List Node) → Extends ns ms → (i : ℕ) (bound : List ℕ) (x : Item) → IsNode ns i bound x → IsNode ms i bound x
node_kept ns ms g i bound x n = record { is = tree_kept ns ms g i (tree_of bound x) n.is }

pub node_of_kept : (pool ns ms : List Node) (bound : List ℕ) (number node : ℕ) → Extends ns ms → IsNodeOf pool ns bound number node → IsNodeOf pool ms bound number node
node_of_kept pool ns ms bound number node g n = record { within = n.within; is = node_kept ns ms g node bound (item_at pool number) n.is }

pub known_kept : (pool ns ms : List Node) (bound : List ℕ) (known : ℕ → Option ℕ) → Extends ns ms → AreKnown pool ns bound known → AreKnown pool ms bound known
known_kept pool ns ms bound known g a = record { each = λ number node e. node_of_kept pool ns ms bound number node g (a.each number node e); parts = a.parts }

pub pushed : (ns : List Node) (n : Node) → Extends ns (ns ++ n ∷ [])
pushed ns n = record { more = n ∷ []; is = refl }

pub nodes_pushed : (ns : List Node) (n : Node) → AreNodes ns → IsSomeNode (ns ++ n ∷ []) (length ns) → AreNodes (ns ++ n ∷ [])
nodes_pushed ns n nodes new = record { each = λ i w. go i w (cases_eq i (length ns)) }
  where
    go : (i : ℕ) → i < length (ns ++ n ∷ []) → (i ≡ length ns) ⊎ (i ≢ length ns) → IsSomeNode (ns ++ n ∷ []) i
    go i w (inl e) = subst (IsSomeNode (ns ++ n ∷ [])) (sym e) new
    go i w (inr e) =
        let l : length (ns ++ n ∷ []) ≡ length ns + 1 = length_push ns n in
        let some : IsSomeNode ns i = nodes.each i (omega (arith, w, e, l)) in
        record { bound = some.bound; item = some.item; is = node_kept ns (ns ++ n ∷ []) (pushed ns n) i some.bound some.item some.is }

pub node_within : (pool ns : List Node) (bound : List ℕ) (number node : ℕ) → IsNodeOf pool ns bound number node → node < length ns
node_within pool ns bound number node n = tree_within ns node (tree_of bound (item_at pool number)) n.is.is

added : (pool : List Node) (bound : List ℕ) (number : ℕ) (ns : List Node) (n : Node) → AreNodes ns → number < length pool → IsTree (ns ++ n ∷ []) (length ns) (tree_of bound (item_at pool number)) → IsAdded pool bound number ns (ns ++ n ∷ []) (length ns)
added pool bound number ns n nodes w t = record {
  nodes = nodes_pushed ns n nodes (record { bound = bound; item = item_at pool number; is = record { is = t } });
  extends = pushed ns n;
  is = record { within = w; is = record { is = t } };
}

made_within : (pool : List Node) (number : ℕ) (n : Node) → IsMade pool number n → number < length pool
made_within pool number n m = slice_get_within pool number n m.found

-- ---- parts are within the pool

pub one_within : (pool : List Node) (number : ℕ) (h : One) (a : ℕ) → IsMade pool number (OneNode h a) → a < length pool
one_within pool number h a m = let w = made_within pool number (OneNode h a) m in let e = m.parts.earlier in omega (arith, w, e)

pub first_within : (pool : List Node) (number : ℕ) (h : Two) (a b : ℕ) → IsMade pool number (TwoNode h a b) → a < length pool
first_within pool number h a b m = let w = made_within pool number (TwoNode h a b) m in let e = m.parts.0.earlier in omega (arith, w, e)

pub second_within : (pool : List Node) (number : ℕ) (h : Two) (a b : ℕ) → IsMade pool number (TwoNode h a b) → b < length pool
second_within pool number h a b m = let w = made_within pool number (TwoNode h a b) m in let e = m.parts.1.earlier in omega (arith, w, e)

pub three_within : (pool : List Node) (number : ℕ) (h : Three) (a b c : ℕ) → IsMade pool number (ThreeNode h a b c) → (a < length pool) × (b < length pool) × (c < length pool)
three_within pool number h a b c m =
    let w = made_within pool number (ThreeNode h a b c) m in
    let d = m.parts.0.earlier in
    let e = m.parts.1.earlier in
    let f = m.parts.2.earlier in
    (omega (arith, w, d), omega (arith, w, e), omega (arith, w, f))

-- ---- leaves

pub leaf_added : (pool : List Node) (bound : List ℕ) (number : ℕ) (ns : List Node) (h : Leaf) → AreNodes ns → IsMade pool number (LeafNode h) → leaf_tree bound h ≡ LeafTree h → IsAdded pool bound number ns (ns ++ LeafNode h ∷ []) (length ns)
leaf_added pool bound number ns h nodes m e =
    let is : tree_of bound (item_at pool number) ≡ LeafTree h = ap (tree_of bound) m.item ∙ ap (renamed bound) (plain_leaf h) ∙ e in
    added pool bound number ns (LeafNode h) nodes (made_within pool number (LeafNode h) m)
    (subst (IsTree (ns ++ LeafNode h ∷ []) (length ns)) (sym is) (OfLeaf (length ns) h (push_new ns (LeafNode h))))

pub bound_added : (pool : List Node) (bound : List ℕ) (number : ℕ) (ns : List Node) (h : Leaf) (n k : ℕ) → AreNodes ns → IsMade pool number (LeafNode h) → leaf_tree bound h ≡ BoundTree n → k ≡ length ns → IsAdded pool bound number ns ((ns ++ LeafNode (TypeParam n) ∷ []) ++ OneNode Not k ∷ []) (length (ns ++ LeafNode (TypeParam n) ∷ []))
bound_added pool bound number ns h n k nodes m e ek =
    let ms : List Node = ns ++ LeafNode (TypeParam n) ∷ [] in
    let parameter : IsTree (ns ++ LeafNode (TypeParam n) ∷ []) (length ns) (LeafTree (TypeParam n)) = OfLeaf (length ns) (TypeParam n) (push_new ns (LeafNode (TypeParam n))) in
    let before : AreNodes (ns ++ LeafNode (TypeParam n) ∷ []) = nodes_pushed ns (LeafNode (TypeParam n)) nodes (record { bound = []; item = TypeItem (ParamType n); is = record { is = parameter } }) in
    let is : tree_of bound (item_at pool number) ≡ BoundTree n = ap (tree_of bound) m.item ∙ ap (renamed bound) (plain_leaf h) ∙ e in
    let all : List Node = (ns ++ LeafNode (TypeParam n) ∷ []) ++ OneNode Not k ∷ [] in
    let there : IsTree ((ns ++ LeafNode (TypeParam n) ∷ []) ++ OneNode Not k ∷ []) k (LeafTree (TypeParam n)) =
    subst (λ j. IsTree ((ns ++ LeafNode (TypeParam n) ∷ []) ++ OneNode Not k ∷ []) j (LeafTree (TypeParam n))) (sym ek)
    (tree_kept (ns ++ LeafNode (TypeParam n) ∷ []) ((ns ++ LeafNode (TypeParam n) ∷ []) ++ OneNode Not k ∷ []) (pushed (ns ++ LeafNode (TypeParam n) ∷ []) (OneNode Not k)) (length ns) (LeafTree (TypeParam n)) parameter) in
    let last : IsAdded pool bound number (ns ++ LeafNode (TypeParam n) ∷ []) ((ns ++ LeafNode (TypeParam n) ∷ []) ++ OneNode Not k ∷ []) (length (ns ++ LeafNode (TypeParam n) ∷ [])) =
    added pool bound number (ns ++ LeafNode (TypeParam n) ∷ []) (OneNode Not k) before (made_within pool number (LeafNode h) m)
    (subst (IsTree ((ns ++ LeafNode (TypeParam n) ∷ []) ++ OneNode Not k ∷ []) (length (ns ++ LeafNode (TypeParam n) ∷ []))) (sym is) (OfOne (length (ns ++ LeafNode (TypeParam n) ∷ [])) Not k (LeafTree (TypeParam n)) (push_new (ns ++ LeafNode (TypeParam n) ∷ []) (OneNode Not k)) there)) in
    record { nodes = last.nodes; extends = extends_then (pushed ns (LeafNode (TypeParam n))) last.extends; is = last.is }

pub leaf_by : {E : Type 0} (ns ks : List Node) (bound : List ℕ) (h : Leaf) (r : Result ℕ E) → AreNodes ns → leaf_tree bound h ≡ LeafTree h → IfOk r (λ k. k ≡ length ns) → OnOk r (ks ≡ ns ++ LeafNode h ∷ []) → IfOk r (λ node. (pool : List Node) (number : ℕ) → IsMade pool number (LeafNode h) → IsAdded pool bound number ns ks node)
leaf_by ns ks bound h (Ok k) nodes e j f = λ pool number m. subst (λ x. IsAdded pool bound number ns x k) (sym f) (subst (IsAdded pool bound number ns (ns ++ LeafNode h ∷ [])) (sym j) (leaf_added pool bound number ns h nodes m e))
leaf_by ns ks bound h (Err x) nodes e j f = j

pub bound_by : {E : Type 0} (ns ms ks : List Node) (bound : List ℕ) (h : Leaf) (n k : ℕ) (r : Result ℕ E) → AreNodes ns → leaf_tree bound h ≡ BoundTree n → k ≡ length ns → ms ≡ ns ++ LeafNode (TypeParam n) ∷ [] → IfOk r (λ i. i ≡ length ms) → OnOk r (ks ≡ ms ++ OneNode Not k ∷ []) → IfOk r (λ node. (pool : List Node) (number : ℕ) → IsMade pool number (LeafNode h) → IsAdded pool bound number ns ks node)
bound_by ns ms ks bound h n k (Ok i) nodes e ek em j f = λ pool number m.
    (let all : ks ≡ (ns ++ LeafNode (TypeParam n) ∷ []) ++ OneNode Not k ∷ [] = f ∙ ap (λ xs. xs ++ OneNode Not k ∷ []) em in
    let last : i ≡ length (ns ++ LeafNode (TypeParam n) ∷ []) = j ∙ ap length em in
    subst (λ x. IsAdded pool bound number ns x i) (sym all)
    (subst (IsAdded pool bound number ns ((ns ++ LeafNode (TypeParam n) ∷ []) ++ OneNode Not k ∷ [])) (sym last) (bound_added pool bound number ns h n k nodes m e ek)))
bound_by ns ms ks bound h n k (Err x) nodes e ek em j f = j

-- ---- head symbols and parts

denied_formula : (bound : List ℕ) (x : Item) → sort_of x ≡ FormulaSort → denied (tree_of bound x) ≡ OneTree Not (tree_of bound x)
denied_formula bound (FormulaItem (CompareFormula o t u)) e = refl
denied_formula bound (FormulaItem (IsFormula a t)) e = refl
denied_formula bound (FormulaItem (HoldsFormula t)) e = refl
denied_formula bound (FormulaItem (NotFormula p)) e = refl
denied_formula bound (FormulaItem (JoinFormula o ps)) e = refl
denied_formula bound (FormulaItem (ConnectFormula o p q)) e = refl
denied_formula bound (FormulaItem (QuantifyFormula o n ts p)) e = refl
denied_formula bound _ e = absurd (cc)

plain_head : (h : One) (bound : List ℕ) (x : Item) → sort_of x ≡ one_part h → one_tree h (tree_of bound x) ≡ OneTree h (tree_of bound x)
plain_head Not bound x e = denied_formula bound x e
plain_head h bound x e = refl

pub one_added : (pool : List Node) (bound : List ℕ) (number : ℕ) (ns : List Node) (h : One) (a k : ℕ) → AreNodes ns → IsMade pool number (OneNode h a) → IsNodeOf pool ns bound a k → IsAdded pool bound number ns (ns ++ OneNode h k ∷ []) (length ns)
one_added pool bound number ns h a k nodes m p =
    let x : Item = item_at pool a in
    let is : tree_of bound (item_at pool number) ≡ one_tree h (tree_of bound (item_at pool a)) =
    ap (tree_of bound) m.item ∙ ap (renamed bound) (plain_one h (item_at pool a) m.parts.sort) ∙ sym (plain_head h bound (item_at pool a) m.parts.sort) in
    added pool bound number ns (OneNode h k) nodes (made_within pool number (OneNode h a) m)
    (subst (IsTree (ns ++ OneNode h k ∷ []) (length ns)) (sym is)
    (OfOne (length ns) h k (tree_of bound (item_at pool a)) (push_new ns (OneNode h k)) (tree_kept ns (ns ++ OneNode h k ∷ []) (pushed ns (OneNode h k)) k (tree_of bound (item_at pool a)) p.is.is)))

pub two_added : (pool : List Node) (bound inner : List ℕ) (number : ℕ) (ns : List Node) (h : Two) (a b k m : ℕ) → under h bound ≡ inner → AreNodes ns → IsMade pool number (TwoNode h a b) → IsNodeOf pool ns inner a k → IsNodeOf pool ns inner b m → IsAdded pool bound number ns (ns ++ TwoNode h k m ∷ []) (length ns)
two_added pool bound inner number ns h a b k m ei nodes made p q =
    let g : Extends ns (ns ++ TwoNode h k m ∷ []) = pushed ns (TwoNode h k m) in
    let is : tree_of bound (item_at pool number) ≡ TwoTree h (tree_of inner (item_at pool a)) (tree_of inner (item_at pool b)) =
    ap (tree_of bound) made.item ∙ ap (renamed bound) (plain_two h (item_at pool a) (item_at pool b) made.parts.0.sort made.parts.1.sort) ∙ ap (λ c. TwoTree h (tree_of c (item_at pool a)) (tree_of c (item_at pool b))) ei in
    added pool bound number ns (TwoNode h k m) nodes (made_within pool number (TwoNode h a b) made)
    (subst (IsTree (ns ++ TwoNode h k m ∷ []) (length ns)) (sym is)
    (OfTwo (length ns) h k m (tree_of inner (item_at pool a)) (tree_of inner (item_at pool b)) (push_new ns (TwoNode h k m)) (tree_kept ns (ns ++ TwoNode h k m ∷ []) g k (tree_of inner (item_at pool a)) p.is.is) (tree_kept ns (ns ++ TwoNode h k m ∷ []) g m (tree_of inner (item_at pool b)) q.is.is)))

pub three_added : (pool : List Node) (bound : List ℕ) (number : ℕ) (ns : List Node) (h : Three) (a b c k m o : ℕ) → AreNodes ns → IsMade pool number (ThreeNode h a b c) → IsNodeOf pool ns bound a k → IsNodeOf pool ns bound b m → IsNodeOf pool ns bound c o → IsAdded pool bound number ns (ns ++ ThreeNode h k m o ∷ []) (length ns)
three_added pool bound number ns h a b c k m o nodes made p q r =
    let g : Extends ns (ns ++ ThreeNode h k m o ∷ []) = pushed ns (ThreeNode h k m o) in
    let is : tree_of bound (item_at pool number) ≡ ThreeTree h (tree_of bound (item_at pool a)) (tree_of bound (item_at pool b)) (tree_of bound (item_at pool c)) =
    ap (tree_of bound) made.item ∙ ap (renamed bound) (plain_three h (item_at pool a) (item_at pool b) (item_at pool c) made.parts.0.sort made.parts.1.sort made.parts.2.sort) in
    added pool bound number ns (ThreeNode h k m o) nodes (made_within pool number (ThreeNode h a b c) made)
    (subst (IsTree (ns ++ ThreeNode h k m o ∷ []) (length ns)) (sym is)
    (OfThree (length ns) h k m o (tree_of bound (item_at pool a)) (tree_of bound (item_at pool b)) (tree_of bound (item_at pool c)) (push_new ns (ThreeNode h k m o)) (tree_kept ns (ns ++ ThreeNode h k m o ∷ []) g k (tree_of bound (item_at pool a)) p.is.is) (tree_kept ns (ns ++ ThreeNode h k m o ∷ []) g m (tree_of bound (item_at pool b)) q.is.is) (tree_kept ns (ns ++ ThreeNode h k m o ∷ []) g o (tree_of bound (item_at pool c)) r.is.is)))

pub extends_more : (ns ms : List Node) → Extends ns ms → (i : ℕ) → i < length ns → i < length ms
extends_more ns ms g i w = (let l = ap length g.is in let m = length-append ns g.more in omega (arith, l, m, w))

-- ---- known parts

pub some_same : {X : Type 0} {x y : X} → Some x ≡ Some y → x ≡ y
some_same e = cc

parts_made : (pool : List Node) (known : ℕ → Option ℕ) (number : ℕ) (n : Node) → IsMade pool number n → ((part : ℕ) → IsOuterPart part n → IsFound known part) → ArePartsFound pool known number
parts_made pool known number n m all = record { each = λ k part e o. all part (subst (IsOuterPart part) (some_same (sym e ∙ m.found)) o) }

pub leaf_parts : (pool : List Node) (known : ℕ → Option ℕ) (number : ℕ) (h : Leaf) → IsMade pool number (LeafNode h) → ArePartsFound pool known number
leaf_parts pool known number h m = parts_made pool known number (LeafNode h) m (λ part o. absurd o)

pub one_parts : (pool : List Node) (known : ℕ → Option ℕ) (number : ℕ) (h : One) (a : ℕ) → IsMade pool number (OneNode h a) → IsFound known a → ArePartsFound pool known number
one_parts pool known number h a m f = parts_made pool known number (OneNode h a) m (λ part o. subst (IsFound known) (sym o) f)

outer_two : (h : Two) (a b part : ℕ) → IsOuterPart part (TwoNode h a b) → (part ≡ a) ⊎ (part ≡ b)
outer_two (Quantify o n) a b part x = absurd x
outer_two _ a b part x = x

pub two_parts : (pool : List Node) (known : ℕ → Option ℕ) (number : ℕ) (h : Two) (a b : ℕ) → IsMade pool number (TwoNode h a b) → IsFound known a → IsFound known b → ArePartsFound pool known number
two_parts pool known number h a b m f g = parts_made pool known number (TwoNode h a b) m (λ part o. go part (outer_two h a b part o))
  where
    go : (part : ℕ) → (part ≡ a) ⊎ (part ≡ b) → IsFound known part
    go part (inl e) = subst (IsFound known) (sym e) f
    go part (inr e) = subst (IsFound known) (sym e) g

pub three_parts : (pool : List Node) (known : ℕ → Option ℕ) (number : ℕ) (h : Three) (a b c : ℕ) → IsMade pool number (ThreeNode h a b c) → IsFound known a → IsFound known b → IsFound known c → ArePartsFound pool known number
three_parts pool known number h a b c m f g k = parts_made pool known number (ThreeNode h a b c) m go
  where
    go : (part : ℕ) → (part ≡ a) ⊎ ((part ≡ b) ⊎ (part ≡ c)) → IsFound known part
    go part (inl e) = subst (IsFound known) (sym e) f
    go part (inr (inl e)) = subst (IsFound known) (sym e) g
    go part (inr (inr e)) = subst (IsFound known) (sym e) k

not_longer : (bound : List ℕ) (n : ℕ) → bound ≡ n ∷ bound → ⊥
not_longer bound n e = let l : length bound ≡ suc (length bound) = ap length e in omega (arith, l)

no_outer : (h : Two) (bound : List ℕ) (n a b part : ℕ) → under h bound ≡ n ∷ bound → IsOuterPart part (TwoNode h a b) → ⊥
no_outer (Quantify o k) bound n a b part e x = x
no_outer _ bound n a b part e x = not_longer bound n e

pub quantified_parts : (pool : List Node) (known : ℕ → Option ℕ) (number : ℕ) (h : Two) (bound : List ℕ) (n a b : ℕ) → IsMade pool number (TwoNode h a b) → under h bound ≡ n ∷ bound → ArePartsFound pool known number
quantified_parts pool known number h bound n a b m e = parts_made pool known number (TwoNode h a b) m (λ part o. absurd (no_outer h bound n a b part e o))

pub found_stays : {before after : ℕ → Option ℕ} {i : ℕ} → ((i k : ℕ) → before i ≡ Some k → after i ≡ Some k) → IsFound before i → IsFound after i
found_stays {before} {after} {i} s f = record { node = f.node; found = s i f.node f.found }

parts_stay : {pool : List Node} {before after : ℕ → Option ℕ} {i : ℕ} → ((i k : ℕ) → before i ≡ Some k → after i ≡ Some k) → ArePartsFound pool before i → ArePartsFound pool after i
parts_stay s a = record { each = λ n part e o. found_stays s (a.each n part e o) }

-- ---- the continuation of a walk

pub grown_itself : (pool : List Node) (bound : List ℕ) (ns : List Node) (known : ℕ → Option ℕ) → AreNodes ns → AreKnown pool ns bound known → IsGrown pool bound ns ns known known
grown_itself pool bound ns known nodes are = record { nodes = nodes; extends = extends_itself ns; known = are; stays = λ i k e. e }

pub none_some : {X : Type 0} {x : X} → None ≡ Some x → ⊥
none_some e = absurd (cc)

pub nothing_known : (pool ns : List Node) (bound : List ℕ) (es : List (ℕ × ℕ)) → es ≡ [] → AreKnown pool ns bound (λ i. lookup (nat_eq i) es)
nothing_known pool ns bound es none = record { each = λ number node e. absurd (never number node e); parts = λ number node e. absurd (never number node e) }
  where
    never : (number node : ℕ) → lookup (nat_eq number) es ≡ Some node → ⊥
    never number node e = none_some (sym (ap (lookup (nat_eq number)) none) ∙ e)

pub grown_then : {pool : List Node} {bound : List ℕ} {ns ms ks : List Node} {before between after : ℕ → Option ℕ} → IsGrown pool bound ns ms before between → IsGrown pool bound ms ks between after → IsGrown pool bound ns ks before after
grown_then g h = record { nodes = h.nodes; extends = extends_then g.extends h.extends; known = h.known; stays = λ i k e. h.stays i k (g.stays i k e) }

pub grown_by : {pool : List Node} {bound : List ℕ} {number node : ℕ} {ns ms ks : List Node} {before after : ℕ → Option ℕ} → IsGrown pool bound ns ms before after → IsAdded pool bound number ms ks node → ArePartsFound pool after number → IsWalked pool bound number ns ks before after node
grown_by {pool} {bound} {number} {node} {ns} {ms} {ks} {before} {after} g a parts = record {
  grown = record { nodes = a.nodes; extends = extends_then g.extends a.extends; known = known_kept pool ms ks bound after a.extends g.known; stays = g.stays };
  is = a.is;
  parts = parts;
}

pub found_known : (pool : List Node) (bound : List ℕ) (number node : ℕ) (ns : List Node) (known : ℕ → Option ℕ) → AreNodes ns → AreKnown pool ns bound known → known number ≡ Some node → IsWalked pool bound number ns ns known known node
found_known pool bound number node ns known nodes are e = record { grown = grown_itself pool bound ns known nodes are; is = are.each number node e; parts = are.parts number node e }

-- the known numbers after a number was walked, and more after it
pub walked_then : {pool : List Node} {bound : List ℕ} {number node : ℕ} {ns ms ks : List Node} {before between after : ℕ → Option ℕ} → IsWalked pool bound number ns ms before between node → IsGrown pool bound ms ks between after → IsWalked pool bound number ns ks before after node
walked_then {pool} {bound} {number} {node} {ns} {ms} {ks} w g = record {
  grown = grown_then w.grown g;
  is = node_of_kept pool ms ks bound number node g.extends w.is;
  parts = parts_stay g.stays w.parts;
}

-- the node of a number is recorded
pub noted : (pool : List Node) (bound : List ℕ) (number node : ℕ) (ns ms : List Node) (before between after : ℕ → Option ℕ) → before number ≡ None → IsWalked pool bound number ns ms before between node → ((i : ℕ) → after i ≡ cond (nat_eq number i) (Some node) (between i)) → IsWalked pool bound number ns ms before after node
noted pool bound number node ns ms before between after none w put = record {
  grown = record {
    nodes = w.grown.nodes;
    extends = w.grown.extends;
    known = record { each = λ i k e. known i k (sym (put i) ∙ e) (nat_eq number i) refl; parts = λ i k e. parts i k (sym (put i) ∙ e) (nat_eq number i) refl };
    stays = λ i k e. put i ∙ stays i k e (nat_eq number i) refl;
  };
  is = w.is;
  parts = more number w.parts;
}
  where
    same : (i : ℕ) → nat_eq number i ≡ true → number ≡ i
    same i e = grind (arith, nat_tests)

    known : (i k : ℕ) → cond (nat_eq number i) (Some node) (between i) ≡ Some k → (t : Bool) → nat_eq number i ≡ t → IsNodeOf pool ms bound i k
    known i k e true q =
        let is : node ≡ k = some_same (sym (ap (λ d. cond d (Some node) (between i)) q) ∙ e) in
        subst (λ m. IsNodeOf pool ms bound m k) (same i q) (subst (IsNodeOf pool ms bound number) is w.is)
    known i k e false q = w.grown.known.each i k (sym (ap (λ d. cond d (Some node) (between i)) q) ∙ e)

    found : (i k : ℕ) → between i ≡ Some k → (t : Bool) → nat_eq number i ≡ t → IsFound after i
    found i k e true q = record { node = node; found = put i ∙ ap (λ d. cond d (Some node) (between i)) q }
    found i k e false q = record { node = k; found = put i ∙ ap (λ d. cond d (Some node) (between i)) q ∙ e }

    more : (i : ℕ) → ArePartsFound pool between i → ArePartsFound pool after i
    more i a = record { each = λ n part e o. (let f : IsFound between part = a.each n part e o in found part f.node f.found (nat_eq number part) refl) }

    parts : (i k : ℕ) → cond (nat_eq number i) (Some node) (between i) ≡ Some k → (t : Bool) → nat_eq number i ≡ t → ArePartsFound pool after i
    parts i k e true q = subst (ArePartsFound pool after) (same i q) (more number w.parts)
    parts i k e false q = more i (w.grown.known.parts i k (sym (ap (λ d. cond d (Some node) (between i)) q) ∙ e))

    stays : (i k : ℕ) → before i ≡ Some k → (t : Bool) → nat_eq number i ≡ t → cond (nat_eq number i) (Some node) (between i) ≡ Some k
    stays i k e true q = let none_here : None ≡ Some k = sym none ∙ ap before (same i q) ∙ e in absurd (cc)
    stays i k e false q = ap (λ d. cond d (Some node) (between i)) q ∙ w.grown.stays i k e

pub noted_here : (number node : ℕ) (between after : ℕ → Option ℕ) → ((i : ℕ) → after i ≡ cond (nat_eq number i) (Some node) (between i)) → after number ≡ Some node
noted_here number node between after put = put number ∙ ap (λ d. cond d (Some node) (between number)) itself
  where
    itself : nat_eq number number ≡ true
    itself = grind (arith, nat_tests)

-- the result of a call: the number of a node that was added at the end
pub walked_by : {E : Type 0} (pool : List Node) (bound : List ℕ) (number : ℕ) (ns ms ks : List Node) (before after : ℕ → Option ℕ) (node : Node) (r : Result ℕ E) → IsGrown pool bound ns ms before after → IsAdded pool bound number ms (ms ++ node ∷ []) (length ms) → ArePartsFound pool after number → IfOk r (λ k. k ≡ length ms) → OnOk r (ks ≡ ms ++ node ∷ []) → IfOk r (λ k. IsWalked pool bound number ns ks before after k)
walked_by pool bound number ns ms ks before after node (Ok k) g a parts e f =
    subst (λ x. IsWalked pool bound number ns x before after k) (sym f) (subst (IsWalked pool bound number ns (ms ++ node ∷ []) before after) (sym e) (grown_by g a parts))
walked_by pool bound number ns ms ks before after node (Err x) g a parts e f = e

pub added_by : {E : Type 0} (pool : List Node) (bound : List ℕ) (number : ℕ) (ns ms ks : List Node) (node : Node) (r : Result ℕ E) → Extends ns ms → IsAdded pool bound number ms (ms ++ node ∷ []) (length ms) → IfOk r (λ k. k ≡ length ms) → OnOk r (ks ≡ ms ++ node ∷ []) → IfOk r (λ k. IsAdded pool bound number ns ks k)
added_by pool bound number ns ms ks node (Ok k) g a e f =
    subst (λ x. IsAdded pool bound number ns x k) (sym f) (subst (IsAdded pool bound number ns (ms ++ node ∷ [])) (sym e) (record { nodes = a.nodes; extends = extends_then g a.extends; is = a.is }))
added_by pool bound number ns ms ks node (Err x) g a e f = e

-- a node that was added, when no further number became known
pub walked_of_added : {E : Type 0} (pool : List Node) (bound : List ℕ) (number : ℕ) (ns ks : List Node) (known : ℕ → Option ℕ) (r : Result ℕ E) → AreNodes ns → AreKnown pool ns bound known → ArePartsFound pool known number → IfOk r (λ k. IsAdded pool bound number ns ks k) → IfOk r (λ k. IsWalked pool bound number ns ks known known k)
walked_of_added pool bound number ns ks known (Ok k) nodes are parts a = grown_by (grown_itself pool bound ns known nodes are) a parts
walked_of_added pool bound number ns ks known (Err x) nodes are parts a = a

-- ---- each form

pub leaf_walked : {E : Type 0} (pool : List Node) (bound : List ℕ) (number : ℕ) (ns ks : List Node) (h : Leaf) (n : Node) (known : ℕ → Option ℕ) (r : Result ℕ E) → AreNodes ns → AreKnown pool ns bound known → n ≡ LeafNode h → IsMade pool number n → IfOk r (λ node. (from : List Node) (i : ℕ) → IsMade from i (LeafNode h) → IsAdded from bound i ns ks node) → IfOk r (λ k. IsWalked pool bound number ns ks known known k)
leaf_walked pool bound number ns ks h n known r nodes are e made a =
    let m : IsMade pool number (LeafNode h) = subst (IsMade pool number) e made in
    walked_of_added pool bound number ns ks known r nodes are (leaf_parts pool known number h m) (if_ok r (λ k f. f pool number m) a)

pub quantified_walked : {E : Type 0} (pool : List Node) (bound : List ℕ) (number : ℕ) (ns ks : List Node) (h : Two) (a b v : ℕ) (n : Node) (known : ℕ → Option ℕ) (r : Result ℕ E) → AreNodes ns → AreKnown pool ns bound known → n ≡ TwoNode h a b → IsMade pool number n → under h bound ≡ v ∷ bound → IfOk r (λ node. IsAdded pool bound number ns ks node) → IfOk r (λ k. IsWalked pool bound number ns ks known known k)
quantified_walked pool bound number ns ks h a b v n known r nodes are e made binds x =
    walked_of_added pool bound number ns ks known r nodes are (quantified_parts pool known number h bound v a b (subst (IsMade pool number) e made) binds) x

pub one_walked : {E : Type 0} (pool : List Node) (bound : List ℕ) (number : ℕ) (ns ms ks : List Node) (h : One) (a k : ℕ) (before after : ℕ → Option ℕ) (r : Result ℕ E) → IsMade pool number (OneNode h a) → IsGrown pool bound ns ms before after → IsNodeOf pool ms bound a k → after a ≡ Some k → IfOk r (λ j. j ≡ length ms) → OnOk r (ks ≡ ms ++ OneNode h k ∷ []) → IfOk r (λ j. IsWalked pool bound number ns ks before after j)
one_walked pool bound number ns ms ks h a k before after r made g is found last more =
    walked_by pool bound number ns ms ks before after (OneNode h k) r g (one_added pool bound number ms h a k g.nodes made is) (one_parts pool after number h a made (record { node = k; found = found })) last more

pub pair_within : {pool : List Node} {bound inner : List ℕ} {a b k m : ℕ} {n1 n2 n3 : List Node} {f1 f2 g2 g3 : ℕ → Option ℕ} → IsWalked pool bound a n1 n2 f1 f2 k → IsWalked pool inner b n2 n3 g2 g3 m → (k < length n3) × (m < length n3)
pair_within {pool} {bound} {inner} {a} {b} {k} {m} {n1} {n2} {n3} v w = (node_within pool n3 bound a k (node_of_kept pool n2 n3 bound a k w.grown.extends v.is), node_within pool n3 inner b m w.is)

pub two_walked : {E : Type 0} (pool : List Node) (bound : List ℕ) (number : ℕ) (n0 n1 n2 n3 ks : List Node) (h : Two) (a b k m : ℕ) (f0 f1 f2 f3 : ℕ → Option ℕ) (r : Result ℕ E) → IsMade pool number (TwoNode h a b) → under h bound ≡ bound → IsGrown pool bound n0 n1 f0 f1 → IsWalked pool bound a n1 n2 f1 f2 k → f2 a ≡ Some k → IsWalked pool bound b n2 n3 f2 f3 m → f3 b ≡ Some m → IfOk r (λ j. j ≡ length n3) → OnOk r (ks ≡ n3 ++ TwoNode h k m ∷ []) → IfOk r (λ j. IsWalked pool bound number n0 ks f0 f3 j)
two_walked pool bound number n0 n1 n2 n3 ks h a b k m f0 f1 f2 f3 r made plain g v ek w em last more =
    walked_by pool bound number n0 n3 ks f0 f3 (TwoNode h k m) r (grown_then g (grown_then v.grown w.grown))
    (two_added pool bound bound number n3 h a b k m plain w.grown.nodes made (node_of_kept pool n2 n3 bound a k w.grown.extends v.is) w.is)
    (two_parts pool f3 number h a b made (record { node = k; found = w.grown.stays a k ek }) (record { node = m; found = em })) last more

pub triple_within : {pool : List Node} {bound : List ℕ} {a b c k m o : ℕ} {n0 n1 n2 n3 : List Node} {f0 f1 f2 f3 : ℕ → Option ℕ} → IsWalked pool bound a n0 n1 f0 f1 k → IsWalked pool bound b n1 n2 f1 f2 m → IsWalked pool bound c n2 n3 f2 f3 o → (k < length n3) × (m < length n3) × (o < length n3)
triple_within {pool} {bound} {a} {b} {c} {k} {m} {o} {n0} {n1} {n2} {n3} u v w =
    let more : Extends n1 n3 = extends_then v.grown.extends w.grown.extends in
    (node_within pool n3 bound a k (node_of_kept pool n1 n3 bound a k more u.is), node_within pool n3 bound b m (node_of_kept pool n2 n3 bound b m w.grown.extends v.is), node_within pool n3 bound c o w.is)

pub three_walked : {E : Type 0} (pool : List Node) (bound : List ℕ) (number : ℕ) (n0 n1 n2 n3 ks : List Node) (h : Three) (a b c k m o : ℕ) (f0 f1 f2 f3 : ℕ → Option ℕ) (r : Result ℕ E) → IsMade pool number (ThreeNode h a b c) → IsWalked pool bound a n0 n1 f0 f1 k → f1 a ≡ Some k → IsWalked pool bound b n1 n2 f1 f2 m → f2 b ≡ Some m → IsWalked pool bound c n2 n3 f2 f3 o → f3 c ≡ Some o → IfOk r (λ j. j ≡ length n3) → OnOk r (ks ≡ n3 ++ ThreeNode h k m o ∷ []) → IfOk r (λ j. IsWalked pool bound number n0 ks f0 f3 j)
three_walked pool bound number n0 n1 n2 n3 ks h a b c k m o f0 f1 f2 f3 r made u ek v em w eo last more =
    walked_by pool bound number n0 n3 ks f0 f3 (ThreeNode h k m o) r (grown_then u.grown (grown_then v.grown w.grown))
    (three_added pool bound number n3 h a b c k m o w.grown.nodes made (node_of_kept pool n1 n3 bound a k (extends_then v.grown.extends w.grown.extends) u.is) (node_of_kept pool n2 n3 bound b m w.grown.extends v.is) w.is)
    (three_parts pool f3 number h a b c made (record { node = k; found = w.grown.stays a k (v.grown.stays a k ek) }) (record { node = m; found = w.grown.stays b m em }) (record { node = o; found = eo })) last more

-- the parts of a quantifier are under it
pub quantified_added : {E : Type 0} (pool : List Node) (outside first second : List ℕ) (number : ℕ) (n0 n1 n2 ks : List Node) (h : Two) (v a b k m : ℕ) (f0 f1 g1 g2 : ℕ → Option ℕ) (r : Result ℕ E) → IsMade pool number (TwoNode h a b) → under h outside ≡ v ∷ outside → first ≡ v ∷ outside → second ≡ v ∷ outside → IsWalked pool first a n0 n1 f0 f1 k → IsWalked pool second b n1 n2 g1 g2 m → IfOk r (λ j. j ≡ length n2) → OnOk r (ks ≡ n2 ++ TwoNode h k m ∷ []) → IfOk r (λ j. IsAdded pool outside number n0 ks j)
quantified_added pool outside first second number n0 n1 n2 ks h v a b k m f0 f1 g1 g2 r made binds ef es u w last more =
    added_by pool outside number n0 n2 ks (TwoNode h k m) r (extends_then u.grown.extends w.grown.extends)
    (two_added pool outside (v ∷ outside) number n2 h a b k m binds w.grown.nodes made
    (subst (λ inner. IsNodeOf pool n2 inner a k) ef (node_of_kept pool n1 n2 first a k w.grown.extends u.is))
    (subst (λ inner. IsNodeOf pool n2 inner b m) es w.is)) last more
