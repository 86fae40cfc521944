-- Each item has one number.
use Rattle.std.proofs.Common.{◌≡◌, ◌⊎◌, inl, inr, ℕ, zero, suc, ◌<◌, ◌≤◌, List, [], ◌∷◌, ◌++◌, length, Some, refl, sym, ap, ◌∙◌, subst, arith}
use Rattle.std.specs.Prelude.{slice_get}
use Rattle.term_pool.specs.Pools.{item_of, items, item_at, HasParts, IsPool, IsNowhere, IsOneNumber, IsMade, Extends}
use Rattle.term_pool.specs.declared.node.Node.{Node}
use Rattle.term_pool.specs.declared.node.Node.TheVariants.{Leaf as LeafNode, One as OneNode, Two as TwoNode, Three as ThreeNode}
use Rattle.term_pool.proofs.ItemLemmas.{item_node, parts_kept}
use Rattle.term_pool.proofs.ShapeLemmas.{Shape, LeafShape, OneShape, TwoShape, ThreeShape, shape_of, leaf_shape, one_shape, two_shape, three_shape}

pub record NodeAt (ns : List Node) (i : ℕ) : Type 0 where
  pub node : Node
  pub found : slice_get ns i ≡ Some node

pub node_at : (ns : List Node) (i : ℕ) → i < length ns → NodeAt ns i
node_at [] i h = absurd (omega arith)
node_at (n ∷ ns) zero h = record { node = n; found = refl }
node_at (n ∷ ns) (suc i) h = let rest = node_at ns i (omega arith) in record { node = rest.node; found = rest.found }

module _ (ns : List Node) (pool : IsPool ns) where
  abbrev node_shape : Node → Shape
  node_shape (LeafNode h) = LeafShape h
  node_shape (OneNode h a) = OneShape h (item_at ns a)
  node_shape (TwoNode h a b) = TwoShape h (item_at ns a) (item_at ns b)
  node_shape (ThreeNode h a b c) = ThreeShape h (item_at ns a) (item_at ns b) (item_at ns c)

  shape_by_parts : (i : ℕ) (n : Node) → HasParts ns i n → shape_of (item_of (items ns) n) ≡ node_shape n
  shape_by_parts i (LeafNode h) p = leaf_shape h
  shape_by_parts i (OneNode h a) p = one_shape h (item_at ns a) p.sort
  shape_by_parts i (TwoNode h a b) p = two_shape h (item_at ns a) (item_at ns b) p.0.sort p.1.sort
  shape_by_parts i (ThreeNode h a b c) p = three_shape h (item_at ns a) (item_at ns b) (item_at ns c) p.0.sort p.1.sort p.2.sort

  pub shape_at : (i : ℕ) (n : Node) → slice_get ns i ≡ Some n → shape_of (item_at ns i) ≡ node_shape n
  shape_at i n found = ap shape_of (item_node ns pool i n found) ∙ shape_by_parts i n (pool.parts i n found)

  same_nodes : (k : ℕ) → ((i j : ℕ) → i < k → i < length ns → j < length ns → item_at ns i ≡ item_at ns j → i ≡ j) → (i j : ℕ) (m n : Node) → i ≤ k → i < length ns → j < length ns → HasParts ns i m → HasParts ns j n → node_shape m ≡ node_shape n → m ≡ n
  same_nodes k earlier i j (LeafNode h) (LeafNode g) hk wi wj p q e = let head : h ≡ g = cc in ap LeafNode head
  same_nodes k earlier i j (OneNode h a) (OneNode g x) hk wi wj p q e =
      let head : h ≡ g = cc in
      let ea : item_at ns a ≡ item_at ns x = cc in
      let pa : a ≡ x = earlier a x (omega (arith, p.earlier)) (omega (arith, p.earlier)) (omega (arith, q.earlier)) ea in
      λ t. OneNode (head t) (pa t)
  same_nodes k earlier i j (TwoNode h a b) (TwoNode g x y) hk wi wj p q e =
      let head : h ≡ g = cc in
      let ea : item_at ns a ≡ item_at ns x = cc in
      let eb : item_at ns b ≡ item_at ns y = cc in
      let pa : a ≡ x = earlier a x (omega (arith, p.0.earlier)) (omega (arith, p.0.earlier)) (omega (arith, q.0.earlier)) ea in
      let pb : b ≡ y = earlier b y (omega (arith, p.1.earlier)) (omega (arith, p.1.earlier)) (omega (arith, q.1.earlier)) eb in
      λ t. TwoNode (head t) (pa t) (pb t)
  same_nodes k earlier i j (ThreeNode h a b c) (ThreeNode g x y z) hk wi wj p q e =
      let head : h ≡ g = cc in
      let ea : item_at ns a ≡ item_at ns x = cc in
      let eb : item_at ns b ≡ item_at ns y = cc in
      let ec : item_at ns c ≡ item_at ns z = cc in
      let pa : a ≡ x = earlier a x (omega (arith, p.0.earlier)) (omega (arith, p.0.earlier)) (omega (arith, q.0.earlier)) ea in
      let pb : b ≡ y = earlier b y (omega (arith, p.1.earlier)) (omega (arith, p.1.earlier)) (omega (arith, q.1.earlier)) eb in
      let pc : c ≡ z = earlier c z (omega (arith, p.2.earlier)) (omega (arith, p.2.earlier)) (omega (arith, q.2.earlier)) ec in
      λ t. ThreeNode (head t) (pa t) (pb t) (pc t)
  same_nodes k earlier i j _ _ hk wi wj p q e = absurd (cc)

  one_below : (k i j : ℕ) → i < k → i < length ns → j < length ns → item_at ns i ≡ item_at ns j → i ≡ j
  one_below zero i j h wi wj e = absurd (omega arith)
  one_below (suc k) i j h wi wj e =
      let a : NodeAt ns i = node_at ns i wi in
      let b : NodeAt ns j = node_at ns j wj in
      let shapes : node_shape a.node ≡ node_shape b.node = sym (shape_at i a.node a.found) ∙ ap shape_of e ∙ shape_at j b.node b.found in
      let same : a.node ≡ b.node = same_nodes k (one_below k) i j a.node b.node (omega arith) wi wj (pool.parts i a.node a.found) (pool.parts j b.node b.found) shapes in
      pool.once i j b.node (a.found ∙ ap Some same) b.found

  pub one_number : IsOneNumber ns
  one_number = record { one = λ i j wi wj e. one_below (suc i) i j (omega arith) wi wj e }

  pub made : (i : ℕ) (n : Node) → slice_get ns i ≡ Some n → IsMade ns i n
  made i n found = record { found = found; item = item_node ns pool i n found; parts = pool.parts i n found }

-- ---- one more node

at_push : (ns : List Node) (n : Node) (i : ℕ) (m : Node) → slice_get (ns ++ n ∷ []) i ≡ Some m → (slice_get ns i ≡ Some m) ⊎ ((i ≡ length ns) × (m ≡ n))
at_push [] n zero m e = inr (omega arith, cc)
at_push [] n (suc i) m e = absurd (cc)
at_push (k ∷ ns) n zero m e = inl e
at_push (k ∷ ns) n (suc i) m e = elim (at_push ns n i m e) [ inl h ↦ inl h | inr h ↦ inr (omega (arith, h.0), h.1) ]

pub at_end : (ns : List Node) (n : Node) → slice_get (ns ++ n ∷ []) (length ns) ≡ Some n
at_end [] n = refl
at_end (k ∷ ns) n = at_end ns n

pub extended : (ns : List Node) (n : Node) → Extends ns (ns ++ n ∷ [])
extended ns n = record { more = n ∷ []; is = refl }

pub pool_more : (ns : List Node) (n : Node) → IsPool ns → HasParts ns (length ns) n → IsNowhere ns n → IsPool (ns ++ n ∷ [])
pool_more ns n pool parts nowhere = record {
  parts = λ i m e. has i m (at_push ns n i m e);
  once = λ i j m e f. one i j m (at_push ns n i m e) (at_push ns n j m f);
}
  where
    within : (ks : List Node) (i : ℕ) (m : Node) → slice_get ks i ≡ Some m → i < length ks
    within [] i m e = absurd (cc)
    within (k ∷ ks) zero m e = omega arith
    within (k ∷ ks) (suc i) m e = omega (arith, within ks i m e)

    has : (i : ℕ) (m : Node) → (slice_get ns i ≡ Some m) ⊎ ((i ≡ length ns) × (m ≡ n)) → HasParts (ns ++ n ∷ []) i m
    has i m (inl e) = parts_kept ns (ns ++ n ∷ []) (extended ns n) i m (omega (arith, within ns i m e)) (pool.parts i m e)
    has i m (inr h) = parts_kept ns (ns ++ n ∷ []) (extended ns n) i m (omega (arith, h.0)) (subst (λ k. HasParts ns k m) (sym h.0) (subst (HasParts ns (length ns)) (sym h.1) parts))

    one : (i j : ℕ) (m : Node) → (slice_get ns i ≡ Some m) ⊎ ((i ≡ length ns) × (m ≡ n)) → (slice_get ns j ≡ Some m) ⊎ ((j ≡ length ns) × (m ≡ n)) → i ≡ j
    one i j m (inl e) (inl f) = pool.once i j m e f
    one i j m (inl e) (inr h) = absurd (nowhere.nowhere i (e ∙ ap Some h.1))
    one i j m (inr h) (inl f) = absurd (nowhere.nowhere j (f ∙ ap Some h.1))
    one i j m (inr h) (inr k) = h.0 ∙ sym k.0
