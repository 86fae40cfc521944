-- Bound variables that are free at a node are free in its item, and conversely if it fits under quantifiers; connected
-- nodes have the same ones, and are equal or congruent if they have some.
use Rattle.std.proofs.Common.{◌≡◌, ◌⊎◌, inl, inr, ℕ, zero, suc, ◌<◌, ◌≤◌, Bool, true, false, List, [], ◌∷◌, length, take, Some, refl, sym, ap, ◌∙◌, subst, arith}
use Rattle.std.specs.Prelude.{slice_get, if◌then◌else◌, ◌==◌}
use Rattle.std.proofs.lemmas.Bool.{or_right}
use Rattle.term_pool.specs.Items.{leaf_item}
use Rattle.term_pool.specs.Pools.{item_at, IsMade}
use Rattle.term_pool.specs.declared.node.Leaf.{Leaf}
use Rattle.term_pool.specs.declared.node.Leaf.TheVariants.{Var, TypeParam}
use Rattle.term_pool.specs.declared.node.One.{One}
use Rattle.term_pool.specs.declared.node.One.TheVariants.{Not}
use Rattle.term_pool.specs.declared.node.Two.{Two}
use Rattle.term_pool.specs.declared.node.Two.TheVariants.{Quantify}
use Rattle.term_pool.specs.declared.node.Three.{Three}
use Rattle.term_pool.specs.declared.node.Node.{Node}
use Rattle.term_pool.specs.declared.node.Node.TheVariants.{Leaf as LeafNode, One as OneNode, Two as TwoNode, Three as ThreeNode}
use Rattle.term_pool.specs.Free.{free_in_item, binds, IsOneOf}
use Rattle.term_pool.proofs.FreeLemmas.{free_up, quiet_here}
use Rattle.congruence_closure.specs.Links.{Linked, ByLink, Itself, Turned, Chained, AreAlike, IsReason}
use Rattle.congruence_closure.specs.States.{IsPart}
use Rattle.congruence_closure.specs.declared.classes.link.Link.{Link}
use Rattle.congruence_closure.specs.declared.classes.link.Why.{Why}
use Rattle.congruence_closure.specs.declared.classes.link.Why.TheVariants.{Given, Alike}
use Rattle.congruence_closure.specs.Trees.{among}
use Rattle.congruence_closure.specs.Numbers.{number_at, renumbered, IsReal, IsNumbered, ByParts, Bound, Parameter}
use Rattle.congruence_closure.proofs.TreeLemmas.{clash, itself, same_number}
use Rattle.explanations.specs.Frames.{bound_in}
use Rattle.explanations.specs.BoundNodes.{HasBound, ItIs, InOnly, InFirst, InSecond, InFront, InMiddle, InLast, FitsUnder, BoundFits, LeafFits, OneFits, TwoFits, ThreeFits}
use Rattle.explanations.specs.Graphs.{IsGraph}
use Rattle.explanations.proofs.LinkedLemmas.{from_taken, taken_below, linked_later, alike_turned, alike_more, IsOneOrAlike, linked_turned, linked_then, parameter_linked, no_denied_parameter}

-- ---- nodes with equal numbers

pub one_head : (h k : One) (a x : ℕ) → OneNode h a ≡ OneNode k x → (h ≡ k) × (a ≡ x)
one_head h k a x e = ((cc), (cc))

pub two_head : (h k : Two) (a b x y : ℕ) → TwoNode h a b ≡ TwoNode k x y → (h ≡ k) × (a ≡ x) × (b ≡ y)
two_head h k a b x y e = ((cc), (cc), (cc))

pub three_head : (h k : Three) (a b c x y z : ℕ) → ThreeNode h a b c ≡ ThreeNode k x y z → (h ≡ k) × (a ≡ x) × (b ≡ y) × (c ≡ z)
three_head h k a b c x y z e = ((cc), (cc), (cc), (cc))

same_leaf : (h k : Leaf) → LeafNode h ≡ LeafNode k → h ≡ k
same_leaf h k e = cc

same_variable : (n k : ℕ) → TypeParam n ≡ TypeParam k → n ≡ k
same_variable n k e = cc

among_in : (v : ℕ) (h : Two) (bound : List ℕ) → among v bound ≡ true → among v (bound_in h bound) ≡ true
among_in v (Quantify o k) bound e = or_right (v == k) (among v bound) e
among_in v h bound e = e

module _ (ns : List Node) where
  pub one_node : (i : ℕ) (n m : Node) → slice_get ns i ≡ Some n → slice_get ns i ≡ Some m → n ≡ m
  one_node i n m e f = let both : Some n ≡ Some m = sym e ∙ f in (cc)

  pub not_leaf_one : (i : ℕ) (h : Leaf) (k : One) (a : ℕ) → slice_get ns i ≡ Some (LeafNode h) → slice_get ns i ≡ Some (OneNode k a) → ⊥
  not_leaf_one i h k a e f = let both : LeafNode h ≡ OneNode k a = one_node i (LeafNode h) (OneNode k a) e f in absurd (cc)

  not_leaf_two : (i : ℕ) (h : Leaf) (k : Two) (a b : ℕ) → slice_get ns i ≡ Some (LeafNode h) → slice_get ns i ≡ Some (TwoNode k a b) → ⊥
  not_leaf_two i h k a b e f = let both : LeafNode h ≡ TwoNode k a b = one_node i (LeafNode h) (TwoNode k a b) e f in absurd (cc)

  not_leaf_three : (i : ℕ) (h : Leaf) (k : Three) (a b c : ℕ) → slice_get ns i ≡ Some (LeafNode h) → slice_get ns i ≡ Some (ThreeNode k a b c) → ⊥
  not_leaf_three i h k a b c e f = let both : LeafNode h ≡ ThreeNode k a b c = one_node i (LeafNode h) (ThreeNode k a b c) e f in absurd (cc)

  pub not_one_two : (i : ℕ) (h : One) (x : ℕ) (k : Two) (a b : ℕ) → slice_get ns i ≡ Some (OneNode h x) → slice_get ns i ≡ Some (TwoNode k a b) → ⊥
  not_one_two i h x k a b e f = let both : OneNode h x ≡ TwoNode k a b = one_node i (OneNode h x) (TwoNode k a b) e f in absurd (cc)

  pub not_one_three : (i : ℕ) (h : One) (x : ℕ) (k : Three) (a b c : ℕ) → slice_get ns i ≡ Some (OneNode h x) → slice_get ns i ≡ Some (ThreeNode k a b c) → ⊥
  not_one_three i h x k a b c e f = let both : OneNode h x ≡ ThreeNode k a b c = one_node i (OneNode h x) (ThreeNode k a b c) e f in absurd (cc)

  pub not_two_three : (i : ℕ) (h : Two) (x y : ℕ) (k : Three) (a b c : ℕ) → slice_get ns i ≡ Some (TwoNode h x y) → slice_get ns i ≡ Some (ThreeNode k a b c) → ⊥
  not_two_three i h x y k a b c e f = let both : TwoNode h x y ≡ ThreeNode k a b c = one_node i (TwoNode h x y) (ThreeNode k a b c) e f in absurd (cc)

  -- ---- the parts of a node that fits

  pub fits_only : (bound : List ℕ) (i : ℕ) (h : One) (a : ℕ) → FitsUnder ns bound i → slice_get ns i ≡ Some (OneNode h a) → FitsUnder ns bound a
  fits_only _ _ h a (BoundFits bound i b n e p) f =
      let same : b ≡ a = (one_head Not h b a (one_node i (OneNode Not b) (OneNode h a) e f)).1 in
      LeafFits bound a (TypeParam n) (subst (λ x. slice_get ns x ≡ Some (LeafNode (TypeParam n))) same p) (λ k q. absurd (cc))
  fits_only _ _ h a (OneFits bound i k b e p) f = subst (FitsUnder ns bound) (one_head k h b a (one_node i (OneNode k b) (OneNode h a) e f)).1 p
  fits_only _ _ h a (LeafFits bound i k e p) f = absurd (not_leaf_one i k h a e f)
  fits_only _ _ h a (TwoFits bound i k x y e p q) f = absurd (not_one_two i h a k x y f e)
  fits_only _ _ h a (ThreeFits bound i k x y z e p q r) f = absurd (not_one_three i h a k x y z f e)

  pub fits_two : (bound : List ℕ) (i : ℕ) (h : Two) (a b : ℕ) → FitsUnder ns bound i → slice_get ns i ≡ Some (TwoNode h a b) → FitsUnder ns (bound_in h bound) a × FitsUnder ns (bound_in h bound) b
  fits_two _ _ h a b (TwoFits bound i k x y e p q) f =
      let same : (k ≡ h) × (x ≡ a) × (y ≡ b) = two_head k h x y a b (one_node i (TwoNode k x y) (TwoNode h a b) e f) in (
        subst (λ o. FitsUnder ns (bound_in o bound) a) same.0 (subst (FitsUnder ns (bound_in k bound)) same.1 p),
        subst (λ o. FitsUnder ns (bound_in o bound) b) same.0 (subst (FitsUnder ns (bound_in k bound)) same.2 q),
      )
  fits_two _ _ h a b (BoundFits bound i x n e p) f = absurd (not_one_two i Not x h a b e f)
  fits_two _ _ h a b (LeafFits bound i k e p) f = absurd (not_leaf_two i k h a b e f)
  fits_two _ _ h a b (OneFits bound i k x e p) f = absurd (not_one_two i k x h a b e f)
  fits_two _ _ h a b (ThreeFits bound i k x y z e p q r) f = absurd (not_two_three i h a b k x y z f e)

  pub fits_three : (bound : List ℕ) (i : ℕ) (h : Three) (a b c : ℕ) → FitsUnder ns bound i → slice_get ns i ≡ Some (ThreeNode h a b c) → FitsUnder ns bound a × FitsUnder ns bound b × FitsUnder ns bound c
  fits_three _ _ h a b c (ThreeFits bound i k x y z e p q r) f =
      let same : (k ≡ h) × (x ≡ a) × (y ≡ b) × (z ≡ c) = three_head k h x y z a b c (one_node i (ThreeNode k x y z) (ThreeNode h a b c) e f) in
      (subst (FitsUnder ns bound) same.1 p, subst (FitsUnder ns bound) same.2 q, subst (FitsUnder ns bound) same.3 r)
  fits_three _ _ h a b c (BoundFits bound i x n e p) f = absurd (not_one_three i Not x h a b c e f)
  fits_three _ _ h a b c (LeafFits bound i k e p) f = absurd (not_leaf_three i k h a b c e f)
  fits_three _ _ h a b c (OneFits bound i k x e p) f = absurd (not_one_three i k x h a b c e f)
  fits_three _ _ h a b c (TwoFits bound i k x y e p q) f = absurd (not_two_three i k x y h a b c e f)

  -- a leaf has no bound variable
  pub leaf_closed : (v i : ℕ) (h : Leaf) → slice_get ns i ≡ Some (LeafNode h) → HasBound ns v i → ⊥
  leaf_closed v _ h f (ItIs i a e p) = not_leaf_one i h Not a f e
  leaf_closed v _ h f (InOnly i k a e b) = not_leaf_one i h k a f e
  leaf_closed v _ h f (InFirst i k x y e q b) = not_leaf_two i h k x y f e
  leaf_closed v _ h f (InSecond i k x y e q b) = not_leaf_two i h k x y f e
  leaf_closed v _ h f (InFront i k x y z e b) = not_leaf_three i h k x y z f e
  leaf_closed v _ h f (InMiddle i k x y z e b) = not_leaf_three i h k x y z f e
  leaf_closed v _ h f (InLast i k x y z e b) = not_leaf_three i h k x y z f e

-- ---- variables that are free in the items of nodes

leaf_free : (v : ℕ) (h : Leaf) → free_in_item v (leaf_item h) ≡ true → (k : ℕ) × (h ≡ Var k) × (v ≡ k)
leaf_free v (Var k) f = (k, refl, same_number v k f)
leaf_free v _ f = absurd (cc)

module _ (pool ns : List Node) (ls : List Link) (numbers : List ℕ) (g : IsGraph pool ns ls numbers) where
  abbrev free_at : ℕ → ℕ → Bool
  free_at v i = free_in_item v (item_at pool (number_at numbers i))

  -- a leaf has the number of its item
  pub leaf_made : (i : ℕ) (h : Leaf) → i < length ns → IsReal pool ns numbers i → slice_get ns i ≡ Some (LeafNode h) → IsMade pool (number_at numbers i) (LeafNode h)
  leaf_made i h w r f = go (g.numbered i w)
    where
      go : IsNumbered pool ns numbers i → IsMade pool (number_at numbers i) (LeafNode h)
      go (ByParts n e made real) = subst (λ m. IsMade pool (number_at numbers i) (renumbered numbers m)) (one_node ns i n (LeafNode h) e f) made
      go (Bound a n e param made) = absurd (not_leaf_one ns i h Not a f e)
      go (Parameter n e) = subst (λ m. IsMade pool (number_at numbers i) m) (one_node ns i (LeafNode (TypeParam n)) (LeafNode h) e f) (r.made n e)

  -- a node has the number of the item of its parts, or is a bound variable
  pub record IsOfParts (i : ℕ) (n : Node) : Type 0 where
    pub made : IsMade pool (number_at numbers i) (renumbered numbers n)
    pub real : (p : ℕ) → IsPart p n → IsReal pool ns numbers p

  pub record IsBoundNode (i a n : ℕ) : Type 0 where
    pub here : slice_get ns i ≡ Some (OneNode Not a)
    pub parameter : slice_get ns a ≡ Some (LeafNode (TypeParam n))
    pub made : IsMade pool (number_at numbers i) (LeafNode (Var n))

  only_made : (i : ℕ) (h : One) (a : ℕ) → i < length ns → slice_get ns i ≡ Some (OneNode h a) → IsOfParts i (OneNode h a) ⊎ ((n : ℕ) × IsBoundNode i a n)
  only_made i h a w f = go (g.numbered i w)
    where
      go : IsNumbered pool ns numbers i → IsOfParts i (OneNode h a) ⊎ ((n : ℕ) × IsBoundNode i a n)
      go (ByParts n e made real) = inl (subst (IsOfParts i) (one_node ns i n (OneNode h a) e f) (record { made = made; real = real }))
      go (Bound b n e param made) =
          let same : b ≡ a = (one_head Not h b a (one_node ns i (OneNode Not b) (OneNode h a) e f)).1 in
          inr (n, subst (λ x. IsBoundNode i x n) same (record { here = e; parameter = param; made = made }))
      go (Parameter n e) = absurd (not_leaf_one ns i (TypeParam n) h a e f)

  two_made : (i : ℕ) (h : Two) (a b : ℕ) → i < length ns → slice_get ns i ≡ Some (TwoNode h a b) → IsOfParts i (TwoNode h a b)
  two_made i h a b w f = go (g.numbered i w)
    where
      go : IsNumbered pool ns numbers i → IsOfParts i (TwoNode h a b)
      go (ByParts n e made real) = subst (IsOfParts i) (one_node ns i n (TwoNode h a b) e f) (record { made = made; real = real })
      go (Bound c n e param made) = absurd (not_one_two ns i Not c h a b e f)
      go (Parameter n e) = absurd (not_leaf_two ns i (TypeParam n) h a b e f)

  three_made : (i : ℕ) (h : Three) (a b c : ℕ) → i < length ns → slice_get ns i ≡ Some (ThreeNode h a b c) → IsOfParts i (ThreeNode h a b c)
  three_made i h a b c w f = go (g.numbered i w)
    where
      go : IsNumbered pool ns numbers i → IsOfParts i (ThreeNode h a b c)
      go (ByParts n e made real) = subst (IsOfParts i) (one_node ns i n (ThreeNode h a b c) e f) (record { made = made; real = real })
      go (Bound d n e param made) = absurd (not_one_three ns i Not d h a b c e f)
      go (Parameter n e) = absurd (not_leaf_three ns i (TypeParam n) h a b c e f)

  -- a bound variable is the variable in the pool
  bound_number : (v i a : ℕ) → i < length ns → slice_get ns i ≡ Some (OneNode Not a) → slice_get ns a ≡ Some (LeafNode (TypeParam v)) → IsBoundNode i a v
  bound_number v i a w e p = go (only_made i Not a w e)
    where
      go : IsOfParts i (OneNode Not a) ⊎ ((n : ℕ) × IsBoundNode i a n) → IsBoundNode i a v
      go (inl o) = absurd (no_denied_parameter pool ns ls numbers g (number_at numbers i) (OneNode Not a) o.made o.real a v refl p)
      go (inr b) =
          let same : b.0 ≡ v = same_variable b.0 v (same_leaf (TypeParam b.0) (TypeParam v) (one_node ns a (LeafNode (TypeParam b.0)) (LeafNode (TypeParam v)) b.1.parameter p)) in
          subst (IsBoundNode i a) same b.1

  bound_free : (v i a n : ℕ) → IsBoundNode i a n → free_at v i ≡ true → HasBound ns v i
  bound_free v i a n b f =
      let same : v ≡ n = same_number v n (sym (ap (free_in_item v) b.made.item) ∙ f) in
      ItIs i a b.here (subst (λ k. slice_get ns a ≡ Some (LeafNode (TypeParam k))) (sym same) b.parameter)

  -- ---- a variable that is free in the item, and bound

  only_down : (v i : ℕ) (h : One) (a : ℕ) → i < length ns → slice_get ns i ≡ Some (OneNode h a) → (IsReal pool ns numbers a → free_at v a ≡ true → HasBound ns v a) → free_at v i ≡ true → HasBound ns v i
  only_down v i h a w e below f = go (only_made i h a w e)
    where
      part : IsOfParts i (OneNode h a) → (b : Bool) → free_at v a ≡ b → HasBound ns v i
      part o true q = InOnly i h a e (below (o.real a refl) q)
      part o false q = clash f (quiet_here v pool (number_at numbers i) (OneNode h (number_at numbers a)) o.made.parts o.made.item refl (λ p z. quiet p z))
        where
          quiet : (p : ℕ) → IsOneOf p (number_at numbers a ∷ []) → free_in_item v (item_at pool p) ≡ false
          quiet p (inl s) = ap (λ k. free_in_item v (item_at pool k)) s ∙ q
          quiet p (inr z) = absurd z

      go : IsOfParts i (OneNode h a) ⊎ ((n : ℕ) × IsBoundNode i a n) → HasBound ns v i
      go (inl o) = part o (free_at v a) refl
      go (inr b) = bound_free v i a b.0 b.1 f

  two_down : (v i : ℕ) (h : Two) (a b : ℕ) → i < length ns → slice_get ns i ≡ Some (TwoNode h a b) → (IsReal pool ns numbers a → free_at v a ≡ true → HasBound ns v a) → (IsReal pool ns numbers b → free_at v b ≡ true → HasBound ns v b) → free_at v i ≡ true → HasBound ns v i
  two_down v i h a b w e first second f = go (binds v h) refl (free_at v a) refl (free_at v b) refl
    where
      o : IsOfParts i (TwoNode h a b)
      o = two_made i h a b w e

      calm : ((p : ℕ) → IsOneOf p (if binds v h then [] else (number_at numbers a ∷ number_at numbers b ∷ [])) → free_in_item v (item_at pool p) ≡ false) → HasBound ns v i
      calm q = clash f (quiet_here v pool (number_at numbers i) (TwoNode h (number_at numbers a) (number_at numbers b)) o.made.parts o.made.item refl q)

      either : free_at v a ≡ false → free_at v b ≡ false → (p : ℕ) (c : Bool) → IsOneOf p (if c then [] else (number_at numbers a ∷ number_at numbers b ∷ [])) → free_in_item v (item_at pool p) ≡ false
      either x y p true z = absurd z
      either x y p false (inl s) = ap (λ k. free_in_item v (item_at pool k)) s ∙ x
      either x y p false (inr (inl s)) = ap (λ k. free_in_item v (item_at pool k)) s ∙ y
      either x y p false (inr (inr z)) = absurd z

      go : (c : Bool) → binds v h ≡ c → (d : Bool) → free_at v a ≡ d → (k : Bool) → free_at v b ≡ k → HasBound ns v i
      go false q true x k y = InFirst i h a b e q (first (o.real a (inl refl)) x)
      go false q false x true y = InSecond i h a b e q (second (o.real b (inr refl)) y)
      go false q false x false y = calm (λ p z. either x y p (binds v h) z)
      go true q d x k y = calm (λ p z. absurd (subst (λ c. IsOneOf p (if c then [] else (number_at numbers a ∷ number_at numbers b ∷ []))) q z))

  three_down : (v i : ℕ) (h : Three) (a b c : ℕ) → i < length ns → slice_get ns i ≡ Some (ThreeNode h a b c) → (IsReal pool ns numbers a → free_at v a ≡ true → HasBound ns v a) → (IsReal pool ns numbers b → free_at v b ≡ true → HasBound ns v b) → (IsReal pool ns numbers c → free_at v c ≡ true → HasBound ns v c) → free_at v i ≡ true → HasBound ns v i
  three_down v i h a b c w e first second third f = go (free_at v a) refl (free_at v b) refl (free_at v c) refl
    where
      o : IsOfParts i (ThreeNode h a b c)
      o = three_made i h a b c w e

      none : free_at v a ≡ false → free_at v b ≡ false → free_at v c ≡ false → (p : ℕ) → IsOneOf p (number_at numbers a ∷ number_at numbers b ∷ number_at numbers c ∷ []) → free_in_item v (item_at pool p) ≡ false
      none x y z p (inl s) = ap (λ k. free_in_item v (item_at pool k)) s ∙ x
      none x y z p (inr (inl s)) = ap (λ k. free_in_item v (item_at pool k)) s ∙ y
      none x y z p (inr (inr (inl s))) = ap (λ k. free_in_item v (item_at pool k)) s ∙ z
      none x y z p (inr (inr (inr n))) = absurd n

      go : (d : Bool) → free_at v a ≡ d → (k : Bool) → free_at v b ≡ k → (m : Bool) → free_at v c ≡ m → HasBound ns v i
      go true x k y m z = InFront i h a b c e (first (o.real a (inl refl)) x)
      go false x true y m z = InMiddle i h a b c e (second (o.real b (inr (inl refl))) y)
      go false x false y true z = InLast i h a b c e (third (o.real c (inr (inr refl))) z)
      go false x false y false z = clash f (quiet_here v pool (number_at numbers i) (ThreeNode h (number_at numbers a) (number_at numbers b) (number_at numbers c)) o.made.parts o.made.item refl (none x y z))

  pub bound_of_free : (v : ℕ) (bound : List ℕ) (i : ℕ) → FitsUnder ns bound i → among v bound ≡ true → i < length ns → IsReal pool ns numbers i → free_at v i ≡ true → HasBound ns v i
  bound_of_free v _ _ (BoundFits bound i a n e p) m w r f = bound_free v i a n (bound_number n i a w e p) f
  bound_of_free v _ _ (LeafFits bound i h e p) m w r f =
      let s : (k : ℕ) × (h ≡ Var k) × (v ≡ k) = leaf_free v h (sym (ap (free_in_item v) (leaf_made i h w r e).item) ∙ f) in
      clash m (ap (λ k. among k bound) s.2 ∙ p s.0 s.1)
  bound_of_free v _ _ (OneFits bound i h a e p) m w r f = only_down v i h a w e (λ s q. bound_of_free v bound a p m (g.parts i (OneNode h a) e) s q) f
  bound_of_free v _ _ (TwoFits bound i h a b e p q) m w r f =
      let within = g.parts i (TwoNode h a b) e in
      let more : among v (bound_in h bound) ≡ true = among_in v h bound m in
      two_down v i h a b w e (λ s x. bound_of_free v (bound_in h bound) a p more within.0 s x) (λ s x. bound_of_free v (bound_in h bound) b q more within.1 s x) f
  bound_of_free v _ _ (ThreeFits bound i h a b c e p q o) m w r f =
      let within = g.parts i (ThreeNode h a b c) e in
      three_down v i h a b c w e (λ s x. bound_of_free v bound a p m within.0 s x) (λ s x. bound_of_free v bound b q m within.1 s x) (λ s x. bound_of_free v bound c o m within.2 s x) f

  -- ---- a bound variable is free in the item

  only_up : (v i : ℕ) (h : One) (a : ℕ) → i < length ns → slice_get ns i ≡ Some (OneNode h a) → HasBound ns v a → free_at v a ≡ true → free_at v i ≡ true
  only_up v i h a w e has f = go (only_made i h a w e)
    where
      go : IsOfParts i (OneNode h a) ⊎ ((n : ℕ) × IsBoundNode i a n) → free_at v i ≡ true
      go (inl o) = free_up v pool (number_at numbers i) (OneNode h (number_at numbers a)) o.made.parts o.made.item (number_at numbers a) (inl refl) f
      go (inr b) = absurd (leaf_closed ns v a (TypeParam b.0) b.1.parameter has)

  two_up : (v i : ℕ) (h : Two) (a b p : ℕ) → i < length ns → slice_get ns i ≡ Some (TwoNode h a b) → binds v h ≡ false → IsOneOf p (number_at numbers a ∷ number_at numbers b ∷ []) → free_in_item v (item_at pool p) ≡ true → free_at v i ≡ true
  two_up v i h a b p w e q one f =
      let o : IsOfParts i (TwoNode h a b) = two_made i h a b w e in
      free_up v pool (number_at numbers i) (TwoNode h (number_at numbers a) (number_at numbers b)) o.made.parts o.made.item p (subst (λ c. IsOneOf p (if c then [] else (number_at numbers a ∷ number_at numbers b ∷ []))) (sym q) one) f

  three_up : (v i : ℕ) (h : Three) (a b c p : ℕ) → i < length ns → slice_get ns i ≡ Some (ThreeNode h a b c) → IsOneOf p (number_at numbers a ∷ number_at numbers b ∷ number_at numbers c ∷ []) → free_in_item v (item_at pool p) ≡ true → free_at v i ≡ true
  three_up v i h a b c p w e one f =
      let o : IsOfParts i (ThreeNode h a b c) = three_made i h a b c w e in
      free_up v pool (number_at numbers i) (ThreeNode h (number_at numbers a) (number_at numbers b) (number_at numbers c)) o.made.parts o.made.item p one f

  pub free_of_bound : (v i : ℕ) → HasBound ns v i → i < length ns → free_at v i ≡ true
  free_of_bound v _ (ItIs i a e p) w = ap (free_in_item v) (bound_number v i a w e p).made.item ∙ itself v
  free_of_bound v _ (InOnly i h a e b) w = only_up v i h a w e b (free_of_bound v a b (g.parts i (OneNode h a) e))
  free_of_bound v _ (InFirst i h a c e q b) w = two_up v i h a c (number_at numbers a) w e q (inl refl) (free_of_bound v a b (g.parts i (TwoNode h a c) e).0)
  free_of_bound v _ (InSecond i h a c e q b) w = two_up v i h a c (number_at numbers c) w e q (inr (inl refl)) (free_of_bound v c b (g.parts i (TwoNode h a c) e).1)
  free_of_bound v _ (InFront i h a c d e b) w = three_up v i h a c d (number_at numbers a) w e (inl refl) (free_of_bound v a b (g.parts i (ThreeNode h a c d) e).0)
  free_of_bound v _ (InMiddle i h a c d e b) w = three_up v i h a c d (number_at numbers c) w e (inr (inl refl)) (free_of_bound v c b (g.parts i (ThreeNode h a c d) e).1)
  free_of_bound v _ (InLast i h a c d e b) w = three_up v i h a c d (number_at numbers d) w e (inr (inr (inl refl))) (free_of_bound v d b (g.parts i (ThreeNode h a c d) e).2)

  -- ---- connected nodes have the same bound variables

  -- each bound variable of the one is one of the other
  abbrev Moves : ℕ → ℕ → Type 0
  Moves i j = (v : ℕ) → HasBound ns v i → HasBound ns v j

  abbrev AreSame : ℕ → ℕ → Type 0
  AreSame i j = Moves i j × Moves j i

  module _ (k : ℕ) (parts : (a x : ℕ) → Linked (take k ls) a x → AreSame a x) where
    moved_one : (v j : ℕ) (h : One) (a : ℕ) (other : Node) → AreAlike (Linked (take k ls)) (OneNode h a) other → slice_get ns j ≡ Some other → HasBound ns v a → HasBound ns v j
    moved_one v j h a (OneNode o x) r f b = InOnly j o x f ((parts a x r.1).0 v b)
    moved_one v j h a (LeafNode o) r f b = absurd r
    moved_one v j h a (TwoNode o x y) r f b = absurd r
    moved_one v j h a (ThreeNode o x y z) r f b = absurd r

    moved_bound : (v j a : ℕ) (other : Node) → AreAlike (Linked (take k ls)) (OneNode Not a) other → slice_get ns j ≡ Some other → slice_get ns a ≡ Some (LeafNode (TypeParam v)) → HasBound ns v j
    moved_bound v j a (OneNode o x) r f p = ItIs j x (f ∙ ap (λ h. Some (OneNode h x)) (sym r.0)) ((parameter_linked pool ns ls numbers g k v a x r.1).0 p)
    moved_bound v j a (LeafNode o) r f p = absurd r
    moved_bound v j a (TwoNode o x y) r f p = absurd r
    moved_bound v j a (ThreeNode o x y z) r f p = absurd r

    moved_two : (v j : ℕ) (h : Two) (a c : ℕ) (other : Node) → AreAlike (Linked (take k ls)) (TwoNode h a c) other → slice_get ns j ≡ Some other → binds v h ≡ false → HasBound ns v a ⊎ HasBound ns v c → HasBound ns v j
    moved_two v j h a c (TwoNode o x y) r f q (inl b) = InFirst j o x y f (ap (binds v) (sym r.0) ∙ q) ((parts a x r.1).0 v b)
    moved_two v j h a c (TwoNode o x y) r f q (inr b) = InSecond j o x y f (ap (binds v) (sym r.0) ∙ q) ((parts c y r.2).0 v b)
    moved_two v j h a c (LeafNode o) r f q b = absurd r
    moved_two v j h a c (OneNode o x) r f q b = absurd r
    moved_two v j h a c (ThreeNode o x y z) r f q b = absurd r

    moved_three : (v j : ℕ) (h : Three) (a c d : ℕ) (other : Node) → AreAlike (Linked (take k ls)) (ThreeNode h a c d) other → slice_get ns j ≡ Some other → HasBound ns v a ⊎ HasBound ns v c ⊎ HasBound ns v d → HasBound ns v j
    moved_three v j h a c d (ThreeNode o x y z) r f (inl b) = InFront j o x y z f ((parts a x r.1).0 v b)
    moved_three v j h a c d (ThreeNode o x y z) r f (inr (inl b)) = InMiddle j o x y z f ((parts c y r.2).0 v b)
    moved_three v j h a c d (ThreeNode o x y z) r f (inr (inr b)) = InLast j o x y z f ((parts d z r.3).0 v b)
    moved_three v j h a c d (LeafNode o) r f b = absurd r
    moved_three v j h a c d (OneNode o x) r f b = absurd r
    moved_three v j h a c d (TwoNode o x y) r f b = absurd r

    as_found : (i : ℕ) (one other n : Node) → slice_get ns i ≡ Some one → slice_get ns i ≡ Some n → AreAlike (Linked (take k ls)) one other → AreAlike (Linked (take k ls)) n other
    as_found i one other n e f r = subst (λ m. AreAlike (Linked (take k ls)) m other) (one_node ns i one n e f) r

    moved_alike : (i j : ℕ) (one other : Node) → slice_get ns i ≡ Some one → slice_get ns j ≡ Some other → AreAlike (Linked (take k ls)) one other → Moves i j
    moved_alike _ j one other d f r v (ItIs i a e p) = moved_bound v j a other (as_found i one other (OneNode Not a) d e r) f p
    moved_alike _ j one other d f r v (InOnly i h a e b) = moved_one v j h a other (as_found i one other (OneNode h a) d e r) f b
    moved_alike _ j one other d f r v (InFirst i h a c e q b) = moved_two v j h a c other (as_found i one other (TwoNode h a c) d e r) f q (inl b)
    moved_alike _ j one other d f r v (InSecond i h a c e q b) = moved_two v j h a c other (as_found i one other (TwoNode h a c) d e r) f q (inr b)
    moved_alike _ j one other d f r v (InFront i h a c x e b) = moved_three v j h a c x other (as_found i one other (ThreeNode h a c x) d e r) f (inl b)
    moved_alike _ j one other d f r v (InMiddle i h a c x e b) = moved_three v j h a c x other (as_found i one other (ThreeNode h a c x) d e r) f (inr (inl b))
    moved_alike _ j one other d f r v (InLast i h a c x e b) = moved_three v j h a c x other (as_found i one other (ThreeNode h a c x) d e r) f (inr (inr b))

    reason_same : (i j : ℕ) (why : Why) → IsReason ns g.equations (Linked (take k ls)) i j why → AreSame i j
    reason_same i j (Given q) r = (
      λ v b. absurd ((g.left_closed q r.equation r.found).none v (subst (HasBound ns v) (sym r.left) b)),
      λ v b. absurd ((g.right_closed q r.equation r.found).none v (subst (HasBound ns v) (sym r.right) b)),
    )
    reason_same i j Alike r = (
      moved_alike i j r.one r.other r.is_one r.is_other r.alike,
      moved_alike j i r.other r.one r.is_other r.is_one (alike_turned (Linked (take k ls)) (λ a b l. Turned a b l) r.one r.other r.alike),
    )

  same_by : (k : ℕ) → ((m : ℕ) → m < k → (a x : ℕ) → Linked (take m ls) a x → AreSame a x) → (i j : ℕ) → Linked (take k ls) i j → AreSame i j
  same_by k below _ _ (ByLink m l e) = reason_same m (below m (taken_below ls k m l e)) l.left l.right l.why (g.shown.each m l (from_taken ls k m l e))
  same_by k below _ _ (Itself i) = (λ v b. b, λ v b. b)
  same_by k below _ _ (Turned i j l) = let h = same_by k below i j l in (h.1, h.0)
  same_by k below _ _ (Chained i j m l r) =
      let h = same_by k below i j l in
      let f = same_by k below j m r in
      (λ v b. f.0 v (h.0 v b), λ v b. h.1 v (f.1 v b))

  same_up_to : (count k : ℕ) → k ≤ count → (i j : ℕ) → Linked (take k ls) i j → AreSame i j
  same_up_to zero k w = same_by k (λ m h. absurd (omega (arith, w, h)))
  same_up_to (suc count) k w = same_by k (λ m h. same_up_to count m (omega (arith, w, h)))

  pub bound_linked : (k v i j : ℕ) → Linked (take k ls) i j → (HasBound ns v i → HasBound ns v j) × (HasBound ns v j → HasBound ns v i)
  bound_linked k v i j l = let h : AreSame i j = same_up_to k k (omega arith) i j l in (h.0 v, h.1 v)

  -- ---- connected nodes with bound variables are equal or congruent

  open_step : (k m v i j : ℕ) → m ≤ k → (why : Why) → IsReason ns g.equations (Linked (take m ls)) i j why → HasBound ns v i → IsOneOrAlike ns ls k i j
  open_step k m v i j low (Given q) r b = absurd ((g.left_closed q r.equation r.found).none v (subst (HasBound ns v) (sym r.left) b))
  open_step k m v i j low Alike r b = inr (record { one = r.one; other = r.other; is_one = r.is_one; is_other = r.is_other; alike = alike_more (Linked (take m ls)) (Linked (take k ls)) (λ a c l. linked_later ls m k a c low l) r.one r.other r.alike })

  pub open_linked : (k v i j : ℕ) → Linked (take k ls) i j → HasBound ns v i → IsOneOrAlike ns ls k i j
  open_linked k v _ _ (ByLink m l e) b = open_step k m v l.left l.right (let h : m < k = taken_below ls k m l e in omega arith) l.why (g.shown.each m l (from_taken ls k m l e)) b
  open_linked k v _ _ (Itself i) b = inl refl
  open_linked k v _ _ (Turned i j l) b = linked_turned pool ns ls numbers g k i j (open_linked k v i j l ((bound_linked k v i j l).1 b))
  open_linked k v _ _ (Chained i j m l r) b = linked_then pool ns ls numbers g k i j m (open_linked k v i j l b) (open_linked k v j m r ((bound_linked k v i j l).0 b))
