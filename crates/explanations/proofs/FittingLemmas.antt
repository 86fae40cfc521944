-- Nodes that represent trees of items: each occurrence that a quantifier binds is a bound variable node, and none is
-- free in a term of an entry.
use Rattle.std.proofs.Common.{◌≡◌, ℕ, true, false, not, List, [], Some, refl, sym, ap, ◌∙◌, subst}
use Rattle.std.specs.Prelude.{slice_get, ◌&&◌, ◌||◌}
use Rattle.std.proofs.lemmas.Bool.{or_left, or_right}
use Rattle.fol.specs.FormulaData.{TermData}
use Rattle.term_pool.specs.Items.{TermItem}
use Rattle.term_pool.specs.declared.node.Leaf.{Leaf}
use Rattle.term_pool.specs.declared.node.Leaf.TheVariants.{Var, TypeParam}
use Rattle.term_pool.specs.declared.node.One.{One}
use Rattle.term_pool.specs.declared.node.One.TheVariants.{Not}
use Rattle.term_pool.specs.declared.node.Two.{Two}
use Rattle.term_pool.specs.declared.node.Two.TheVariants.{Quantify}
use Rattle.term_pool.specs.declared.node.Three.{Three}
use Rattle.term_pool.specs.declared.node.Node.{Node}
use Rattle.term_pool.specs.declared.node.Node.TheVariants.{Leaf as LeafNode, One as OneNode, Two as TwoNode, Three as ThreeNode}
use Rattle.term_pool.specs.Free.{binds}
use Rattle.congruence_closure.specs.Trees.{plain_term, plain_item, Tree, BoundTree, LeafTree, OneTree, TwoTree, ThreeTree, among, under, tree_of}
use Rattle.congruence_closure.specs.Nodes.{one_tree, IsTree, OfLeaf, OfOne, OfTwo, OfThree, IsNode, IsSomeNode}
use Rattle.congruence_closure.proofs.TreeLemmas.{has_bound, bound_renamed, FitsLeaf, Fits, fits_renamed, none_among, clash, itself}
use Rattle.congruence_closure.proofs.TreeLemmas.{binds as binds_there}
use Rattle.explanations.specs.Frames.{bound_in}
use Rattle.explanations.specs.BoundNodes.{HasBound, ItIs, InOnly, InFirst, InSecond, InFront, InMiddle, InLast, IsClosed, FitsUnder, BoundFits, LeafFits, OneFits, TwoFits, ThreeFits}
use Rattle.explanations.proofs.BoundLemmas.{one_head, two_head, three_head, one_node, not_leaf_one, not_one_two, not_one_three, not_two_three, leaf_closed}

same_bound : (h : Two) (bound : List ℕ) → bound_in h bound ≡ under h bound
same_bound (Quantify o k) bound = refl
same_bound h bound = refl

same_binds : (n : ℕ) (h : Two) → binds n h ≡ binds_there n h
same_binds n (Quantify o k) = refl
same_binds n h = refl

-- ---- a tree that is a leaf

no_leaf_tree : (k : One) (x : Tree) (h : Leaf) → one_tree k x ≡ LeafTree h → ⊥
no_leaf_tree Not (LeafTree (TypeParam n)) h e = absurd (cc)
no_leaf_tree Not (LeafTree k) h e = absurd (cc)
no_leaf_tree Not (BoundTree n) h e = absurd (cc)
no_leaf_tree Not (OneTree k x) h e = absurd (cc)
no_leaf_tree Not (TwoTree k x y) h e = absurd (cc)
no_leaf_tree Not (ThreeTree k x y z) h e = absurd (cc)
no_leaf_tree k x h e = absurd (cc)

leaf_fits : (bound : List ℕ) (h : Leaf) → FitsLeaf bound h → (k : ℕ) → h ≡ Var k → among k bound ≡ false
leaf_fits bound (Var n) f k e = let same : n ≡ k = cc in subst (λ m. among m bound ≡ false) same f
leaf_fits bound _ f k e = absurd (cc)

module _ (ns : List Node) where
  leaf_node : (a : ℕ) (x : Tree) → IsTree ns a x → (h : Leaf) → x ≡ LeafTree h → slice_get ns a ≡ Some (LeafNode h)
  leaf_node _ _ (OfLeaf i k e) h q = let same : k ≡ h = cc in e ∙ ap (λ m. Some (LeafNode m)) same
  leaf_node _ _ (OfOne i k a x e t) h q = absurd (no_leaf_tree k x h q)
  leaf_node _ _ (OfTwo i k a b x y e t u) h q = absurd (cc)
  leaf_node _ _ (OfThree i k a b c x y z e t u v) h q = absurd (cc)

  leaf_tree_of : (a : ℕ) (x : Tree) → IsTree ns a x → (h : Leaf) → slice_get ns a ≡ Some (LeafNode h) → x ≡ LeafTree h
  leaf_tree_of _ _ (OfLeaf i k e) h f = let both : LeafNode k ≡ LeafNode h = one_node ns i (LeafNode k) (LeafNode h) e f in let same : k ≡ h = cc in ap LeafTree same
  leaf_tree_of _ _ (OfOne i k a x e t) h f = absurd (not_leaf_one ns i h k a f e)
  leaf_tree_of _ _ (OfTwo i k a b x y e t u) h f = absurd (let both : LeafNode h ≡ TwoNode k a b = one_node ns i (LeafNode h) (TwoNode k a b) f e in (cc))
  leaf_tree_of _ _ (OfThree i k a b c x y z e t u v) h f = absurd (let both : LeafNode h ≡ ThreeNode k a b c = one_node ns i (LeafNode h) (ThreeNode k a b c) f e in (cc))

  -- ---- occurrences of bound variables

  one_fits : (bound : List ℕ) (i : ℕ) (h : One) (a : ℕ) (x : Tree) → slice_get ns i ≡ Some (OneNode h a) → IsTree ns a x → (Fits bound x → FitsUnder ns bound a) → Fits bound (one_tree h x) → FitsUnder ns bound i
  one_fits bound i Not a (LeafTree (TypeParam n)) e t below f = BoundFits bound i a n e (leaf_node a (LeafTree (TypeParam n)) t (TypeParam n) refl)
  one_fits bound i Not a (LeafTree h) e t below f = OneFits bound i Not a e (below f)
  one_fits bound i Not a (BoundTree n) e t below f = OneFits bound i Not a e (below f)
  one_fits bound i Not a (OneTree k x) e t below f = OneFits bound i Not a e (below f)
  one_fits bound i Not a (TwoTree k x y) e t below f = OneFits bound i Not a e (below f)
  one_fits bound i Not a (ThreeTree k x y z) e t below f = OneFits bound i Not a e (below f)
  one_fits bound i h a x e t below f = OneFits bound i h a e (below f)

  fits_tree : (bound : List ℕ) (i : ℕ) (x : Tree) → IsTree ns i x → Fits bound x → FitsUnder ns bound i
  fits_tree bound _ _ (OfLeaf i h e) f = LeafFits bound i h e (leaf_fits bound h f)
  fits_tree bound _ _ (OfOne i h a x e t) f = one_fits bound i h a x e t (fits_tree bound a x t) f
  fits_tree bound _ _ (OfTwo i h a b x y e t u) f =
      TwoFits bound i h a b e (fits_tree (bound_in h bound) a x t (subst (λ bs. Fits bs x) (sym (same_bound h bound)) f.0)) (fits_tree (bound_in h bound) b y u (subst (λ bs. Fits bs y) (sym (same_bound h bound)) f.1))
  fits_tree bound _ _ (OfThree i h a b c x y z e t u v) f = ThreeFits bound i h a b c e (fits_tree bound a x t f.0) (fits_tree bound b y u f.1) (fits_tree bound c z v f.2)

  pub some_fits : (i : ℕ) → IsSomeNode ns i → FitsUnder ns [] i
  some_fits i s = fits_tree [] i (tree_of s.bound s.item) s.is.is (fits_renamed [] s.bound (plain_item s.item) (none_among s.bound))

  -- ---- bound variables of trees

  one_has : (n : ℕ) (h : One) (x : Tree) → has_bound n x ≡ true → has_bound n (one_tree h x) ≡ true
  one_has n Not (LeafTree h) e = absurd (cc)
  one_has n Not (BoundTree k) e = e
  one_has n Not (OneTree k x) e = e
  one_has n Not (TwoTree k x y) e = e
  one_has n Not (ThreeTree k x y z) e = e
  one_has n h x e = e

  two_has : (n : ℕ) (h : Two) (x y : Tree) → binds n h ≡ false → (has_bound n x || has_bound n y) ≡ true → has_bound n (TwoTree h x y) ≡ true
  two_has n h x y q e = ap (λ c. not c && (has_bound n x || has_bound n y)) (sym (same_binds n h) ∙ q) ∙ e

  one_tree_has : (n i : ℕ) (h : One) (a : ℕ) (x : Tree) → slice_get ns i ≡ Some (OneNode h a) → IsTree ns a x → (HasBound ns n a → has_bound n x ≡ true) → HasBound ns n i → has_bound n (one_tree h x) ≡ true
  one_tree_has n _ h a x e t below (ItIs i c f p) =
      let same : (Not ≡ h) × (c ≡ a) = one_head Not h c a (one_node ns i (OneNode Not c) (OneNode h a) f e) in
      let leaf : x ≡ LeafTree (TypeParam n) = leaf_tree_of a x t (TypeParam n) (subst (λ k. slice_get ns k ≡ Some (LeafNode (TypeParam n))) same.1 p) in
      ap (λ y. has_bound n (one_tree h y)) leaf ∙ ap (λ k. has_bound n (one_tree k (LeafTree (TypeParam n)))) (sym same.0) ∙ itself n
  one_tree_has n _ h a x e t below (InOnly i k c f b) = one_has n h x (below (subst (HasBound ns n) (one_head k h c a (one_node ns i (OneNode k c) (OneNode h a) f e)).1 b))
  one_tree_has n _ h a x e t below (InFirst i k c d f q b) = absurd (not_one_two ns i h a k c d e f)
  one_tree_has n _ h a x e t below (InSecond i k c d f q b) = absurd (not_one_two ns i h a k c d e f)
  one_tree_has n _ h a x e t below (InFront i k c d m f b) = absurd (not_one_three ns i h a k c d m e f)
  one_tree_has n _ h a x e t below (InMiddle i k c d m f b) = absurd (not_one_three ns i h a k c d m e f)
  one_tree_has n _ h a x e t below (InLast i k c d m f b) = absurd (not_one_three ns i h a k c d m e f)

  two_tree_has : (n i : ℕ) (h : Two) (a b : ℕ) (x y : Tree) → slice_get ns i ≡ Some (TwoNode h a b) → (HasBound ns n a → has_bound n x ≡ true) → (HasBound ns n b → has_bound n y ≡ true) → HasBound ns n i → has_bound n (TwoTree h x y) ≡ true
  two_tree_has n _ h a b x y e first second (InFirst i k c d f q p) =
      let same : (k ≡ h) × (c ≡ a) × (d ≡ b) = two_head k h c d a b (one_node ns i (TwoNode k c d) (TwoNode h a b) f e) in
      two_has n h x y (ap (binds n) (sym same.0) ∙ q) (or_left (has_bound n x) (has_bound n y) (first (subst (HasBound ns n) same.1 p)))
  two_tree_has n _ h a b x y e first second (InSecond i k c d f q p) =
      let same : (k ≡ h) × (c ≡ a) × (d ≡ b) = two_head k h c d a b (one_node ns i (TwoNode k c d) (TwoNode h a b) f e) in
      two_has n h x y (ap (binds n) (sym same.0) ∙ q) (or_right (has_bound n x) (has_bound n y) (second (subst (HasBound ns n) same.2 p)))
  two_tree_has n _ h a b x y e first second (ItIs i c f p) = absurd (not_one_two ns i Not c h a b f e)
  two_tree_has n _ h a b x y e first second (InOnly i k c f p) = absurd (not_one_two ns i k c h a b f e)
  two_tree_has n _ h a b x y e first second (InFront i k c d m f p) = absurd (not_two_three ns i h a b k c d m e f)
  two_tree_has n _ h a b x y e first second (InMiddle i k c d m f p) = absurd (not_two_three ns i h a b k c d m e f)
  two_tree_has n _ h a b x y e first second (InLast i k c d m f p) = absurd (not_two_three ns i h a b k c d m e f)

  three_tree_has : (n i : ℕ) (h : Three) (a b c : ℕ) (x y z : Tree) → slice_get ns i ≡ Some (ThreeNode h a b c) → (HasBound ns n a → has_bound n x ≡ true) → (HasBound ns n b → has_bound n y ≡ true) → (HasBound ns n c → has_bound n z ≡ true) → HasBound ns n i → has_bound n (ThreeTree h x y z) ≡ true
  three_tree_has n _ h a b c x y z e first second third (InFront i k d m o f p) =
      let same : (k ≡ h) × (d ≡ a) × (m ≡ b) × (o ≡ c) = three_head k h d m o a b c (one_node ns i (ThreeNode k d m o) (ThreeNode h a b c) f e) in
      or_left (has_bound n x) (has_bound n y || has_bound n z) (first (subst (HasBound ns n) same.1 p))
  three_tree_has n _ h a b c x y z e first second third (InMiddle i k d m o f p) =
      let same : (k ≡ h) × (d ≡ a) × (m ≡ b) × (o ≡ c) = three_head k h d m o a b c (one_node ns i (ThreeNode k d m o) (ThreeNode h a b c) f e) in
      or_right (has_bound n x) (has_bound n y || has_bound n z) (or_left (has_bound n y) (has_bound n z) (second (subst (HasBound ns n) same.2 p)))
  three_tree_has n _ h a b c x y z e first second third (InLast i k d m o f p) =
      let same : (k ≡ h) × (d ≡ a) × (m ≡ b) × (o ≡ c) = three_head k h d m o a b c (one_node ns i (ThreeNode k d m o) (ThreeNode h a b c) f e) in
      or_right (has_bound n x) (has_bound n y || has_bound n z) (or_right (has_bound n y) (has_bound n z) (third (subst (HasBound ns n) same.3 p)))
  three_tree_has n _ h a b c x y z e first second third (ItIs i d f p) = absurd (not_one_three ns i Not d h a b c f e)
  three_tree_has n _ h a b c x y z e first second third (InOnly i k d f p) = absurd (not_one_three ns i k d h a b c f e)
  three_tree_has n _ h a b c x y z e first second third (InFirst i k d m f q p) = absurd (not_two_three ns i k d m h a b c f e)
  three_tree_has n _ h a b c x y z e first second third (InSecond i k d m f q p) = absurd (not_two_three ns i k d m h a b c f e)

  has_tree : (n i : ℕ) (x : Tree) → IsTree ns i x → HasBound ns n i → has_bound n x ≡ true
  has_tree n _ _ (OfLeaf i h e) p = absurd (leaf_closed ns n i h e p)
  has_tree n _ _ (OfOne i h a x e t) p = one_tree_has n i h a x e t (has_tree n a x t) p
  has_tree n _ _ (OfTwo i h a b x y e t u) p = two_tree_has n i h a b x y e (has_tree n a x t) (has_tree n b y u) p
  has_tree n _ _ (OfThree i h a b c x y z e t u v) p = three_tree_has n i h a b c x y z e (has_tree n a x t) (has_tree n b y u) (has_tree n c z v) p

  -- no bound variable is free in a term outside quantifiers
  pub term_closed : (i : ℕ) (t : TermData) → IsNode ns i [] (TermItem t) → IsClosed ns i
  term_closed i t is = record { none = λ n p. clash (has_tree n i (tree_of [] (TermItem t)) is.is p) (bound_renamed n [] (plain_term t)) }
