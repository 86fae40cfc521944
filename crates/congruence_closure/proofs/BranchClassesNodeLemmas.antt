-- The tree of a node is determined by the nodes, and congruent nodes represent trees that are alike.
use Rattle.std.proofs.Common.{◌≡◌, ℕ, ◌<◌, List, [], length, Some, refl, sym, ap, ◌∙◌, subst}
use Rattle.std.specs.Prelude.{slice_get}
use Rattle.fol.specs.FormulaData.{TermData, VarTerm, ConstantTerm, UnaryTerm, BinaryTerm, TernaryTerm, PackTerm, FieldTerm, SetFieldTerm, IfTerm}
use Rattle.term_pool.specs.declared.node.One.{One}
use Rattle.term_pool.specs.declared.node.One.TheVariants.{Not}
use Rattle.term_pool.specs.declared.node.Two.{Two}
use Rattle.term_pool.specs.declared.node.Three.{Three}
use Rattle.term_pool.specs.declared.node.Node.{Node}
use Rattle.term_pool.specs.declared.node.Node.TheVariants.{Leaf as LeafNode, One as OneNode, Two as TwoNode, Three as ThreeNode}
use Rattle.term_pool.specs.Items.{TermItem}
use Rattle.congruence_closure.specs.Trees.{plain_item, Tree, BoundTree, LeafTree, OneTree, TwoTree, ThreeTree, tree_of}
use Rattle.congruence_closure.specs.Nodes.{denied_leaf, denied, one_tree, IsTree, OfLeaf, OfOne, OfTwo, OfThree, IsSomeNode, AreNodes, IsSaid, AreEquations}
use Rattle.congruence_closure.specs.Congruence.{AreTerms, Congruent, ByEquation, ByLeaf, ByPart, ByTwo, ByThree}
use Rattle.congruence_closure.specs.Congruence.{Itself as SameNumber, Turned as TurnedNumbers, Chained as ChainedNumbers}
use Rattle.congruence_closure.specs.declared.classes.link.Equation.{Equation}
use Rattle.std.proofs.lemmas.Option.{slice_get_within}
use Rattle.certificates.specs.BranchesBranch.{Branch, Says}
use Rattle.certificates.specs.Joined.{ByEntry}
use Rattle.congruence_closure.proofs.ReadLemmas.{sorted_item}
use Rattle.congruence_closure.proofs.TreeLemmas.{fits_renamed, none_among}
use Rattle.congruence_closure.proofs.AlikeLemmas.{Alike, OneClass, SameBound, SameLeaf, SameOne, SameTwo, SameThree, alike_itself, alike_turned, alike_then, IsProper}

same : {X : Type 0} {x y : X} → Some x ≡ Some y → x ≡ y
same e = cc

-- ---- one tree for each node

module _ (ns : List Node) where
  record IsOneOf (h : One) (a : ℕ) (x : Tree) : Type 0 where
    part : Tree
    is_part : IsTree ns a part
    is : x ≡ one_tree h part

  record IsTwoOf (h : Two) (a b : ℕ) (x : Tree) : Type 0 where
    first : Tree
    second : Tree
    is_first : IsTree ns a first
    is_second : IsTree ns b second
    is : x ≡ TwoTree h first second

  record IsThreeOf (h : Three) (a b c : ℕ) (x : Tree) : Type 0 where
    first : Tree
    second : Tree
    third : Tree
    is_first : IsTree ns a first
    is_second : IsTree ns b second
    is_third : IsTree ns c third
    is : x ≡ ThreeTree h first second third

  abbrev IsTreeOf : Node → Tree → Type 0
  IsTreeOf (LeafNode h) x = x ≡ LeafTree h
  IsTreeOf (OneNode h a) x = IsOneOf h a x
  IsTreeOf (TwoNode h a b) x = IsTwoOf h a b x
  IsTreeOf (ThreeNode h a b c) x = IsThreeOf h a b c x

  of_node : (i : ℕ) (x : Tree) → IsTree ns i x → (n : Node) → slice_get ns i ≡ Some n → IsTreeOf n x
  of_node _ _ (OfLeaf i h e) n f = subst (λ m. IsTreeOf m (LeafTree h)) (same (sym e ∙ f)) refl
  of_node _ _ (OfOne i h a x e u) n f = subst (λ m. IsTreeOf m (one_tree h x)) (same (sym e ∙ f)) (record { part = x; is_part = u; is = refl })
  of_node _ _ (OfTwo i h a b x y e u v) n f = subst (λ m. IsTreeOf m (TwoTree h x y)) (same (sym e ∙ f)) (record { first = x; second = y; is_first = u; is_second = v; is = refl })
  of_node _ _ (OfThree i h a b c x y z e u v w) n f =
      subst (λ m. IsTreeOf m (ThreeTree h x y z)) (same (sym e ∙ f)) (record { first = x; second = y; third = z; is_first = u; is_second = v; is_third = w; is = refl })

  pub one_tree_each : (i : ℕ) (x y : Tree) → IsTree ns i x → IsTree ns i y → x ≡ y
  one_tree_each _ _ y (OfLeaf i h e) u = sym (of_node i y u (LeafNode h) e)
  one_tree_each _ _ y (OfOne i h a x e v) u =
      let w : IsOneOf h a y = of_node i y u (OneNode h a) e in
      ap (one_tree h) (one_tree_each a x w.part v w.is_part) ∙ sym w.is
  one_tree_each _ _ z (OfTwo i h a b x y e v w) u =
      let p : IsTwoOf h a b z = of_node i z u (TwoNode h a b) e in
      (λ k. TwoTree h (one_tree_each a x p.first v p.is_first k) (one_tree_each b y p.second w p.is_second k)) ∙ sym p.is
  one_tree_each _ _ m (OfThree i h a b c x y z e u v w) t =
      let p : IsThreeOf h a b c m = of_node i m t (ThreeNode h a b c) e in
      (λ k. ThreeTree h (one_tree_each a x p.first u p.is_first k) (one_tree_each b y p.second v p.is_second k) (one_tree_each c z p.third w p.is_third k)) ∙ sym p.is

  pub tree_within : (i : ℕ) (x : Tree) → IsTree ns i x → i < length ns
  tree_within _ _ (OfLeaf i h e) = slice_get_within ns i (LeafNode h) e
  tree_within _ _ (OfOne i h a x e u) = slice_get_within ns i (OneNode h a) e
  tree_within _ _ (OfTwo i h a b x y e u v) = slice_get_within ns i (TwoNode h a b) e
  tree_within _ _ (OfThree i h a b c x y z e u v w) = slice_get_within ns i (ThreeNode h a b c) e

-- ---- negations

denied_closed : (t : TermData) → denied (tree_of [] (TermItem t)) ≡ OneTree Not (tree_of [] (TermItem t))
denied_closed (VarTerm n) = refl
denied_closed (ConstantTerm c) = refl
denied_closed (UnaryTerm o t) = refl
denied_closed (BinaryTerm o t u) = refl
denied_closed (TernaryTerm o t u v) = refl
denied_closed (PackTerm a ts) = refl
denied_closed (FieldTerm a k t) = refl
denied_closed (SetFieldTerm a k t u) = refl
denied_closed (IfTerm p t u) = refl

module _ (b : Branch) where
  alike_denied : (x y : Tree) → Alike b x y → Alike b (denied x) (denied y)
  alike_denied _ _ (OneClass t u x y j ex ey) =
      let dx : denied x ≡ OneTree Not x = ap denied ex ∙ denied_closed t ∙ ap (OneTree Not) (sym ex) in
      let dy : denied y ≡ OneTree Not y = ap denied ey ∙ denied_closed u ∙ ap (OneTree Not) (sym ey) in
      subst (λ v. Alike b v (denied y)) (sym dx) (subst (λ v. Alike b (OneTree Not x) v) (sym dy) (SameOne Not x y (OneClass t u x y j ex ey)))
  alike_denied _ _ (SameBound n) = alike_itself b (OneTree Not (BoundTree n))
  alike_denied _ _ (SameLeaf h) = alike_itself b (denied_leaf h)
  alike_denied _ _ (SameOne h x y a) = SameOne Not (OneTree h x) (OneTree h y) (SameOne h x y a)
  alike_denied _ _ (SameTwo h x y v w a c) = SameOne Not (TwoTree h x y) (TwoTree h v w) (SameTwo h x y v w a c)
  alike_denied _ _ (SameThree h x y z u v w a c d) = SameOne Not (ThreeTree h x y z) (ThreeTree h u v w) (SameThree h x y z u v w a c d)

  alike_one : (h : One) (x y : Tree) → Alike b x y → Alike b (one_tree h x) (one_tree h y)
  alike_one Not x y a = alike_denied x y a
  alike_one h x y a = SameOne h x y a

  -- ---- congruent nodes

  module _ (ns : List Node) (es : List Equation) (terms : AreTerms ns es) (nodes : AreNodes ns) (equations : AreEquations ns es (Says b)) where
    proper : (i : ℕ) (x : Tree) → IsTree ns i x → IsProper b x
    proper i x u =
        let some : IsSomeNode ns i = nodes.each i (tree_within ns i x u) in
        let e : x ≡ tree_of some.bound some.item = one_tree_each ns i x (tree_of some.bound some.item) u some.is.is in
        subst (IsProper b) (sym e) (record { sorted = sorted_item some.bound some.item; fits = fits_renamed [] some.bound (plain_item some.item) (none_among some.bound) })

    in_range : (i j : ℕ) → Congruent ns es i j → (i < length ns → j < length ns) × (j < length ns → i < length ns)
    in_range _ _ (ByEquation k e f) = (λ h. terms.right k e f, λ h. terms.left k e f)
    in_range _ _ (ByLeaf i j h e f) = (λ m. slice_get_within ns j (LeafNode h) f, λ m. slice_get_within ns i (LeafNode h) e)
    in_range _ _ (ByPart i j h a x e f p) = (λ m. slice_get_within ns j (OneNode h x) f, λ m. slice_get_within ns i (OneNode h a) e)
    in_range _ _ (ByTwo i j h a c x y e f p q) = (λ m. slice_get_within ns j (TwoNode h x y) f, λ m. slice_get_within ns i (TwoNode h a c) e)
    in_range _ _ (ByThree i j h a c d x y z e f p q r) = (λ m. slice_get_within ns j (ThreeNode h x y z) f, λ m. slice_get_within ns i (ThreeNode h a c d) e)
    in_range _ _ (SameNumber i) = (λ h. h, λ h. h)
    in_range _ _ (TurnedNumbers i j c) = let r = in_range i j c in (r.1, r.0)
    in_range _ _ (ChainedNumbers i j k c d) = let r = in_range i j c in let s = in_range j k d in (λ h. s.0 (r.0 h), λ h. r.1 (s.1 h))

    pub congruent_alike : (i j : ℕ) → Congruent ns es i j → (x y : Tree) → IsTree ns i x → IsTree ns j y → Alike b x y
    congruent_alike _ _ (ByEquation k e f) x y u v =
        let on : IsSaid ns (Says b) e = equations.given k e f in
        OneClass on.one on.other x y (ByEntry on.position on.one on.other on.says)
        (one_tree_each ns e.left x (tree_of [] (TermItem on.one)) u on.sides.left.is)
        (one_tree_each ns e.right y (tree_of [] (TermItem on.other)) v on.sides.right.is)
    congruent_alike _ _ (ByLeaf i j h e f) x y u v =
        let ex : x ≡ LeafTree h = of_node ns i x u (LeafNode h) e in
        let ey : y ≡ LeafTree h = of_node ns j y v (LeafNode h) f in
        subst (Alike b x) (ex ∙ sym ey) (alike_itself b x)
    congruent_alike _ _ (ByPart i j h a c e f p) x y u v =
        let s : IsOneOf ns h a x = of_node ns i x u (OneNode h a) e in
        let t : IsOneOf ns h c y = of_node ns j y v (OneNode h c) f in
        subst (λ m. Alike b m y) (sym s.is) (subst (Alike b (one_tree h s.part)) (sym t.is) (alike_one h s.part t.part (congruent_alike a c p s.part t.part s.is_part t.is_part)))
    congruent_alike _ _ (ByTwo i j h a c k m e f p q) x y u v =
        let s : IsTwoOf ns h a c x = of_node ns i x u (TwoNode h a c) e in
        let t : IsTwoOf ns h k m y = of_node ns j y v (TwoNode h k m) f in
        subst (λ o. Alike b o y) (sym s.is) (subst (Alike b (TwoTree h s.first s.second)) (sym t.is)
        (SameTwo h s.first s.second t.first t.second (congruent_alike a k p s.first t.first s.is_first t.is_first) (congruent_alike c m q s.second t.second s.is_second t.is_second)))
    congruent_alike _ _ (ByThree i j h a c d k m o e f p q r) x y u v =
        let s : IsThreeOf ns h a c d x = of_node ns i x u (ThreeNode h a c d) e in
        let t : IsThreeOf ns h k m o y = of_node ns j y v (ThreeNode h k m o) f in
        subst (λ w. Alike b w y) (sym s.is) (subst (Alike b (ThreeTree h s.first s.second s.third)) (sym t.is)
        (SameThree h s.first s.second s.third t.first t.second t.third (congruent_alike a k p s.first t.first s.is_first t.is_first) (congruent_alike c m q s.second t.second s.is_second t.is_second) (congruent_alike d o r s.third t.third s.is_third t.is_third)))
    congruent_alike _ _ (SameNumber i) x y u v = subst (Alike b x) (one_tree_each ns i x y u v) (alike_itself b x)
    congruent_alike _ _ (TurnedNumbers i j c) x y u v = alike_turned b y x (congruent_alike i j c y x v u)
    congruent_alike _ _ (ChainedNumbers i j k c d) x y u v =
        let some : IsSomeNode ns j = nodes.each j ((in_range i j c).0 (tree_within ns i x u)) in
        let between : Tree = tree_of some.bound some.item in
        alike_then b x between y (congruent_alike i j c x between u some.is.is) (congruent_alike j k d between y some.is.is v) (proper i x u) (proper k y v)
