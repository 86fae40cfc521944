-- Decomposition of two nodes: the one matches the other exactly when their parts match.
use Rattle.std.proofs.Common.{◌≡◌, ℕ, ◌<◌, List, [], ◌∷◌, length, refl, sym, ap, ◌∙◌, subst, arith}
use Rattle.std.specs.Prelude.{Contains}
use Rattle.fol.specs.declared.operators.Binary.{Binary as BinaryOperator}
use Rattle.fol.specs.FormulaData.{TermData, VarTerm, ConstantTerm, UnaryTerm, BinaryTerm, TernaryTerm, PackTerm, FieldTerm, SetFieldTerm, IfTerm, TermsData, NoTerms, MoreTerms, terms_of, list_of_terms, list_of_terms-terms_of}
use Rattle.term_pool.specs.Items.{Item, TermItem, TermsItem, FormulaItem, TypeItem, TermSort, TermsSort, sort_of, term_in, terms_in, type_in, one_item, two_item, three_item}
use Rattle.term_pool.specs.Pools.{item_at, item_of, items, IsMade, IsOneNumber}
use Rattle.term_pool.specs.declared.node.Leaf.{Leaf}
use Rattle.term_pool.specs.declared.node.Leaf.TheVariants.{Var, Constant, NilTerms}
use Rattle.term_pool.specs.declared.node.One.{One}
use Rattle.term_pool.specs.declared.node.One.TheVariants.{Unary}
use Rattle.term_pool.specs.declared.node.Two.{Two}
use Rattle.term_pool.specs.declared.node.Two.TheVariants.{Binary, Pack, Field, ConsTerm}
use Rattle.term_pool.specs.declared.node.Three.{Three}
use Rattle.term_pool.specs.declared.node.Three.TheVariants.{Ternary, SetField, If, TypeStruct}
use Rattle.term_pool.specs.declared.node.Node.{Node}
use Rattle.term_pool.specs.declared.node.Node.TheVariants.{Leaf as LeafNode, One as OneNode, Two as TwoNode, Three as ThreeNode}
use Rattle.std.proofs.lemmas.Option.{slice_get_within}
use Rattle.term_pool.proofs.ShapeLemmas.{Shape, LeafShape, OneShape, TwoShape, ThreeShape, shape_of, leaf_shape, one_shape, two_shape, three_shape, a_formula, a_type}
use Rattle.certificates.specs.BranchesParts.{parts_of_term, with_parts}
use Rattle.certificates.specs.Match.{IsFilled, AreFilled}
use Rattle.ematching.specs.Numbers.{AreAll, formula_at}
use Rattle.ematching.specs.Fits.{IsFilledItem, refilled, asked, IsClearNode, IsBoundNode}
use Rattle.ematching.proofs.FillLemmas.{by_parts, by_other, none_filled, first_filled}

-- ---- the shape of a node's item

module _ (ns : List Node) where
  abbrev pub node_shape : Node → Shape
  node_shape (LeafNode h) = LeafShape h
  node_shape (OneNode h a) = OneShape h (item_at ns a)
  node_shape (TwoNode h a b) = TwoShape h (item_at ns a) (item_at ns b)
  node_shape (ThreeNode h a b c) = ThreeShape h (item_at ns a) (item_at ns b) (item_at ns c)

  pub shape_made : (n : ℕ) (r : Node) → IsMade ns n r → shape_of (item_at ns n) ≡ node_shape r
  shape_made n (LeafNode h) made = ap shape_of made.item ∙ leaf_shape h
  shape_made n (OneNode h a) made = ap shape_of made.item ∙ one_shape h (item_at ns a) made.parts.sort
  shape_made n (TwoNode h a b) made = ap shape_of made.item ∙ two_shape h (item_at ns a) (item_at ns b) made.parts.0.sort made.parts.1.sort
  shape_made n (ThreeNode h a b c) made = ap shape_of made.item ∙ three_shape h (item_at ns a) (item_at ns b) (item_at ns c) made.parts.0.sort made.parts.1.sort made.parts.2.sort

  -- a node whose item has a shape
  leaf_from : (h : Leaf) (r : Node) → node_shape r ≡ LeafShape h → LeafNode h ≡ r
  leaf_from h (LeafNode k) e = (let same : k ≡ h = cc in ap LeafNode (sym same))
  leaf_from h _ e = absurd (cc)

  pub record IsOne (h : One) (x : Item) (r : Node) : Type 0 where
    pub part : ℕ
    pub is : OneNode h part ≡ r
    pub item : item_at ns part ≡ x

  pub one_from : (h : One) (x : Item) (r : Node) → node_shape r ≡ OneShape h x → IsOne h x r
  one_from h x (OneNode k b) e = record { part = b; is = (let same : k ≡ h = cc in ap (λ g. OneNode g b) (sym same)); item = cc }
  one_from h x _ e = absurd (cc)

  pub record IsTwo (h : Two) (x y : Item) (r : Node) : Type 0 where
    pub first : ℕ
    pub second : ℕ
    pub is : TwoNode h first second ≡ r
    pub first_item : item_at ns first ≡ x
    pub second_item : item_at ns second ≡ y

  pub two_from : (h : Two) (x y : Item) (r : Node) → node_shape r ≡ TwoShape h x y → IsTwo h x y r
  two_from h x y (TwoNode k a b) e = record { first = a; second = b; is = (let same : k ≡ h = cc in ap (λ g. TwoNode g a b) (sym same)); first_item = cc; second_item = cc }
  two_from h x y _ e = absurd (cc)

  record IsThree (h : Three) (x y z : Item) (r : Node) : Type 0 where
    first : ℕ
    second : ℕ
    third : ℕ
    is : ThreeNode h first second third ≡ r
    first_item : item_at ns first ≡ x
    second_item : item_at ns second ≡ y
    third_item : item_at ns third ≡ z

  three_from : (h : Three) (x y z : Item) (r : Node) → node_shape r ≡ ThreeShape h x y z → IsThree h x y z r
  three_from h x y z (ThreeNode k a b c) e = record { first = a; second = b; third = c; is = (let same : k ≡ h = cc in ap (λ g. ThreeNode g a b c) (sym same)); first_item = cc; second_item = cc; third_item = cc }
  three_from h x y z _ e = absurd (cc)

-- ---- items that match

module _ (bound : List ℕ) (at : ℕ → TermData) where
  pub as_term : (x y : Item) → sort_of x ≡ TermSort → IsFilledItem bound at x y → IsFilled bound at (term_in x) (term_in y)
  as_term (TermItem t) (TermItem u) e h = h
  as_term (TermItem t) _ e h = absurd h
  as_term _ y e h = absurd (cc)

  pub as_terms : (x y : Item) → sort_of x ≡ TermsSort → IsFilledItem bound at x y → AreFilled bound at (list_of_terms (terms_in x)) (list_of_terms (terms_in y))
  as_terms (TermsItem t) (TermsItem u) e h = h
  as_terms (TermsItem t) _ e h = absurd h
  as_terms _ y e h = absurd (cc)

  -- the term, or the list, that a term matches
  record IsTermTo (t : TermData) (y : Item) : Type 0 where
    to : TermData
    is : y ≡ TermItem to
    filled : IsFilled bound at t to

  to_term : (t : TermData) (y : Item) → IsFilledItem bound at (TermItem t) y → IsTermTo t y
  to_term t (TermItem u) h = record { to = u; is = refl; filled = h }
  to_term t _ h = absurd h

  record AreTermsTo (ts : TermsData) (y : Item) : Type 0 where
    to : TermsData
    is : y ≡ TermsItem to
    filled : AreFilled bound at (list_of_terms ts) (list_of_terms to)

  to_terms : (ts : TermsData) (y : Item) → IsFilledItem bound at (TermsItem ts) y → AreTermsTo ts y
  to_terms ts (TermsItem us) h = record { to = us; is = refl; filled = h }
  to_terms ts _ h = absurd h

  filled_items : (x y : Item) (u : TermData) → sort_of x ≡ TermSort → y ≡ TermItem u → IsFilled bound at (term_in x) u → IsFilledItem bound at x y
  filled_items (TermItem t) y u e f h = subst (IsFilledItem bound at (TermItem t)) (sym f) h
  filled_items _ y u e f h = absurd (cc)

  filled_lists : (x y : Item) (us : TermsData) → sort_of x ≡ TermsSort → y ≡ TermsItem us → AreFilled bound at (list_of_terms (terms_in x)) (list_of_terms us) → IsFilledItem bound at x y
  filled_lists (TermsItem t) y u e f h = subst (IsFilledItem bound at (TermsItem t)) (sym f) h
  filled_lists _ y u e f h = absurd (cc)

  -- ---- terms by arity

  record ToOne (t a u : TermData) : Type 0 where
    v : TermData
    is : with_parts t (v ∷ []) ≡ u
    first : IsFilled bound at a v

  to_one : (t a u : TermData) → with_parts t (parts_of_term u) ≡ u → AreFilled bound at (a ∷ []) (parts_of_term u) → ToOne t a u
  to_one t a u e h =
      let f = first_filled bound at a [] (parts_of_term u) h in
      let list : parts_of_term u ≡ f.first ∷ [] = f.is ∙ ap (λ xs. f.first ∷ xs) (none_filled bound at f.rest f.rest_filled) in
      record { v = f.first; is = ap (with_parts t) (sym list) ∙ e; first = f.filled }

  record ToTwo (t a b u : TermData) : Type 0 where
    v : TermData
    w : TermData
    is : with_parts t (v ∷ w ∷ []) ≡ u
    first : IsFilled bound at a v
    second : IsFilled bound at b w

  to_two : (t a b u : TermData) → with_parts t (parts_of_term u) ≡ u → AreFilled bound at (a ∷ b ∷ []) (parts_of_term u) → ToTwo t a b u
  to_two t a b u e h =
      let f = first_filled bound at a (b ∷ []) (parts_of_term u) h in
      let g = first_filled bound at b [] f.rest f.rest_filled in
      let list : parts_of_term u ≡ f.first ∷ g.first ∷ [] = f.is ∙ ap (λ xs. f.first ∷ xs) (g.is ∙ ap (λ xs. g.first ∷ xs) (none_filled bound at g.rest g.rest_filled)) in
      record { v = f.first; w = g.first; is = ap (with_parts t) (sym list) ∙ e; first = f.filled; second = g.filled }

  record ToThree (t a b c u : TermData) : Type 0 where
    v : TermData
    w : TermData
    x : TermData
    is : with_parts t (v ∷ w ∷ x ∷ []) ≡ u
    first : IsFilled bound at a v
    second : IsFilled bound at b w
    third : IsFilled bound at c x

  to_three : (t a b c u : TermData) → with_parts t (parts_of_term u) ≡ u → AreFilled bound at (a ∷ b ∷ c ∷ []) (parts_of_term u) → ToThree t a b c u
  to_three t a b c u e h =
      let f = first_filled bound at a (b ∷ c ∷ []) (parts_of_term u) h in
      let g = first_filled bound at b (c ∷ []) f.rest f.rest_filled in
      let k = first_filled bound at c [] g.rest g.rest_filled in
      let list : parts_of_term u ≡ f.first ∷ g.first ∷ k.first ∷ [] = f.is ∙ ap (λ xs. f.first ∷ xs) (g.is ∙ ap (λ xs. g.first ∷ xs) (k.is ∙ ap (λ xs. k.first ∷ xs) (none_filled bound at k.rest k.rest_filled))) in
      record { v = f.first; w = g.first; x = k.first; is = ap (with_parts t) (sym list) ∙ e; first = f.filled; second = g.filled; third = k.filled }

  record ToFirst (t : TermData) (ts : List TermData) (us : TermsData) : Type 0 where
    v : TermData
    vs : TermsData
    is : MoreTerms v vs ≡ us
    first : IsFilled bound at t v
    rest : AreFilled bound at ts (list_of_terms vs)

  to_first : (t : TermData) (ts : List TermData) (us : TermsData) → AreFilled bound at (t ∷ ts) (list_of_terms us) → ToFirst t ts us
  to_first t ts NoTerms h = (let f = first_filled bound at t ts [] h in let none : [] ≡ f.first ∷ f.rest = f.is in absurd (cc))
  to_first t ts (MoreTerms v vs) h =
      let f = first_filled bound at t ts (v ∷ list_of_terms vs) h in
      let same : v ≡ f.first = (let e : v ∷ list_of_terms vs ≡ f.first ∷ f.rest = f.is in cc) in
      let same_rest : list_of_terms vs ≡ f.rest = (let e : v ∷ list_of_terms vs ≡ f.first ∷ f.rest = f.is in cc) in
      record { v = v; vs = vs; is = refl; first = subst (IsFilled bound at t) (sym same) f.filled; rest = subst (AreFilled bound at ts) (sym same_rest) f.rest_filled }

  no_terms : (us : TermsData) → AreFilled bound at [] (list_of_terms us) → NoTerms ≡ us
  no_terms NoTerms h = refl
  no_terms (MoreTerms v vs) h = (let e : v ∷ list_of_terms vs ≡ [] = none_filled bound at (v ∷ list_of_terms vs) h in absurd (cc))

-- ---- two nodes

module _ (ns : List Node) (one : IsOneNumber ns) (bound : List ℕ) where
  abbrev pub FilledPair : (ℕ → TermData) → ℕ × ℕ → Type 0
  FilledPair at p = IsFilledItem bound at (item_at ns p.0) (item_at ns p.1)

  -- the properties of the parts if the first node matches the second
  pub record AreApart (at : ℕ → TermData) (l r : Node) : Type 0 where
    pub same : refilled l r ≡ r
    pub clear : IsClearNode ns bound l
    pub pairs : AreAll (FilledPair at) (asked l r)

  module _ (at : ℕ → TermData) (n m : ℕ) where
    leaf_apart : (h : Leaf) (r : Node) → LeafNode h ≡ r → AreApart at (LeafNode h) r
    leaf_apart h r e = subst (AreApart at (LeafNode h)) e (record { same = refl; clear = tt; pairs = tt })

    one_apart : (h : One) (a : ℕ) (r : Node) (u : TermData) → sort_of (item_at ns a) ≡ TermSort → node_shape ns r ≡ OneShape h (TermItem u) → IsFilled bound at (term_in (item_at ns a)) u → AreApart at (OneNode h a) r
    one_apart h a r u s e f =
        let it = one_from ns h (TermItem u) r e in
        subst (AreApart at (OneNode h a)) it.is (record { same = refl; clear = tt; pairs = (filled_items bound at (item_at ns a) (item_at ns it.part) u s it.item f, tt) })

    binary_apart : (o : BinaryOperator) (a b : ℕ) (r : Node) (u v : TermData) → sort_of (item_at ns a) ≡ TermSort → sort_of (item_at ns b) ≡ TermSort → node_shape ns r ≡ TwoShape (Binary o) (TermItem u) (TermItem v) → IsFilled bound at (term_in (item_at ns a)) u → IsFilled bound at (term_in (item_at ns b)) v → AreApart at (TwoNode (Binary o) a b) r
    binary_apart o a b r u v s t e f g =
        let it = two_from ns (Binary o) (TermItem u) (TermItem v) r e in
        subst (AreApart at (TwoNode (Binary o) a b)) it.is (record { same = refl; clear = tt; pairs = (filled_items bound at (item_at ns a) (item_at ns it.first) u s it.first_item f, (filled_items bound at (item_at ns b) (item_at ns it.second) v t it.second_item g, tt)) })

    -- ---- a pattern that matches

    module _ (l r : Node) (made_l : IsMade ns n l) (made_r : IsMade ns m r) where
      inside : (k a : ℕ) → a < k → k < length ns → a < length ns
      inside k a w v = omega arith

      here_l : n < length ns
      here_l = slice_get_within ns n l made_l.found

      here_r : m < length ns
      here_r = slice_get_within ns m r made_r.found

      -- the shape of the second node, by the shape of its item
      shape_to : (y : Item) → item_at ns m ≡ y → node_shape ns r ≡ shape_of y
      shape_to y e = sym (shape_made ns m r made_r) ∙ ap shape_of e

      -- types and conditions have one number
      pub same_part : (a b : ℕ) (x y : Item) → a < n → b < m → item_at ns b ≡ y → y ≡ x → x ≡ item_at ns a → a ≡ b
      same_part a b x y w v e f g = one.one a b (inside n a w here_l) (inside m b v here_r) (sym g ∙ sym f ∙ sym e)

  module _ (at : ℕ → TermData) (n m : ℕ) where
    unary : (o : _) (a : ℕ) (r : Node) → IsMade ns n (OneNode (Unary o) a) → IsMade ns m r → IsFilledItem bound at (one_item (Unary o) (item_at ns a)) (item_at ns m) → AreApart at (OneNode (Unary o) a) r
    unary o a r made_l made_r h =
        let t = UnaryTerm o (term_in (item_at ns a)) in
        let to = to_term bound at t (item_at ns m) h in
        let p = by_parts bound at t to.to to.filled (λ k e. absurd (cc)) in
        let q = to_one bound at t (term_in (item_at ns a)) to.to p.head p.parts in
        one_apart at n m (Unary o) a r q.v made_l.parts.sort (shape_to at n m (OneNode (Unary o) a) r made_l made_r (TermItem (UnaryTerm o q.v)) (to.is ∙ ap TermItem (sym q.is))) q.first

    binary : (o : _) (a b : ℕ) (r : Node) → IsMade ns n (TwoNode (Binary o) a b) → IsMade ns m r → IsFilledItem bound at (two_item (Binary o) (item_at ns a) (item_at ns b)) (item_at ns m) → AreApart at (TwoNode (Binary o) a b) r
    binary o a b r made_l made_r h =
        let t = BinaryTerm o (term_in (item_at ns a)) (term_in (item_at ns b)) in
        let to = to_term bound at t (item_at ns m) h in
        let p = by_parts bound at t to.to to.filled (λ k e. absurd (cc)) in
        let q = to_two bound at t (term_in (item_at ns a)) (term_in (item_at ns b)) to.to p.head p.parts in
        binary_apart at n m o a b r q.v q.w made_l.parts.0.sort made_l.parts.1.sort (shape_to at n m (TwoNode (Binary o) a b) r made_l made_r (TermItem (BinaryTerm o q.v q.w)) (to.is ∙ ap TermItem (sym q.is))) q.first q.second

    pack : (a b : ℕ) (r : Node) → IsMade ns n (TwoNode Pack a b) → IsMade ns m r → IsFilledItem bound at (two_item Pack (item_at ns a) (item_at ns b)) (item_at ns m) → AreApart at (TwoNode Pack a b) r
    pack a b r made_l made_r h =
        let s = type_in (item_at ns a) in
        let t = PackTerm s (terms_in (item_at ns b)) in
        let to = to_term bound at t (item_at ns m) h in
        let p = by_parts bound at t to.to to.filled (λ k e. absurd (cc)) in
        let us = terms_of (parts_of_term to.to) in
        let filled : AreFilled bound at (list_of_terms (terms_in (item_at ns b))) (list_of_terms us) = subst (AreFilled bound at (list_of_terms (terms_in (item_at ns b)))) (sym (list_of_terms-terms_of (parts_of_term to.to))) p.parts in
        let it = two_from ns Pack (TypeItem s) (TermsItem us) r (shape_to at n m (TwoNode Pack a b) r made_l made_r (TermItem (PackTerm s us)) (to.is ∙ ap TermItem (sym p.head))) in
        let made : IsMade ns m (TwoNode Pack it.first it.second) = subst (IsMade ns m) (sym it.is) made_r in
        let same : a ≡ it.first = same_part at n m (TwoNode Pack a b) r made_l made_r a it.first (TypeItem s) (TypeItem s) made_l.parts.0.earlier made.parts.0.earlier it.first_item refl (a_type (item_at ns a) made_l.parts.0.sort) in
        subst (AreApart at (TwoNode Pack a b)) it.is (record { same = ap (λ k. TwoNode Pack k it.second) same; clear = tt; pairs = (filled_lists bound at (item_at ns b) (item_at ns it.second) us made_l.parts.1.sort it.second_item filled, tt) })

    field : (k a b : ℕ) (r : Node) → IsMade ns n (TwoNode (Field k) a b) → IsMade ns m r → IsFilledItem bound at (two_item (Field k) (item_at ns a) (item_at ns b)) (item_at ns m) → AreApart at (TwoNode (Field k) a b) r
    field k a b r made_l made_r h =
        let s = type_in (item_at ns a) in
        let t = FieldTerm s k (term_in (item_at ns b)) in
        let to = to_term bound at t (item_at ns m) h in
        let p = by_parts bound at t to.to to.filled (λ k e. absurd (cc)) in
        let q = to_one bound at t (term_in (item_at ns b)) to.to p.head p.parts in
        let it = two_from ns (Field k) (TypeItem s) (TermItem q.v) r (shape_to at n m (TwoNode (Field k) a b) r made_l made_r (TermItem (FieldTerm s k q.v)) (to.is ∙ ap TermItem (sym q.is))) in
        let made : IsMade ns m (TwoNode (Field k) it.first it.second) = subst (IsMade ns m) (sym it.is) made_r in
        let same : a ≡ it.first = same_part at n m (TwoNode (Field k) a b) r made_l made_r a it.first (TypeItem s) (TypeItem s) made_l.parts.0.earlier made.parts.0.earlier it.first_item refl (a_type (item_at ns a) made_l.parts.0.sort) in
        subst (AreApart at (TwoNode (Field k) a b)) it.is (record { same = ap (λ j. TwoNode (Field k) j it.second) same; clear = tt; pairs = (filled_items bound at (item_at ns b) (item_at ns it.second) q.v made_l.parts.1.sort it.second_item q.first, tt) })

    cons : (a b : ℕ) (r : Node) → IsMade ns n (TwoNode ConsTerm a b) → IsMade ns m r → IsFilledItem bound at (two_item ConsTerm (item_at ns a) (item_at ns b)) (item_at ns m) → AreApart at (TwoNode ConsTerm a b) r
    cons a b r made_l made_r h =
        let to = to_terms bound at (MoreTerms (term_in (item_at ns a)) (terms_in (item_at ns b))) (item_at ns m) h in
        let q = to_first bound at (term_in (item_at ns a)) (list_of_terms (terms_in (item_at ns b))) to.to to.filled in
        let it = two_from ns ConsTerm (TermItem q.v) (TermsItem q.vs) r (shape_to at n m (TwoNode ConsTerm a b) r made_l made_r (TermsItem (MoreTerms q.v q.vs)) (to.is ∙ ap TermsItem (sym q.is))) in
        subst (AreApart at (TwoNode ConsTerm a b)) it.is (record { same = refl; clear = tt; pairs = (filled_items bound at (item_at ns a) (item_at ns it.first) q.v made_l.parts.0.sort it.first_item q.first, (filled_lists bound at (item_at ns b) (item_at ns it.second) q.vs made_l.parts.1.sort it.second_item q.rest, tt)) })

    ternary : (o : _) (a b c : ℕ) (r : Node) → IsMade ns n (ThreeNode (Ternary o) a b c) → IsMade ns m r → IsFilledItem bound at (three_item (Ternary o) (item_at ns a) (item_at ns b) (item_at ns c)) (item_at ns m) → AreApart at (ThreeNode (Ternary o) a b c) r
    ternary o a b c r made_l made_r h =
        let t = TernaryTerm o (term_in (item_at ns a)) (term_in (item_at ns b)) (term_in (item_at ns c)) in
        let to = to_term bound at t (item_at ns m) h in
        let p = by_parts bound at t to.to to.filled (λ k e. absurd (cc)) in
        let q = to_three bound at t (term_in (item_at ns a)) (term_in (item_at ns b)) (term_in (item_at ns c)) to.to p.head p.parts in
        let it = three_from ns (Ternary o) (TermItem q.v) (TermItem q.w) (TermItem q.x) r (shape_to at n m (ThreeNode (Ternary o) a b c) r made_l made_r (TermItem (TernaryTerm o q.v q.w q.x)) (to.is ∙ ap TermItem (sym q.is))) in
        subst (AreApart at (ThreeNode (Ternary o) a b c)) it.is (record { same = refl; clear = tt; pairs = (filled_items bound at (item_at ns a) (item_at ns it.first) q.v made_l.parts.0.sort it.first_item q.first, (filled_items bound at (item_at ns b) (item_at ns it.second) q.w made_l.parts.1.sort it.second_item q.second, (filled_items bound at (item_at ns c) (item_at ns it.third) q.x made_l.parts.2.sort it.third_item q.third, tt))) })

    set_field : (k a b c : ℕ) (r : Node) → IsMade ns n (ThreeNode (SetField k) a b c) → IsMade ns m r → IsFilledItem bound at (three_item (SetField k) (item_at ns a) (item_at ns b) (item_at ns c)) (item_at ns m) → AreApart at (ThreeNode (SetField k) a b c) r
    set_field k a b c r made_l made_r h =
        let s = type_in (item_at ns a) in
        let t = SetFieldTerm s k (term_in (item_at ns b)) (term_in (item_at ns c)) in
        let to = to_term bound at t (item_at ns m) h in
        let p = by_parts bound at t to.to to.filled (λ k e. absurd (cc)) in
        let q = to_two bound at t (term_in (item_at ns b)) (term_in (item_at ns c)) to.to p.head p.parts in
        let it = three_from ns (SetField k) (TypeItem s) (TermItem q.v) (TermItem q.w) r (shape_to at n m (ThreeNode (SetField k) a b c) r made_l made_r (TermItem (SetFieldTerm s k q.v q.w)) (to.is ∙ ap TermItem (sym q.is))) in
        let made : IsMade ns m (ThreeNode (SetField k) it.first it.second it.third) = subst (IsMade ns m) (sym it.is) made_r in
        let same : a ≡ it.first = same_part at n m (ThreeNode (SetField k) a b c) r made_l made_r a it.first (TypeItem s) (TypeItem s) made_l.parts.0.earlier made.parts.0.earlier it.first_item refl (a_type (item_at ns a) made_l.parts.0.sort) in
        subst (AreApart at (ThreeNode (SetField k) a b c)) it.is (record { same = ap (λ j. ThreeNode (SetField k) j it.second it.third) same; clear = tt; pairs = (filled_items bound at (item_at ns b) (item_at ns it.second) q.v made_l.parts.1.sort it.second_item q.first, (filled_items bound at (item_at ns c) (item_at ns it.third) q.w made_l.parts.2.sort it.third_item q.second, tt)) })

    choice : (a b c : ℕ) (r : Node) → IsMade ns n (ThreeNode If a b c) → IsMade ns m r → IsFilledItem bound at (three_item If (item_at ns a) (item_at ns b) (item_at ns c)) (item_at ns m) → AreApart at (ThreeNode If a b c) r
    choice a b c r made_l made_r h =
        let s = formula_at ns a in
        let t = IfTerm s (term_in (item_at ns b)) (term_in (item_at ns c)) in
        let to = to_term bound at t (item_at ns m) h in
        let p = by_parts bound at t to.to to.filled (λ k e. absurd (cc)) in
        let q = to_two bound at t (term_in (item_at ns b)) (term_in (item_at ns c)) to.to p.head p.parts in
        let it = three_from ns If (FormulaItem s) (TermItem q.v) (TermItem q.w) r (shape_to at n m (ThreeNode If a b c) r made_l made_r (TermItem (IfTerm s q.v q.w)) (to.is ∙ ap TermItem (sym q.is))) in
        let made : IsMade ns m (ThreeNode If it.first it.second it.third) = subst (IsMade ns m) (sym it.is) made_r in
        let same : a ≡ it.first = same_part at n m (ThreeNode If a b c) r made_l made_r a it.first (FormulaItem s) (FormulaItem s) made_l.parts.0.earlier made.parts.0.earlier it.first_item refl (a_formula (item_at ns a) made_l.parts.0.sort) in
        subst (AreApart at (ThreeNode If a b c)) it.is (record { same = ap (λ j. ThreeNode If j it.second it.third) same; clear = p.clear; pairs = (filled_items bound at (item_at ns b) (item_at ns it.second) q.v made_l.parts.1.sort it.second_item q.first, (filled_items bound at (item_at ns c) (item_at ns it.third) q.w made_l.parts.2.sort it.third_item q.second, tt)) })

    variable : (x : ℕ) (r : Node) → (Contains bound x → ⊥) → IsMade ns n (LeafNode (Var x)) → IsMade ns m r → IsFilledItem bound at (TermItem (VarTerm x)) (item_at ns m) → AreApart at (LeafNode (Var x)) r
    variable x r other made_l made_r h =
        let to = to_term bound at (VarTerm x) (item_at ns m) h in
        let is = by_other bound at (VarTerm x) to.to x to.filled refl other in
        leaf_apart at n m (Var x) r (leaf_from ns (Var x) r (shape_to at n m (LeafNode (Var x)) r made_l made_r (TermItem (VarTerm x)) (to.is ∙ ap TermItem (sym is))))

    constant : (k : _) (r : Node) → IsMade ns n (LeafNode (Constant k)) → IsMade ns m r → IsFilledItem bound at (TermItem (ConstantTerm k)) (item_at ns m) → AreApart at (LeafNode (Constant k)) r
    constant k r made_l made_r h =
        let to = to_term bound at (ConstantTerm k) (item_at ns m) h in
        let p = by_parts bound at (ConstantTerm k) to.to to.filled (λ j e. absurd (cc)) in
        leaf_apart at n m (Constant k) r (leaf_from ns (Constant k) r (shape_to at n m (LeafNode (Constant k)) r made_l made_r (TermItem (ConstantTerm k)) (to.is ∙ ap TermItem (sym p.head))))

    nil : (r : Node) → IsMade ns n (LeafNode NilTerms) → IsMade ns m r → IsFilledItem bound at (TermsItem NoTerms) (item_at ns m) → AreApart at (LeafNode NilTerms) r
    nil r made_l made_r h =
        let to = to_terms bound at NoTerms (item_at ns m) h in
        let is = no_terms bound at to.to to.filled in
        leaf_apart at n m NilTerms r (leaf_from ns NilTerms r (shape_to at n m (LeafNode NilTerms) r made_l made_r (TermsItem NoTerms) (to.is ∙ ap TermsItem (sym is))))

    of_node : (l r : Node) → IsMade ns n l → IsMade ns m r → (IsBoundNode bound l → ⊥) → IsFilledItem bound at (item_of (items ns) l) (item_at ns m) → AreApart at l r
    of_node (LeafNode (Var x)) r made_l made_r other h = variable x r other made_l made_r h
    of_node (LeafNode (Constant k)) r made_l made_r other h = constant k r made_l made_r h
    of_node (LeafNode NilTerms) r made_l made_r other h = nil r made_l made_r h
    of_node (LeafNode k) r made_l made_r other h = absurd h
    of_node (OneNode (Unary o) a) r made_l made_r other h = unary o a r made_l made_r h
    of_node (OneNode k a) r made_l made_r other h = absurd h
    of_node (TwoNode (Binary o) a b) r made_l made_r other h = binary o a b r made_l made_r h
    of_node (TwoNode Pack a b) r made_l made_r other h = pack a b r made_l made_r h
    of_node (TwoNode (Field k) a b) r made_l made_r other h = field k a b r made_l made_r h
    of_node (TwoNode ConsTerm a b) r made_l made_r other h = cons a b r made_l made_r h
    of_node (TwoNode k a b) r made_l made_r other h = absurd h
    of_node (ThreeNode (Ternary o) a b c) r made_l made_r other h = ternary o a b c r made_l made_r h
    of_node (ThreeNode (SetField k) a b c) r made_l made_r other h = set_field k a b c r made_l made_r h
    of_node (ThreeNode If a b c) r made_l made_r other h = choice a b c r made_l made_r h
    of_node (ThreeNode (TypeStruct k) a b c) r made_l made_r other h = absurd h

    pub apart : (l r : Node) → IsMade ns n l → IsMade ns m r → (IsBoundNode bound l → ⊥) → IsFilledItem bound at (item_at ns n) (item_at ns m) → AreApart at l r
    apart l r made_l made_r other h = of_node l r made_l made_r other (subst (λ x. IsFilledItem bound at x (item_at ns m)) made_l.item h)
