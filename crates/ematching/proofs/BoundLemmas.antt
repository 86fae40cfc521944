-- The variables that a formula binds: those of its quantifiers, which a walk reaches.
use Rattle.std.proofs.Common.{◌≡◌, ◌⊎◌, inl, inr, ℕ, zero, suc, ◌+◌, ◌<◌, ◌≤◌, List, [], ◌∷◌, ◌++◌, length, get_or, take, Option, Some, None, refl, sym, ap, ◌∙◌, subst, arith}
use Rattle.std.proofs.lemmas.List.{take_more, take_all}
use Rattle.term_pool.specs.Items.{Item, FormulaItem, FormulasItem, FormulaSort, FormulasSort, sort_of, formula_in, formulas_in, leaf_item, one_item, two_item, three_item, one_part, first_of_two, second_of_two}
use Rattle.term_pool.specs.Pools.{item_at, IsMade}
use Rattle.term_pool.specs.declared.node.Leaf.{Leaf}
use Rattle.term_pool.specs.declared.node.Leaf.TheVariants.{Var}
use Rattle.term_pool.specs.declared.node.One.{One}
use Rattle.term_pool.specs.declared.node.One.TheVariants.{Not, Join}
use Rattle.term_pool.specs.declared.node.Two.{Two}
use Rattle.term_pool.specs.declared.node.Two.TheVariants.{Connect, Quantify, ConsFormula}
use Rattle.term_pool.specs.declared.node.Three.{Three}
use Rattle.term_pool.specs.declared.node.Three.TheVariants.{Ternary}
use Rattle.term_pool.specs.declared.node.Node.{Node}
use Rattle.term_pool.specs.declared.node.Node.TheVariants.{Leaf as LeafNode, One as OneNode, Two as TwoNode, Three as ThreeNode}
use Rattle.certificates.specs.Match.{bound_in, bound_in_all}
use Rattle.ematching.specs.Numbers.{IsAmong, formula_at}
use Rattle.ematching.specs.Walks.{binding_parts, bound_of, IsReached, Itself, Below, AreReached, Binds, BindsNone, AreBound}
use Rattle.ematching.specs.declared.walk.Way.TheVariants.{Bound}
use Rattle.ematching.proofs.ListLemmas.{among_first, among_last, among_cases, among_push, among_push_cases, among_take_more, among_contains, contains_among}
use Rattle.ematching.proofs.WalkLemmas.{are_binding_parts}

abbrev pub bound_in_item : Item → List ℕ
bound_in_item (FormulaItem p) = bound_in p
bound_in_item (FormulasItem ps) = bound_in_all ps
bound_in_item _ = []

formula_bound : (i : Item) → sort_of i ≡ FormulaSort → bound_in_item i ≡ bound_in (formula_in i)
formula_bound (FormulaItem p) e = refl
formula_bound _ e = absurd (cc)

formulas_bound : (i : Item) → sort_of i ≡ FormulasSort → bound_in_item i ≡ bound_in_all (formulas_in i)
formulas_bound (FormulasItem p) e = refl
formulas_bound _ e = absurd (cc)

module _ (ns : List Node) where
  abbrev bound : ℕ → List ℕ
  bound a = bound_in_item (item_at ns a)

  -- the variables that some parts bind
  abbrev all_bound : List ℕ → List ℕ
  all_bound [] = []
  all_bound (a ∷ []) = bound a
  all_bound (a ∷ b ∷ ps) = bound a ++ bound b

  abbrev here : Option ℕ → List ℕ → List ℕ
  here None xs = xs
  here (Some n) xs = n ∷ xs

  one_item_bound : (h : One) (a : ℕ) → sort_of (item_at ns a) ≡ one_part h → bound_in_item (one_item h (item_at ns a)) ≡ all_bound (binding_parts (OneNode h a))
  one_item_bound Not a e = sym (formula_bound (item_at ns a) e)
  one_item_bound (Join o) a e = sym (formulas_bound (item_at ns a) e)
  one_item_bound _ a e = refl

  two_item_bound : (h : Two) (a b : ℕ) → sort_of (item_at ns a) ≡ first_of_two h → sort_of (item_at ns b) ≡ second_of_two h → bound_in_item (two_item h (item_at ns a) (item_at ns b)) ≡ here (bound_of (TwoNode h a b)) (all_bound (binding_parts (TwoNode h a b)))
  two_item_bound (Connect o) a b e f = λ i. sym (formula_bound (item_at ns a) e) i ++ sym (formula_bound (item_at ns b) f) i
  two_item_bound (Quantify o n) a b e f = ap (λ xs. n ∷ xs) (sym (formula_bound (item_at ns b) f))
  two_item_bound ConsFormula a b e f = λ i. sym (formula_bound (item_at ns a) e) i ++ sym (formulas_bound (item_at ns b) f) i
  two_item_bound _ a b e f = refl

  leaf_bound : (h : Leaf) → bound_in_item (leaf_item h) ≡ []
  leaf_bound h = leaf h
    where
      leaf : (h : Leaf) → bound_in_item (leaf_item h) ≡ []
      leaf (Var n) = refl
      leaf _ = refl

  three_bound : (h : Three) (i j k : Item) → bound_in_item (three_item h i j k) ≡ []
  three_bound (Ternary o) i j k = refl
  three_bound _ i j k = refl

  node_bound : (n : ℕ) (node : Node) → IsMade ns n node → bound n ≡ here (bound_of node) (all_bound (binding_parts node))
  node_bound n (LeafNode h) made = ap bound_in_item made.item ∙ leaf_bound h
  node_bound n (OneNode h a) made = ap bound_in_item made.item ∙ one_item_bound h a made.parts.sort
  node_bound n (TwoNode h a b) made = ap bound_in_item made.item ∙ two_item_bound h a b made.parts.0.sort made.parts.1.sort
  node_bound n (ThreeNode h a b c) made = ap bound_in_item made.item ∙ three_bound h (item_at ns a) (item_at ns b) (item_at ns c)

  -- some of these parts binds the variable
  pub record BindsBelow (y : ℕ) (ps : List ℕ) : Type 0 where
    pub part : ℕ
    pub among : IsAmong part ps
    pub binds : IsAmong y (bound_in_item (item_at ns part))

  down : (y : ℕ) (ps : List ℕ) → IsAmong y (all_bound ps) → BindsBelow y ps
  down y [] h = absurd h
  down y (a ∷ []) h = record { part = a; among = inl refl; binds = h }
  down y (a ∷ b ∷ ps) h = go (among_cases y (bound a) (bound b) h)
    where
      go : IsAmong y (bound a) ⊎ IsAmong y (bound b) → BindsBelow y (a ∷ b ∷ ps)
      go (inl k) = record { part = a; among = inl refl; binds = k }
      go (inr k) = record { part = b; among = inr (inl refl); binds = k }

  up : (y : ℕ) (ps : List ℕ) → length ps ≤ 2 → BindsBelow y ps → IsAmong y (all_bound ps)
  up y [] w h = absurd h.among
  up y (a ∷ []) w h = go h.among
    where
      go : IsAmong h.part (a ∷ []) → IsAmong y (bound a)
      go (inl e) = subst (λ k. IsAmong y (bound k)) e h.binds
      go (inr z) = absurd z
  up y (a ∷ b ∷ []) w h = go h.among
    where
      go : IsAmong h.part (a ∷ b ∷ []) → IsAmong y (bound a ++ bound b)
      go (inl e) = among_first y (bound a) (bound b) (subst (λ k. IsAmong y (bound k)) e h.binds)
      go (inr (inl e)) = among_last y (bound a) (bound b) (subst (λ k. IsAmong y (bound k)) e h.binds)
      go (inr (inr z)) = absurd z
  up y (a ∷ b ∷ c ∷ ps) w h = absurd (omega arith)

  two_at_most : (node : Node) → length (binding_parts node) ≤ 2
  two_at_most (LeafNode h) = omega arith
  two_at_most (OneNode Not a) = omega arith
  two_at_most (OneNode (Join o) a) = omega arith
  two_at_most (OneNode h a) = omega arith
  two_at_most (TwoNode (Connect o) a b) = omega arith
  two_at_most (TwoNode (Quantify o n) a b) = omega arith
  two_at_most (TwoNode ConsFormula a b) = omega arith
  two_at_most (TwoNode h a b) = omega arith
  two_at_most (ThreeNode h a b c) = omega arith

  binds_down : (y n : ℕ) (node : Node) → IsMade ns n node → IsAmong y (bound n) → (bound_of node ≡ Some y) ⊎ BindsBelow y (binding_parts node)
  binds_down y n node made h = go (bound_of node) refl (subst (IsAmong y) (node_bound n node made) h)
    where
      go : (o : Option ℕ) → bound_of node ≡ o → IsAmong y (here (bound_of node) (all_bound (binding_parts node))) → (bound_of node ≡ Some y) ⊎ BindsBelow y (binding_parts node)
      go None e k = inr (down y (binding_parts node) (subst (λ o. IsAmong y (here o (all_bound (binding_parts node)))) e k))
      go (Some m) e k = either (subst (λ o. IsAmong y (here o (all_bound (binding_parts node)))) e k)
        where
          either : (y ≡ m) ⊎ IsAmong y (all_bound (binding_parts node)) → (bound_of node ≡ Some y) ⊎ BindsBelow y (binding_parts node)
          either (inl f) = inl (e ∙ ap Some (sym f))
          either (inr f) = inr (down y (binding_parts node) f)

  binds_up : (y n : ℕ) (node : Node) → IsMade ns n node → (bound_of node ≡ Some y) ⊎ BindsBelow y (binding_parts node) → IsAmong y (bound n)
  binds_up y n node made h = subst (IsAmong y) (sym (node_bound n node made)) (go h)
    where
      more : (o : Option ℕ) → IsAmong y (all_bound (binding_parts node)) → IsAmong y (here o (all_bound (binding_parts node)))
      more None k = k
      more (Some m) k = inr k

      go : (bound_of node ≡ Some y) ⊎ BindsBelow y (binding_parts node) → IsAmong y (here (bound_of node) (all_bound (binding_parts node)))
      go (inl e) = subst (λ o. IsAmong y (here o (all_bound (binding_parts node)))) (sym e) (inl refl)
      go (inr k) = more (bound_of node) (up y (binding_parts node) (two_at_most node) k)

  reached_up : (y top n : ℕ) → IsReached ns Bound top n → IsAmong y (bound n) → IsAmong y (bound top)
  reached_up y top _ Itself h = h
  reached_up y top _ (Below n node part r made one) h = reached_up y top n r (binds_up y n node made (inr (record { part = part; among = one; binds = h })))

  -- a number among these is that of a node that binds the variable
  pub record IsBinder (y : ℕ) (numbers : List ℕ) : Type 0 where
    pub number : ℕ
    pub among : IsAmong number numbers
    pub binds : Binds ns number y

  module _ (top : ℕ) (numbers : List ℕ) (reached : AreReached ns Bound top numbers) where
    binder_up : (y : ℕ) → IsBinder y numbers → IsAmong y (bound_in_item (item_at ns top))
    binder_up y h =
        let it = reached.nodes h.number h.among in
        let both : Some it.node ≡ Some h.binds.node = sym it.made.found ∙ h.binds.found in
        let same : it.node ≡ h.binds.node = cc in
        reached_up y top h.number (reached.only h.number h.among) (binds_up y h.number it.node it.made (inl (ap bound_of same ∙ h.binds.is)))

    found_below : (y k n : ℕ) → n < k → IsAmong n numbers → IsAmong y (bound n) → IsBinder y numbers
    found_below y zero n w among h = absurd (omega arith)
    found_below y (suc k) n w among h = go (binds_down y n node made h) (λ m v. found_below y k m v)
      where
        node : Node
        node = (reached.nodes n among).node

        made : IsMade ns n node
        made = (reached.nodes n among).made

        go : (bound_of node ≡ Some y) ⊎ BindsBelow y (binding_parts node) → ((m : ℕ) → m < k → IsAmong m numbers → IsAmong y (bound m) → IsBinder y numbers) → IsBinder y numbers
        go (inl e) rest = record { number = n; among = among; binds = record { node = node; found = made.found; is = e } }
        go (inr b) rest =
            let less = (are_binding_parts ns n node made.parts).earlier b.part b.among in
            rest b.part (omega (arith, less, w)) (reached.parts n node b.part among made.found b.among) b.binds

    binder_down : (y : ℕ) → IsAmong y (bound_in_item (item_at ns top)) → IsBinder y numbers
    binder_down y h = found_below y (suc top) top (omega arith) reached.has_top h

-- ---- the variables so far: those of some numbers, and the first one

module _ (ns : List Node) (x : ℕ) (numbers : List ℕ) where
  pub record AreSoFar (i : ℕ) (vs : List ℕ) : Type 0 where
    pub to : (y : ℕ) → IsAmong y vs → (y ≡ x) ⊎ IsBinder ns y (take i numbers)
    pub from : (y : ℕ) → (y ≡ x) ⊎ IsBinder ns y (take i numbers) → IsAmong y vs

  later : (i y : ℕ) → i < length numbers → IsBinder ns y (take i numbers) → IsBinder ns y (take (i + 1) numbers)
  later i y w h = record { number = h.number; among = subst (IsAmong h.number) (sym (take_more numbers i 0 w)) (among_first h.number (take i numbers) (get_or numbers i 0 ∷ []) h.among); binds = h.binds }

  last : (i y : ℕ) → i < length numbers → Binds ns (get_or numbers i 0) y → IsBinder ns y (take (i + 1) numbers)
  last i y w b = record { number = get_or numbers i 0; among = subst (IsAmong (get_or numbers i 0)) (sym (take_more numbers i 0 w)) (among_push (take i numbers) (get_or numbers i 0)); binds = b }

  earlier : (i y : ℕ) → i < length numbers → IsBinder ns y (take (i + 1) numbers) → IsBinder ns y (take i numbers) ⊎ Binds ns (get_or numbers i 0) y
  earlier i y w h = go (among_take_more h.number numbers i 0 w h.among)
    where
      go : IsAmong h.number (take i numbers) ⊎ (h.number ≡ get_or numbers i 0) → IsBinder ns y (take i numbers) ⊎ Binds ns (get_or numbers i 0) y
      go (inl a) = inl (record { number = h.number; among = a; binds = h.binds })
      go (inr e) = inr (subst (λ n. Binds ns n y) e h.binds)

  pub so_far_begun : (vs : List ℕ) → vs ≡ x ∷ [] → AreSoFar 0 vs
  so_far_begun vs e = subst (AreSoFar 0) (sym e) (record { to = to; from = from })
    where
      to : (y : ℕ) → IsAmong y (x ∷ []) → (y ≡ x) ⊎ IsBinder ns y []
      to y (inl f) = inl f
      to y (inr z) = absurd z

      from : (y : ℕ) → (y ≡ x) ⊎ IsBinder ns y [] → IsAmong y (x ∷ [])
      from y (inl f) = inl f
      from y (inr h) = absurd h.among

  pub so_far_none : (i : ℕ) (vs : List ℕ) → i < length numbers → BindsNone ns (get_or numbers i 0) → AreSoFar i vs → AreSoFar (i + 1) vs
  so_far_none i vs w none h = record { to = λ y a. to y (h.to y a); from = λ y a. from y a }
    where
      to : (y : ℕ) → (y ≡ x) ⊎ IsBinder ns y (take i numbers) → (y ≡ x) ⊎ IsBinder ns y (take (i + 1) numbers)
      to y (inl e) = inl e
      to y (inr b) = inr (later i y w b)

      from : (y : ℕ) → (y ≡ x) ⊎ IsBinder ns y (take (i + 1) numbers) → IsAmong y vs
      from y (inl e) = h.from y (inl e)
      from y (inr b) = go (earlier i y w b)
        where
          go : IsBinder ns y (take i numbers) ⊎ Binds ns (get_or numbers i 0) y → IsAmong y vs
          go (inl k) = h.from y (inr k)
          go (inr k) = absurd (none.none y k)

  pub so_far_more : (i : ℕ) (vs us : List ℕ) (v : ℕ) → i < length numbers → us ≡ vs ++ v ∷ [] → Binds ns (get_or numbers i 0) v → AreSoFar i vs → AreSoFar (i + 1) us
  so_far_more i vs us v w e binds h = subst (AreSoFar (i + 1)) (sym e) (record { to = λ y a. to y (among_push_cases y v vs a); from = from })
    where
      to : (y : ℕ) → IsAmong y vs ⊎ (y ≡ v) → (y ≡ x) ⊎ IsBinder ns y (take (i + 1) numbers)
      to y (inl a) = go (h.to y a)
        where
          go : (y ≡ x) ⊎ IsBinder ns y (take i numbers) → (y ≡ x) ⊎ IsBinder ns y (take (i + 1) numbers)
          go (inl f) = inl f
          go (inr b) = inr (later i y w b)
      to y (inr f) = inr (last i y w (subst (Binds ns (get_or numbers i 0)) (sym f) binds))

      from : (y : ℕ) → (y ≡ x) ⊎ IsBinder ns y (take (i + 1) numbers) → IsAmong y (vs ++ v ∷ [])
      from y (inl f) = among_first y vs (v ∷ []) (h.from y (inl f))
      from y (inr b) = go (earlier i y w b)
        where
          go : IsBinder ns y (take i numbers) ⊎ Binds ns (get_or numbers i 0) y → IsAmong y (vs ++ v ∷ [])
          go (inl k) = among_first y vs (v ∷ []) (h.from y (inr k))
          go (inr k) =
              let both : Some k.node ≡ Some binds.node = sym k.found ∙ binds.found in
              let same : k.node ≡ binds.node = cc in
              let values : Some y ≡ Some v = sym k.is ∙ ap bound_of same ∙ binds.is in
              let is : y ≡ v = cc in
              among_last y vs (v ∷ []) (inl is)

  pub so_far_done : (i : ℕ) (vs : List ℕ) (body : ℕ) → sort_of (item_at ns body) ≡ FormulaSort → AreReached ns Bound body numbers → length numbers ≤ i → AreSoFar i vs → AreBound ns x body vs
  so_far_done i vs body s reached w h = record {
    all = λ y. (
      λ a. contains_among (x ∷ bound_in (formula_at ns body)) y (to y (h.to y (among_contains vs y a))),
      λ a. contains_among vs y (h.from y (from y (among_contains (x ∷ bound_in (formula_at ns body)) y a))),
    );
  }
    where
      whole : take i numbers ≡ numbers
      whole = take_all i numbers w

      to : (y : ℕ) → (y ≡ x) ⊎ IsBinder ns y (take i numbers) → IsAmong y (x ∷ bound_in (formula_at ns body))
      to y (inl e) = inl e
      to y (inr b) = inr (subst (IsAmong y) (formula_bound (item_at ns body) s) (binder_up ns body numbers reached y (subst (IsBinder ns y) whole b)))

      from : (y : ℕ) → IsAmong y (x ∷ bound_in (formula_at ns body)) → (y ≡ x) ⊎ IsBinder ns y (take i numbers)
      from y (inl e) = inl e
      from y (inr a) = inr (subst (IsBinder ns y) (sym whole) (binder_down ns body numbers reached y (subst (IsAmong y) (sym (formula_bound (item_at ns body) s)) a)))
