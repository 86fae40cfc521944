-- Free variables of an item: those of its parts, and those that a walk reaches.
use Rattle.std.proofs.Common.{◌≡◌, ◌⊎◌, inl, inr, ℕ, zero, suc, ◌<◌, ◌≤◌, Bool, true, false, not, cond, eqb, List, [], ◌∷◌, length, Some, refl, sym, ap, ◌∙◌, subst, arith}
use Rattle.std.specs.Prelude.{slice_get, ◌||◌, ◌&&◌}
use Rattle.std.proofs.lemmas.Bool.{or_cases, or_left, or_right, eqb-true, eq-eqb}
use Rattle.substitution.specs.Free.{free_in_term, free_in_terms, free_in_triggers, free_in, free_in_formulas}
use Rattle.term_pool.specs.Items.{Item, TermItem, TermsItem, TriggersItem, FormulaItem, FormulasItem, TypeItem, TypesItem, BytesItem, TermSort, TermsSort, TriggersSort, FormulaSort, FormulasSort, TypeSort, TypesSort, BytesSort, sort_of, term_in, terms_in, triggers_in, formula_in, formulas_in, leaf_item, one_item, two_item, three_item, one_part, first_of_two, second_of_two, first_of_three, second_of_three, third_of_three}
use Rattle.term_pool.specs.Pools.{item_at, IsMade}
use Rattle.term_pool.specs.declared.node.Leaf.{Leaf}
use Rattle.term_pool.specs.declared.node.Leaf.TheVariants.{Var}
use Rattle.term_pool.specs.declared.node.One.{One}
use Rattle.term_pool.specs.declared.node.One.TheVariants.{Unary, Holds, Not, Join, TypeVector, TypeShared, TypeMutable, TypeTuple, ConsByte}
use Rattle.term_pool.specs.declared.node.Two.{Two}
use Rattle.term_pool.specs.declared.node.Two.TheVariants.{Binary, Pack, Field, Compare, Is, Connect, Quantify, ConsTerm, ConsTrigger, ConsFormula, ConsType}
use Rattle.term_pool.specs.declared.node.Three.{Three}
use Rattle.term_pool.specs.declared.node.Three.TheVariants.{Ternary, SetField, If, TypeStruct}
use Rattle.term_pool.specs.declared.node.Node.{Node}
use Rattle.term_pool.specs.declared.node.Node.TheVariants.{Leaf as LeafNode, One as OneNode, Two as TwoNode, Three as ThreeNode}
use Rattle.ematching.specs.Numbers.{IsAmong}
use Rattle.ematching.specs.Walks.{free_in_item, free_parts, IsReached, Itself, Below, AreReached, IsFreeAt}
use Rattle.ematching.specs.declared.walk.Way.TheVariants.{Free}
use Rattle.ematching.proofs.WalkLemmas.{are_free_parts}

module _ (x : ℕ) where
  -- ---- items of a sort
  pub term_free : (i : Item) → sort_of i ≡ TermSort → free_in_item x i ≡ free_in_term x (term_in i)
  term_free (TermItem t) e = refl
  term_free _ e = absurd (cc)

  pub terms_free : (i : Item) → sort_of i ≡ TermsSort → free_in_item x i ≡ free_in_terms x (terms_in i)
  terms_free (TermsItem t) e = refl
  terms_free _ e = absurd (cc)

  triggers_free : (i : Item) → sort_of i ≡ TriggersSort → free_in_item x i ≡ free_in_triggers x (triggers_in i)
  triggers_free (TriggersItem t) e = refl
  triggers_free _ e = absurd (cc)

  pub formula_free : (i : Item) → sort_of i ≡ FormulaSort → free_in_item x i ≡ free_in x (formula_in i)
  formula_free (FormulaItem t) e = refl
  formula_free _ e = absurd (cc)

  formulas_free : (i : Item) → sort_of i ≡ FormulasSort → free_in_item x i ≡ free_in_formulas x (formulas_in i)
  formulas_free (FormulasItem t) e = refl
  formulas_free _ e = absurd (cc)

  type_free : (i : Item) → sort_of i ≡ TypeSort → free_in_item x i ≡ false
  type_free (TypeItem t) e = refl
  type_free _ e = absurd (cc)

  types_free : (i : Item) → sort_of i ≡ TypesSort → free_in_item x i ≡ false
  types_free (TypesItem t) e = refl
  types_free _ e = absurd (cc)

  bytes_free : (i : Item) → sort_of i ≡ BytesSort → free_in_item x i ≡ false
  bytes_free (BytesItem t) e = refl
  bytes_free _ e = absurd (cc)

  -- ---- by number
  module _ (ns : List Node) where
    abbrev free : ℕ → Bool
    free a = free_in_item x (item_at ns a)

    -- some of these parts has the variable
    pub record HasFree (ps : List ℕ) : Type 0 where
      pub part : ℕ
      pub among : IsAmong part ps
      pub free : free_in_item x (item_at ns part) ≡ true

    abbrev any : List ℕ → Bool
    any [] = false
    any (a ∷ []) = free a
    any (a ∷ b ∷ []) = free a || free b
    any (a ∷ b ∷ c ∷ []) = free a || (free b || free c)
    any _ = false

    one_of : (a : ℕ) → free a ≡ true → HasFree (a ∷ [])
    one_of a e = record { part = a; among = inl refl; free = e }

    two_of : (a b : ℕ) → (free a || free b) ≡ true → HasFree (a ∷ b ∷ [])
    two_of a b e = go (or_cases (free a) (free b) e)
      where
        go : (free a ≡ true) ⊎ (free b ≡ true) → HasFree (a ∷ b ∷ [])
        go (inl h) = record { part = a; among = inl refl; free = h }
        go (inr h) = record { part = b; among = inr (inl refl); free = h }

    three_of : (a b c : ℕ) → (free a || (free b || free c)) ≡ true → HasFree (a ∷ b ∷ c ∷ [])
    three_of a b c e = go (or_cases (free a) (free b || free c) e)
      where
        go : (free a ≡ true) ⊎ ((free b || free c) ≡ true) → HasFree (a ∷ b ∷ c ∷ [])
        go (inl h) = record { part = a; among = inl refl; free = h }
        go (inr h) = (let rest = two_of b c h in record { part = rest.part; among = inr rest.among; free = rest.free })

    -- if the variable is free in some part, it is free in the whole
    by_two : (a b : ℕ) → HasFree (a ∷ b ∷ []) → (free a || free b) ≡ true
    by_two a b h = go h.among
      where
        go : IsAmong h.part (a ∷ b ∷ []) → (free a || free b) ≡ true
        go (inl e) = or_left (free a) (free b) (ap free (sym e) ∙ h.free)
        go (inr (inl e)) = or_right (free a) (free b) (ap free (sym e) ∙ h.free)
        go (inr (inr z)) = absurd z

    by_one : (a : ℕ) → HasFree (a ∷ []) → free a ≡ true
    by_one a h = go h.among
      where
        go : IsAmong h.part (a ∷ []) → free a ≡ true
        go (inl e) = ap free (sym e) ∙ h.free
        go (inr z) = absurd z

    by_three : (a b c : ℕ) → HasFree (a ∷ b ∷ c ∷ []) → (free a || (free b || free c)) ≡ true
    by_three a b c h = go h.among
      where
        go : IsAmong h.part (a ∷ b ∷ c ∷ []) → (free a || (free b || free c)) ≡ true
        go (inl e) = or_left (free a) (free b || free c) (ap free (sym e) ∙ h.free)
        go (inr e) = or_right (free a) (free b || free c) (by_two b c (record { part = h.part; among = e; free = h.free }))

    -- ---- a node is as free as its parts
    one_item_free : (h : One) (a : ℕ) → sort_of (item_at ns a) ≡ one_part h → free_in_item x (one_item h (item_at ns a)) ≡ free a
    one_item_free (Unary o) a e = sym (term_free (item_at ns a) e)
    one_item_free Holds a e = sym (term_free (item_at ns a) e)
    one_item_free Not a e = sym (formula_free (item_at ns a) e)
    one_item_free (Join o) a e = sym (formulas_free (item_at ns a) e)
    one_item_free TypeVector a e = sym (type_free (item_at ns a) e)
    one_item_free TypeShared a e = sym (type_free (item_at ns a) e)
    one_item_free TypeMutable a e = sym (type_free (item_at ns a) e)
    one_item_free TypeTuple a e = sym (types_free (item_at ns a) e)
    one_item_free (ConsByte k) a e = sym (bytes_free (item_at ns a) e)

    neither : (a b : ℕ) → free a ≡ false → free b ≡ false → false ≡ (free a || free b)
    neither a b e f = λ i. (sym e i || sym f i)

    unless : (c : Bool) (p q : Bool) (a b : ℕ) → free a ≡ p → free b ≡ q → any (cond c [] (a ∷ b ∷ [])) ≡ (not c && (p || q))
    unless true p q a b e f = refl
    unless false p q a b e f = λ i. (e i || f i)

    two_item_free : (h : Two) (a b : ℕ) → sort_of (item_at ns a) ≡ first_of_two h → sort_of (item_at ns b) ≡ second_of_two h → free_in_item x (two_item h (item_at ns a) (item_at ns b)) ≡ any (free_parts x (TwoNode h a b))
    two_item_free (Binary o) a b e f = λ i. (sym (term_free (item_at ns a) e) i || sym (term_free (item_at ns b) f) i)
    two_item_free Pack a b e f = sym (terms_free (item_at ns b) f)
    two_item_free (Field k) a b e f = sym (term_free (item_at ns b) f)
    two_item_free (Compare o) a b e f = λ i. (sym (term_free (item_at ns a) e) i || sym (term_free (item_at ns b) f) i)
    two_item_free Is a b e f = sym (term_free (item_at ns b) f)
    two_item_free (Connect o) a b e f = λ i. (sym (formula_free (item_at ns a) e) i || sym (formula_free (item_at ns b) f) i)
    two_item_free (Quantify o n) a b e f = sym (unless (eqb x n) (free_in_triggers x (triggers_in (item_at ns a))) (free_in x (formula_in (item_at ns b))) a b (triggers_free (item_at ns a) e) (formula_free (item_at ns b) f))
    two_item_free ConsTerm a b e f = λ i. (sym (term_free (item_at ns a) e) i || sym (terms_free (item_at ns b) f) i)
    two_item_free ConsTrigger a b e f = λ i. (sym (terms_free (item_at ns a) e) i || sym (triggers_free (item_at ns b) f) i)
    two_item_free ConsFormula a b e f = λ i. (sym (formula_free (item_at ns a) e) i || sym (formulas_free (item_at ns b) f) i)
    two_item_free ConsType a b e f = neither a b (type_free (item_at ns a) e) (types_free (item_at ns b) f)

    three_item_free : (h : Three) (a b c : ℕ) → sort_of (item_at ns a) ≡ first_of_three h → sort_of (item_at ns b) ≡ second_of_three h → sort_of (item_at ns c) ≡ third_of_three h → free_in_item x (three_item h (item_at ns a) (item_at ns b) (item_at ns c)) ≡ any (free_parts x (ThreeNode h a b c))
    three_item_free (Ternary o) a b c e f g = λ i. (sym (term_free (item_at ns a) e) i || (sym (term_free (item_at ns b) f) i || sym (term_free (item_at ns c) g) i))
    three_item_free (SetField k) a b c e f g = λ i. (sym (term_free (item_at ns b) f) i || sym (term_free (item_at ns c) g) i)
    three_item_free If a b c e f g = λ i. (sym (formula_free (item_at ns a) e) i || (sym (term_free (item_at ns b) f) i || sym (term_free (item_at ns c) g) i))
    three_item_free (TypeStruct k) a b c e f g = λ i. (sym (bytes_free (item_at ns a) e) i || (sym (bytes_free (item_at ns b) f) i || sym (types_free (item_at ns c) g) i))

    leaf_free : (h : Leaf) → free_in_item x (leaf_item h) ≡ true → h ≡ Var x
    leaf_free (Var n) e = ap Var (sym (eqb-true x n e))
    leaf_free _ e = absurd (cc)

    -- ---- from a node to its parts and back

    from_any : (ps : List ℕ) → any ps ≡ true → HasFree ps
    from_any [] e = absurd (cc)
    from_any (a ∷ []) e = one_of a e
    from_any (a ∷ b ∷ []) e = two_of a b e
    from_any (a ∷ b ∷ c ∷ []) e = three_of a b c e
    from_any (a ∷ b ∷ c ∷ d ∷ ps) e = absurd (cc)

    to_any : (ps : List ℕ) → length ps ≤ 3 → HasFree ps → any ps ≡ true
    to_any [] w h = absurd h.among
    to_any (a ∷ []) w h = by_one a h
    to_any (a ∷ b ∷ []) w h = by_two a b h
    to_any (a ∷ b ∷ c ∷ []) w h = by_three a b c h
    to_any (a ∷ b ∷ c ∷ d ∷ ps) w h = absurd (omega arith)

    node_free : (n : ℕ) (node : Node) → IsMade ns n node → (node ≡ LeafNode (Var x)) ⊎ (free n ≡ any (free_parts x node))
    node_free n (LeafNode h) made = go (free n) refl
      where
        go : (c : Bool) → free n ≡ c → (LeafNode h ≡ LeafNode (Var x)) ⊎ (free n ≡ false)
        go true e = inl (ap LeafNode (leaf_free h (ap (free_in_item x) (sym made.item) ∙ e)))
        go false e = inr e
    node_free n (OneNode h a) made = inr (ap (free_in_item x) made.item ∙ one_item_free h a made.parts.sort)
    node_free n (TwoNode h a b) made = inr (ap (free_in_item x) made.item ∙ two_item_free h a b made.parts.0.sort made.parts.1.sort)
    node_free n (ThreeNode h a b c) made = inr (ap (free_in_item x) made.item ∙ three_item_free h a b c made.parts.0.sort made.parts.1.sort made.parts.2.sort)

    pub free_down : (n : ℕ) (node : Node) → IsMade ns n node → free_in_item x (item_at ns n) ≡ true → (node ≡ LeafNode (Var x)) ⊎ HasFree (free_parts x node)
    free_down n node made e = go (node_free n node made)
      where
        go : (node ≡ LeafNode (Var x)) ⊎ (free n ≡ any (free_parts x node)) → (node ≡ LeafNode (Var x)) ⊎ HasFree (free_parts x node)
        go (inl h) = inl h
        go (inr h) = inr (from_any (free_parts x node) (sym h ∙ e))

    variable_free : (n : ℕ) → IsMade ns n (LeafNode (Var x)) → free n ≡ true
    variable_free n made = ap (free_in_item x) made.item ∙ eq-eqb x x refl

    pub free_up : (n : ℕ) (node : Node) → IsMade ns n node → HasFree (free_parts x node) → free_in_item x (item_at ns n) ≡ true
    free_up n node made h = go (node_free n node made)
      where
        go : (node ≡ LeafNode (Var x)) ⊎ (free n ≡ any (free_parts x node)) → free n ≡ true
        go (inl e) = variable_free n (subst (IsMade ns n) e made)
        go (inr e) = e ∙ to_any (free_parts x node) (are_free_parts ns x n node made.parts).few h

    -- ---- reached numbers

    pub reached_up : (top n : ℕ) → IsReached ns (Free x) top n → free_in_item x (item_at ns n) ≡ true → free_in_item x (item_at ns top) ≡ true
    reached_up top _ Itself e = e
    reached_up top _ (Below n node part r made one) e = reached_up top n r (free_up n node made (record { part = part; among = one; free = e }))

    pub variable_reached : (top n : ℕ) → IsReached ns (Free x) top n → IsMade ns n (LeafNode (Var x)) → free_in_item x (item_at ns top) ≡ true
    variable_reached top n r made = reached_up top n r (variable_free n made)

    -- the number of the variable, among these
    pub record HasVariable (numbers : List ℕ) : Type 0 where
      pub number : ℕ
      pub among : IsAmong number numbers
      pub is : slice_get ns number ≡ Some (LeafNode (Var x))

    module _ (top : ℕ) (numbers : List ℕ) (reached : AreReached ns (Free x) top numbers) where
      found_below : (k n : ℕ) → n < k → IsAmong n numbers → free n ≡ true → HasVariable numbers
      found_below zero n w among e = absurd (omega arith)
      found_below (suc k) n w among e = go (free_down n node made e) (λ m v. found_below k m v)
        where
          node : Node
          node = (reached.nodes n among).node

          made : IsMade ns n node
          made = (reached.nodes n among).made

          go : (node ≡ LeafNode (Var x)) ⊎ HasFree (free_parts x node) → ((m : ℕ) → m < k → IsAmong m numbers → free m ≡ true → HasVariable numbers) → HasVariable numbers
          go (inl is) rest = record { number = n; among = among; is = made.found ∙ ap Some is }
          go (inr h) rest =
              let less = (are_free_parts ns x n node made.parts).earlier h.part h.among in
              rest h.part (omega (arith, less, w)) (reached.parts n node h.part among made.found h.among) h.free

      pub has_variable : free_in_item x (item_at ns top) ≡ true → HasVariable numbers
      has_variable e = found_below (suc top) top (omega arith) reached.has_top e

      pub not_free : ((n : ℕ) → IsAmong n numbers → slice_get ns n ≡ Some (LeafNode (Var x)) → ⊥) → free_in_item x (item_at ns top) ≡ false
      not_free none = go (free top) refl
        where
          go : (b : Bool) → free top ≡ b → free top ≡ false
          go true e = (let h = has_variable e in absurd (none h.number h.among h.is))
          go false e = e

      pub is_free_at : (n : ℕ) → IsAmong n numbers → slice_get ns n ≡ Some (LeafNode (Var x)) → IsFreeAt ns x top n
      is_free_at n among e =
          let it = reached.nodes n among in
          let both : Some it.node ≡ Some (LeafNode (Var x)) = sym it.made.found ∙ e in
          let same : it.node ≡ LeafNode (Var x) = cc in
          let made = subst (IsMade ns n) same it.made in
          record { free = variable_reached top n (reached.only n among) made; is = made }
