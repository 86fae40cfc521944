-- The bounds of variables, one more node or entry at a time.
use Rattle.std.proofs.Common.{◌≡◌, ◌≢◌, ◌⊎◌, inl, inr, ℕ, zero, suc, ◌+◌, ◌-◌, ◌<◌, ◌≤◌, max, min, Bool, true, false, cond, List, [], ◌∷◌, ◌++◌, length, get_or, map, take, Option, Some, None, refl, sym, ap, ◌∙◌, subst, arith, length-append}
use Rattle.std.specs.Prelude.{slice_get, nat_eq, is_some}
use Rattle.std.proofs.lemmas.Bool.{cases_lt, eqb-true, eq-eqb}
use Rattle.std.proofs.lemmas.List.{get_or_append_left, get_or_push, length_push, length-take, map_push, take_all, take-take, take-append-le, take-map, get_or-take}
use Rattle.std.proofs.lemmas.Option.{get_or_from_slice_get, slice_get-get_or, slice_get-map}
use Rattle.std.specs.Option.{option_map}
use Rattle.term_pool.specs.Items.{formula_in}
use Rattle.term_pool.specs.Pools.{item_at, IsMade, Extends}
use Rattle.term_pool.specs.declared.node.Leaf.{Leaf}
use Rattle.term_pool.specs.declared.node.One.{One}
use Rattle.term_pool.specs.declared.node.Two.{Two}
use Rattle.term_pool.specs.declared.node.Three.{Three}
use Rattle.term_pool.specs.declared.node.Node.{Node}
use Rattle.term_pool.specs.declared.node.Node.TheVariants.{Leaf as LeafNode, One as OneNode, Two as TwoNode, Three as ThreeNode}
use Rattle.term_pool.proofs.ItemLemmas.{item_kept}
use Rattle.term_pool.proofs.ShapeLemmas.{a_formula}
use Rattle.certificates.specs.Names.{above, above_all}
use Rattle.certificates.specs.BranchesBranch.{Entry, formulas}
use Rattle.certificates.specs.Due.{IsNamed}
use Rattle.certificates.specs.declared.branches.origin.Origin.{Origin}
use Rattle.certificates.specs.declared.branches.origin.Origin.TheVariants.{Name, Other}
use Rattle.tableau.specs.Logs.{value_after, value_in, change_of}
use Rattle.tableau.specs.PoolBranches.{BranchData, entry_in, IsFormulaNumber, IsOver}
use Rattle.tableau.specs.declared.entry.PoolEntry.{PoolEntry}
use Rattle.tableau.specs.declared.log.Change.{Change}
use Rattle.tableau.proofs.AnswerLemmas.{stored, pure_entry}
use Rattle.tableau.specs.Numbers.{formula_at}
use Rattle.tableau.specs.Variables.{above_item, above_own, above_entries, AreNodesAbove, IsNextAbove, AreEntriesAbove, name_key, key_of, number_of, AreNames, VariablesData, AreAbove}
use Rattle.tableau.proofs.NamesListLemmas.{take_found}
use Rattle.tableau.proofs.AboveLemmas.{above_push}
use Rattle.tableau.proofs.ItemLemmas.{leaf_above, one_above, two_above, three_above}

-- ---- nodes

module _ (ns : List Node) where
  pub nodes_more : (xs ys : List ℕ) (n : ℕ) → ys ≡ xs ++ n ∷ [] → IsNextAbove ns xs n → AreNodesAbove ns xs → AreNodesAbove ns ys
  nodes_more xs ys n e next h = subst (AreNodesAbove ns) (sym e) (record {
    few = (let w = next.within in omega (arith, w, length_push xs n));
    each = λ i w. each i w (cases_lt i (length xs));
  })
    where
      each : (i : ℕ) → i < length (xs ++ n ∷ []) → (i < length xs) ⊎ (length xs ≤ i) → get_or (xs ++ n ∷ []) i 0 ≡ above_item (item_at ns i)
      each i w (inl l) = get_or_append_left xs (n ∷ []) 0 i l ∙ h.each i l
      each i w (inr l) =
          let last : i ≡ length xs = omega (arith, w, l, length_push xs n) in
          ap (λ k. get_or (xs ++ n ∷ []) k 0) last ∙ get_or_push xs n 0 (length xs) refl ∙ next.is ∙ ap (λ k. above_item (item_at ns k)) (sym last)

  module _ (xs : List ℕ) (h : AreNodesAbove ns xs) where
    -- a number that is read
    pub node_read : (i n : ℕ) → i < length xs → n ≡ get_or xs i n → n ≡ above_item (item_at ns i)
    node_read i n w e = e ∙ default i n w ∙ h.each i w
      where
        default : (i n : ℕ) → i < length xs → get_or xs i n ≡ get_or xs i 0
        default i n w = get_or_from_slice_get xs i (get_or xs i 0) n (slice_get-get_or xs i 0 w)

    pub leaf_next : (k : Leaf) (n : ℕ) → length xs < length ns → IsMade ns (length xs) (LeafNode k) → n ≡ above_own (LeafNode k) → IsNextAbove ns xs n
    leaf_next k n w made e = record { within = w; is = e ∙ sym (ap above_item made.item ∙ leaf_above k) }

    pub one_next : (k : One) (a n : ℕ) → length xs < length ns → IsMade ns (length xs) (OneNode k a) → n ≡ above_item (item_at ns a) → IsNextAbove ns xs n
    one_next k a n w made e = record { within = w; is = e ∙ sym (ap above_item made.item ∙ one_above k (item_at ns a) made.parts.sort) }

    pub two_next : (k : Two) (a b n l r : ℕ) → length xs < length ns → IsMade ns (length xs) (TwoNode k a b) → l ≡ above_item (item_at ns a) → r ≡ above_item (item_at ns b) → n ≡ max (max (above_own (TwoNode k a b)) l) r → IsNextAbove ns xs n
    two_next k a b n l r w made p q e = record {
      within = w;
      is = e ∙ (λ i. max (max (above_own (TwoNode k a b)) (p i)) (q i)) ∙ sym (ap above_item made.item ∙ two_above k a b (item_at ns a) (item_at ns b) made.parts.0.sort made.parts.1.sort);
    }

    pub three_next : (k : Three) (a b c n l m r : ℕ) → length xs < length ns → IsMade ns (length xs) (ThreeNode k a b c) → l ≡ above_item (item_at ns a) → m ≡ above_item (item_at ns b) → r ≡ above_item (item_at ns c) → n ≡ max (max l m) r → IsNextAbove ns xs n
    three_next k a b c n l m r w made p q s e = record {
      within = w;
      is = e ∙ (λ i. max (max (p i) (q i)) (s i)) ∙ sym (ap above_item made.item ∙ three_above k (item_at ns a) (item_at ns b) (item_at ns c) made.parts.0.sort made.parts.1.sort made.parts.2.sort);
    }

pub nodes_grown : (ns ms : List Node) → Extends ns ms → (xs : List ℕ) → AreNodesAbove ns xs → AreNodesAbove ms xs
nodes_grown ns ms grown xs h = record {
  few = (let l = ap length grown.is in let f = h.few in omega (arith, l, f, length-append ns grown.more));
  each = λ i w. h.each i w ∙ ap above_item (sym (item_kept ns ms grown i (let f = h.few in omega (arith, f, w))));
}

-- ---- entries

module _ (ns : List Node) where
  above_more : (es : List PoolEntry) (e : PoolEntry) → above_entries ns (es ++ e ∷ []) ≡ max (above_entries ns es) (above (formula_at ns e.formula))
  above_more es e = ap (λ b. above_all (formulas b)) (map_push (entry_in ns) es e) ∙ above_push (map (entry_in ns) es) (entry_in ns e)

  above_formula : (n : ℕ) → IsFormulaNumber ns n → above_item (item_at ns n) ≡ above (formula_at ns n)
  above_formula n h = ap above_item (sym (a_formula (item_at ns n) h.sort))

  -- the number above the first entries and one more
  pub above_next : (es : List PoolEntry) (k : ℕ) (e : PoolEntry) (n m r : ℕ) → slice_get es k ≡ Some e → IsFormulaNumber ns e.formula → n ≡ above_entries ns (take k es) → r ≡ above_item (item_at ns e.formula) → m ≡ max n r → m ≡ above_entries ns (take (k + 1) es)
  above_next es k e n m r found number p q is =
      is ∙ (λ i. max (p i) ((q ∙ above_formula e.formula number) i)) ∙ sym (ap (above_entries ns) (take_found es k e found) ∙ above_more (take k es) e)

  pub entries_more : (es : List PoolEntry) (xs ys : List ℕ) (n : ℕ) → ys ≡ xs ++ n ∷ [] → length xs < length es → n ≡ above_entries ns (take (length xs + 1) es) → AreEntriesAbove ns es xs → AreEntriesAbove ns es ys
  entries_more es xs ys n e within is h = subst (AreEntriesAbove ns es) (sym e) (record {
    few = omega (arith, within, length_push xs n);
    each = λ i w. each i w (cases_lt i (length xs));
  })
    where
      each : (i : ℕ) → i < length (xs ++ n ∷ []) → (i < length xs) ⊎ (length xs ≤ i) → get_or (xs ++ n ∷ []) i 0 ≡ above_entries ns (take (i + 1) es)
      each i w (inl l) = get_or_append_left xs (n ∷ []) 0 i l ∙ h.each i l
      each i w (inr l) =
          let last : i ≡ length xs = omega (arith, w, l, length_push xs n) in
          ap (λ k. get_or (xs ++ n ∷ []) k 0) last ∙ get_or_push xs n 0 (length xs) refl ∙ is ∙ ap (λ k. above_entries ns (take (k + 1) es)) (sym last)

  -- the last number
  pub last_above : (es : List PoolEntry) (xs : List ℕ) (n : ℕ) → n ≡ get_or xs (length xs - 1) 0 → AreEntriesAbove ns es xs → n ≡ above_entries ns (take (length xs) es)
  last_above es [] n e h = e
  last_above es (x ∷ xs) n e h =
      let k : length (x ∷ xs) - 1 + 1 ≡ length (x ∷ xs) = omega arith in
      e ∙ h.each (length (x ∷ xs) - 1) (omega arith) ∙ ap (λ j. above_entries ns (take j es)) k

  pub entries_cut : (es : List PoolEntry) (xs : List ℕ) (count : ℕ) → AreEntriesAbove ns es xs → AreEntriesAbove ns (take count es) (take count xs)
  entries_cut es xs count h = record {
    few = (let f = h.few in omega (arith, f, length-take count xs, length-take count es));
    each = λ i w. (let l : i < length xs = omega (arith, w, length-take count xs) in let c : i < count = omega (arith, w, length-take count xs) in get_or-take count xs i 0 c ∙ h.each i l ∙ ap (above_entries ns) (sym (take-take (i + 1) count es (omega (arith, c)))));
  }

  pub entries_longer : (es more : List PoolEntry) (xs : List ℕ) → AreEntriesAbove ns es xs → AreEntriesAbove ns (es ++ more) xs
  entries_longer es more xs h = record {
    few = (let f = h.few in omega (arith, f, length-append es more));
    each = λ i w. h.each i w ∙ ap (above_entries ns) (sym (take-append-le (i + 1) es more (let f = h.few in omega (arith, f, w))));
  }

module _ (ns ms : List Node) (grown : Extends ns ms) where
  same_entry : (e : PoolEntry) → IsFormulaNumber ns e.formula → entry_in ms e ≡ entry_in ns e
  same_entry e h = λ i. record { formula = formula_in (item_kept ns ms grown e.formula h.within i); generation = e.generation; origin = e.origin }

  same_entries : (k : ℕ) (es : List PoolEntry) → ((i : ℕ) (e : PoolEntry) → slice_get es i ≡ Some e → IsFormulaNumber ns e.formula) → map (entry_in ms) (take k es) ≡ map (entry_in ns) (take k es)
  same_entries zero es h = refl
  same_entries (suc k) [] h = refl
  same_entries (suc k) (e ∷ es) h =
      let first : entry_in ms e ≡ entry_in ns e = same_entry e (h 0 e refl) in
      let rest : map (entry_in ms) (take k es) ≡ map (entry_in ns) (take k es) = same_entries k es (λ i x f. h (suc i) x f) in
      λ i. first i ∷ rest i

  entries_grown : (es : List PoolEntry) → ((i : ℕ) (e : PoolEntry) → slice_get es i ≡ Some e → IsFormulaNumber ns e.formula) → (xs : List ℕ) → AreEntriesAbove ns es xs → AreEntriesAbove ms es xs
  entries_grown es numbers xs h = record {
    few = h.few;
    each = λ i w. h.each i w ∙ ap (λ b. above_all (formulas b)) (sym (same_entries (i + 1) es numbers));
  }

  pub above_grown : (d : BranchData) → IsOver ns d → (v : VariablesData) → AreAbove ns d.entries v → AreAbove ms d.entries v
  above_grown d over v h = record {
    nodes = nodes_grown ns ms grown v.nodes h.nodes;
    entries = entries_grown d.entries over.formulas v.entries h.entries;
    names = h.names;
  }

-- ---- names

names_longer : (es more : List PoolEntry) (count : ℕ) (cs : List Change) → count ≤ length es → AreNames es count cs → AreNames (es ++ more) count cs
names_longer es more count cs w h = record { are = h.are ∙ ap (map key_of) (sym (take-append-le count es more w)) }

pub above_longer : (ns : List Node) (es more : List PoolEntry) (v : VariablesData) → AreAbove ns es v → AreAbove ns (es ++ more) v
above_longer ns es more v h = record {
  nodes = h.nodes;
  entries = entries_longer ns es more v.entries h.entries;
  names = names_longer es more (length v.entries) v.names h.entries.few h.names;
}

-- a prefix of a prefix is the shorter prefix
take_turned : {X : Type 0} (m n k : ℕ) (xs : List X) → k ≡ min m n → take m (take n xs) ≡ take k (take m xs)
take_turned m n k xs e = go (cases_lt m n)
  where
    go : (m < n) ⊎ (n ≤ m) → take m (take n xs) ≡ take k (take m xs)
    go (inl w) =
        let is : k ≡ m = omega (arith, e, w) in
        take-take m n xs (omega (arith, w)) ∙ sym (take-take m m xs (omega arith)) ∙ ap (λ j. take j (take m xs)) (sym is)
    go (inr w) =
        let is : k ≡ n = omega (arith, e, w) in
        take_all m (take n xs) (omega (arith, w, length-take n xs)) ∙ sym (take-take n m xs w) ∙ ap (λ j. take j (take m xs)) (sym is)

pub above_cut : (ns : List Node) (es : List PoolEntry) (count : ℕ) (xs ys zs : List ℕ) (cs ds : List Change) → ys ≡ take count xs → ds ≡ take count cs → AreAbove ns es (record { nodes = zs; entries = xs; names = cs }) → AreAbove ns (take count es) (record { nodes = zs; entries = ys; names = ds })
above_cut ns es count xs ys zs cs ds e f h =
    let long : length ys ≡ min count (length xs) = ap length e ∙ length-take count xs in
    record {
      nodes = h.nodes;
      entries = subst (AreEntriesAbove ns (take count es)) (sym e) (entries_cut ns es xs count h.entries);
      names = record {
        are = ap (map number_of) f ∙ sym (take-map number_of count cs) ∙ ap (take count) h.names.are ∙ take-map key_of count (take (length xs) es) ∙ ap (map key_of) (take_turned count (length xs) (length ys) es long);
      };
    }

pub names_more : (es : List PoolEntry) (count : ℕ) (e : PoolEntry) (cs ds : List Change) (value key after : ℕ) → slice_get es count ≡ Some e → AreNames es count cs → key ≡ key_of e → ds ≡ cs ++ change_of cs key value ∷ [] → after ≡ count + 1 → AreNames es after ds
names_more es count e cs ds value key after found h k is a = record {
  are =
      ap (map number_of) is
      ∙ map_push number_of cs (change_of cs key value)
      ∙ (λ i. h.are i ++ k i ∷ [])
      ∙ sym (map_push key_of (take count es) e)
      ∙ ap (map key_of) (sym (take_found es count e found))
      ∙ ap (λ n. map key_of (take n es)) (sym a);
}

-- once a number has a value, it keeps one
keeps_value : (x : ℕ) (cs : List Change) (n : ℕ) → value_after (Some x) cs n ≡ None → ⊥
keeps_value x [] n h = absurd (cc)
keeps_value x (c ∷ cs) n h = go (nat_eq c.number n) h (keeps_value c.value cs n) (keeps_value x cs n)
  where
    go : (b : Bool) → value_after (cond b (Some c.value) (Some x)) cs n ≡ None → (value_after (Some c.value) cs n ≡ None → ⊥) → (value_after (Some x) cs n ≡ None → ⊥) → ⊥
    go true e f g = f e
    go false e f g = g e

-- a number without a value was never changed
unchanged : (v : Option ℕ) (cs : List Change) (n : ℕ) → value_after v cs n ≡ None → (k : ℕ) (m : ℕ) → slice_get (map number_of cs) k ≡ Some m → m ≢ n
unchanged v [] n h k m f = absurd (cc)
unchanged v (c ∷ cs) n h zero m f = λ e. (let same : c.number ≡ m = cc in keeps_value c.value cs n (subst (λ b. value_after (cond b (Some c.value) v) cs n ≡ None) (eq-eqb c.number n (same ∙ e)) h))
unchanged v (c ∷ cs) n h (suc k) m f = unchanged (cond (nat_eq c.number n) (Some c.value) v) cs n h k m f

-- a number with a value was changed
record IsChanged (ms : List ℕ) (n : ℕ) : Type 0 where
  position : ℕ
  found : slice_get ms position ≡ Some n

changed : (cs : List Change) (n x : ℕ) → value_after None cs n ≡ Some x → IsChanged (map number_of cs) n
changed [] n x h = absurd (cc)
changed (c ∷ cs) n x h = go (nat_eq c.number n) refl h (changed cs n x)
  where
    go : (b : Bool) → nat_eq c.number n ≡ b → value_after (cond b (Some c.value) None) cs n ≡ Some x → (value_after None cs n ≡ Some x → IsChanged (map number_of cs) n) → IsChanged (map number_of (c ∷ cs)) n
    go true e g rest = record { position = 0; found = ap Some (eqb-true c.number n e) }
    go false e g rest = record { position = suc (rest g).position; found = (rest g).found }

name_from_key : (o : Origin) (i : ℕ) → name_key o ≡ suc i → o ≡ Name i
name_from_key (Name j) i e = ap Name (omega (arith, e))
name_from_key Other i e = absurd (omega (arith, e))

module _ (ns : List Node) (es : List PoolEntry) (v : VariablesData) (h : AreAbove ns es v) (all : length es ≤ length v.entries) (i : ℕ) where
  keys : map number_of v.names ≡ map key_of es
  keys = h.names.are ∙ ap (map key_of) (take_all (length v.entries) es all)

  pub has_name : (x : ℕ) → value_in v.names (suc i) ≡ Some x → IsNamed (map (entry_in ns) es) i
  has_name x e = go (slice_get es c.position) refl
    where
      c : IsChanged (map number_of v.names) (suc i)
      c = changed v.names (suc i) x e

      found : option_map key_of (slice_get es c.position) ≡ Some (suc i)
      found = sym (slice_get-map key_of es c.position) ∙ ap (λ ms. slice_get ms c.position) (sym keys) ∙ c.found

      go : (o : Option PoolEntry) → slice_get es c.position ≡ o → IsNamed (map (entry_in ns) es) i
      go None f = (let both : None ≡ Some (suc i) = ap (option_map key_of) (sym f) ∙ found in absurd (cc))
      go (Some s) f =
          let same : Some (key_of s) ≡ Some (suc i) = ap (option_map key_of) (sym f) ∙ found in
          let key : key_of s ≡ suc i = cc in
          record { position = c.position; entry = entry_in ns s; found = pure_entry ns es c.position s f; names = name_from_key s.origin i key }

  pub has_no_name : value_in v.names (suc i) ≡ None → IsNamed (map (entry_in ns) es) i → ⊥
  has_no_name e named =
      let it = stored ns es named.position named.entry named.found in
      let origin : it.entry.origin ≡ Name i = ap (λ (x : Entry). x.origin) it.is ∙ named.names in
      let found : slice_get (map number_of v.names) named.position ≡ Some (key_of it.entry) = ap (λ ms. slice_get ms named.position) keys ∙ slice_get-map key_of es named.position ∙ ap (option_map key_of) it.found in
      unchanged None v.names (suc i) e named.position (key_of it.entry) found (ap name_key origin)

pub named_iff : (ns : List Node) (es : List PoolEntry) (v : VariablesData) → AreAbove ns es v → length es ≤ length v.entries → (i : ℕ) (o : Option ℕ) (r : Bool) → o ≡ value_in v.names (i + 1) → r ≡ is_some o → (r ≡ true → IsNamed (map (entry_in ns) es) i) × (IsNamed (map (entry_in ns) es) i → r ≡ true)
named_iff ns es v h all i None r e f = (
  λ t. (let both : true ≡ false = sym t ∙ f in absurd (cc)),
  λ named. absurd (has_no_name ns es v h all i (ap (value_in v.names) (omega arith) ∙ sym e) named),
)
named_iff ns es v h all i (Some x) r e f = (λ t. has_name ns es v h all i x (ap (value_in v.names) (omega arith) ∙ sym e), λ named. f)
