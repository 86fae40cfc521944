-- Marks of what occurs in the entries of a branch: what occurs in a marked item is marked.
use Rattle.std.proofs.Common.{◌≡◌, ◌≢◌, ◌↔◌, ◌⊎◌, inl, inr, ℕ, zero, suc, ◌+◌, ◌<◌, ◌≤◌, Bool, true, false, IsTrue, List, [], ◌∷◌, ◌++◌, length, get_or, set, replicate, Some, None, refl, sym, ap, ◌∙◌, subst, arith, get_or-set_same, get_or-set_other}
use Rattle.std.specs.Prelude.{slice_get}
use Rattle.std.proofs.lemmas.Bool.{cases_lt, cases_eq}
use Rattle.std.proofs.lemmas.List.{get_or_default, get_or_past, get_or-replicate, length-set, length-replicate}
use Rattle.std.proofs.lemmas.Option.{slice_get_within, same_Some}
use Rattle.fol.specs.FormulaData.{TermData}
use Rattle.term_pool.specs.Items.{TermItem}
use Rattle.term_pool.specs.Pools.{item_at, IsMade, IsOneNumber}
use Rattle.term_pool.specs.declared.node.Node.{Node}
use Rattle.term_pool.specs.declared.node.Node.TheVariants.{Leaf as LeafNode, One as OneNode, Two as TwoNode, Three as ThreeNode}
use Rattle.term_pool.proofs.ShapeLemmas.{a_term, a_formula}
use Rattle.certificates.specs.BranchesBranch.{Branch, IsGeneration}
use Rattle.certificates.specs.Inside.{Itself, IsInside, StandsInside}
use Rattle.tableau.specs.Marks.{IsOneOf}
use Rattle.tableau.specs.PoolBranches.{BranchData, branch_in, IsTermNumber, IsOver}
use Rattle.tableau.specs.declared.entry.PoolEntry.{PoolEntry}
use Rattle.tableau.proofs.MarkLemmas.{one_of_first, one_of_last, one_of_cases}
use Rattle.tableau.proofs.AnswerLemmas.{stored}
use Rattle.tableau.specs.Numbers.{formula_at}
use Rattle.tableau.proofs.EntryLemmas.{entry_says, said_is}
use Rattle.explanations.specs.Chains.{term_at}
use Rattle.step_checks.specs.Inside.{StandsInItem, parts_of, IsBelow, OfEntry, OfPart, IsMarked, MarksAlso, HasRoom, AreEntriesMarked, HasMarkedParts, IsSwept, AreInsideMarks}
use Rattle.step_checks.proofs.InsideLemmas.{in_leaf, in_one_part, over_one_part, in_two_parts, over_two_parts, in_three_parts, over_three_parts, in_formula}

-- ---- marks that are set

pub marked_within : (ms : List Bool) (n : ℕ) → IsMarked ms n → n < length ms
marked_within ms n h = go (cases_lt n (length ms))
  where
    go : (n < length ms) ⊎ (length ms ≤ n) → n < length ms
    go (inl w) = w
    go (inr past) = (let none : get_or ms n false ≡ false = get_or_past ms n false past in absurd (cc))

pub none_marked : (ms : List Bool) → MarksAlso ms ms []
none_marked ms = record { as_long = refl; marked = λ n. (λ h. inl h, λ h. elim h [ inl m ↦ m | inr z ↦ absurd z ]) }

pub one_marked : (ms : List Bool) (n : ℕ) → n < length ms → MarksAlso ms (set ms n true) (n ∷ [])
one_marked ms n w = record { as_long = length-set ms n true; marked = λ k. (λ h. before k h (cases_eq k n), λ h. after k h (cases_eq k n)) }
  where
    before : (k : ℕ) → IsMarked (set ms n true) k → (k ≡ n) ⊎ (k ≢ n) → IsMarked ms k ⊎ IsOneOf k (n ∷ [])
    before k h (inl e) = inr (inl e)
    before k h (inr ne) = inl (sym (get_or-set_other ms n k true false ne) ∙ h)

    after : (k : ℕ) → IsMarked ms k ⊎ IsOneOf k (n ∷ []) → (k ≡ n) ⊎ (k ≢ n) → IsMarked (set ms n true) k
    after k h (inl e) = ap (λ i. get_or (set ms n true) i false) e ∙ get_or-set_same ms n true false w
    after k (inl h) (inr ne) = get_or-set_other ms n k true false ne ∙ h
    after k (inr (inl e)) (inr ne) = absurd (ne e)
    after k (inr (inr z)) (inr ne) = absurd z

pub marks_then : (ms ns ks : List Bool) (xs ys : List ℕ) → MarksAlso ms ns xs → MarksAlso ns ks ys → MarksAlso ms ks (xs ++ ys)
marks_then ms ns ks xs ys a b = record { as_long = b.as_long ∙ a.as_long; marked = λ n. (λ h. before n ((b.marked n).0 h), λ h. after n h) }
  where
    before : (n : ℕ) → IsMarked ns n ⊎ IsOneOf n ys → IsMarked ms n ⊎ IsOneOf n (xs ++ ys)
    before n (inl h) = elim ((a.marked n).0 h) [ inl m ↦ inl m | inr o ↦ inr (one_of_first n xs ys o) ]
    before n (inr o) = inr (one_of_last n xs ys o)

    after : (n : ℕ) → IsMarked ms n ⊎ IsOneOf n (xs ++ ys) → IsMarked ks n
    after n (inl h) = (b.marked n).1 (inl ((a.marked n).1 (inl h)))
    after n (inr o) = elim (one_of_cases n xs ys o) [ inl p ↦ (b.marked n).1 (inl ((a.marked n).1 (inr p))) | inr p ↦ (b.marked n).1 (inr p) ]

-- ---- parts

pub part_earlier : (ns : List Node) (n : ℕ) (node : Node) → IsMade ns n node → (part : ℕ) → IsOneOf part (parts_of node) → part < n
part_earlier ns n (LeafNode h) made part one = absurd one
part_earlier ns n (OneNode h a) made part (inl e) = (let l = made.parts.earlier in omega (arith, e, l))
part_earlier ns n (OneNode h a) made part (inr z) = absurd z
part_earlier ns n (TwoNode h a b) made part (inl e) = (let l = made.parts.0.earlier in omega (arith, e, l))
part_earlier ns n (TwoNode h a b) made part (inr (inl e)) = (let l = made.parts.1.earlier in omega (arith, e, l))
part_earlier ns n (TwoNode h a b) made part (inr (inr z)) = absurd z
part_earlier ns n (ThreeNode h a b c) made part (inl e) = (let l = made.parts.0.earlier in omega (arith, e, l))
part_earlier ns n (ThreeNode h a b c) made part (inr (inl e)) = (let l = made.parts.1.earlier in omega (arith, e, l))
part_earlier ns n (ThreeNode h a b c) made part (inr (inr (inl e))) = (let l = made.parts.2.earlier in omega (arith, e, l))
part_earlier ns n (ThreeNode h a b c) made part (inr (inr (inr z))) = absurd z

pub has_room : (ns : List Node) (ms : List Bool) (n : ℕ) (node : Node) → IsMade ns n node → length ms ≡ length ns → HasRoom ms node
has_room ns ms n node made e = record { each = λ part one. (let l = part_earlier ns n node made part one in let w = slice_get_within ns n node made.found in omega (arith, l, w, e)) }

record IsInPart (ns : List Node) (t : TermData) (node : Node) : Type 0 where
  part : ℕ
  one : IsOneOf part (parts_of node)
  inside : StandsInItem t (item_at ns part)

module _ (ns : List Node) (n : ℕ) (t : TermData) where
  pub stands_over : (node : Node) → IsMade ns n node → (part : ℕ) → IsOneOf part (parts_of node) → StandsInItem t (item_at ns part) → StandsInItem t (item_at ns n)
  stands_over (LeafNode h) made part one s = absurd one
  stands_over (OneNode h a) made part (inl e) s = subst (StandsInItem t) (sym made.item) (over_one_part h (item_at ns a) made.parts.sort t (subst (λ k. StandsInItem t (item_at ns k)) e s))
  stands_over (OneNode h a) made part (inr z) s = absurd z
  stands_over (TwoNode h a b) made part (inl e) s = subst (StandsInItem t) (sym made.item) (over_two_parts h (item_at ns a) (item_at ns b) made.parts.0.sort made.parts.1.sort t (inl (subst (λ k. StandsInItem t (item_at ns k)) e s)))
  stands_over (TwoNode h a b) made part (inr (inl e)) s = subst (StandsInItem t) (sym made.item) (over_two_parts h (item_at ns a) (item_at ns b) made.parts.0.sort made.parts.1.sort t (inr (subst (λ k. StandsInItem t (item_at ns k)) e s)))
  stands_over (TwoNode h a b) made part (inr (inr z)) s = absurd z
  stands_over (ThreeNode h a b c) made part (inl e) s = subst (StandsInItem t) (sym made.item) (over_three_parts h (item_at ns a) (item_at ns b) (item_at ns c) made.parts.0.sort made.parts.1.sort made.parts.2.sort t (inl (subst (λ k. StandsInItem t (item_at ns k)) e s)))
  stands_over (ThreeNode h a b c) made part (inr (inl e)) s = subst (StandsInItem t) (sym made.item) (over_three_parts h (item_at ns a) (item_at ns b) (item_at ns c) made.parts.0.sort made.parts.1.sort made.parts.2.sort t (inr (inl (subst (λ k. StandsInItem t (item_at ns k)) e s))))
  stands_over (ThreeNode h a b c) made part (inr (inr (inl e))) s = subst (StandsInItem t) (sym made.item) (over_three_parts h (item_at ns a) (item_at ns b) (item_at ns c) made.parts.0.sort made.parts.1.sort made.parts.2.sort t (inr (inr (subst (λ k. StandsInItem t (item_at ns k)) e s))))
  stands_over (ThreeNode h a b c) made part (inr (inr (inr z))) s = absurd z

  stands_in : (node : Node) → IsMade ns n node → StandsInItem t (item_at ns n) → (item_at ns n ≡ TermItem t) ⊎ IsInPart ns t node
  stands_in (LeafNode h) made s = inl (made.item ∙ in_leaf h t (subst (StandsInItem t) made.item s))
  stands_in (OneNode h a) made s = elim (in_one_part h (item_at ns a) made.parts.sort t (subst (StandsInItem t) made.item s)) [
    | inl e ↦ inl (made.item ∙ e)
    | inr p ↦ inr (record { part = a; one = inl refl; inside = p })
  ]
  stands_in (TwoNode h a b) made s = elim (in_two_parts h (item_at ns a) (item_at ns b) made.parts.0.sort made.parts.1.sort t (subst (StandsInItem t) made.item s)) [
    | inl e ↦ inl (made.item ∙ e)
    | inr (inl p) ↦ inr (record { part = a; one = inl refl; inside = p })
    | inr (inr p) ↦ inr (record { part = b; one = inr (inl refl); inside = p })
  ]
  stands_in (ThreeNode h a b c) made s = elim (in_three_parts h (item_at ns a) (item_at ns b) (item_at ns c) made.parts.0.sort made.parts.1.sort made.parts.2.sort t (subst (StandsInItem t) made.item s)) [
    | inl e ↦ inl (made.item ∙ e)
    | inr (inl p) ↦ inr (record { part = a; one = inl refl; inside = p })
    | inr (inr (inl p)) ↦ inr (record { part = b; one = inr (inl refl); inside = p })
    | inr (inr (inr p)) ↦ inr (record { part = c; one = inr (inr (inl refl)); inside = p })
  ]

-- ---- marking of entries

module _ (ns : List Node) (d : BranchData) where
  pub entries_start : (ms : List Bool) → ms ≡ replicate (length ns) false → AreEntriesMarked ns d ms 0
  entries_start ms e = record {
    as_long = ap length e ∙ length-replicate (length ns) false;
    below = λ n h. absurd (
        let w = marked_within ms n h in
        let long : length ms ≡ length ns = ap length e ∙ length-replicate (length ns) false in
        let bare : get_or ms n false ≡ false = ap (λ xs. get_or xs n false) e ∙ get_or-replicate (length ns) n false false (omega (arith, w, long)) in
        cc);
    entries = λ i e w f. absurd (omega (arith, w));
  }

  module _ (i : ℕ) where
    pub entry_marked : (ms ks : List Bool) (e : PoolEntry) → slice_get d.entries i ≡ Some e → MarksAlso ms ks (e.formula ∷ []) → AreEntriesMarked ns d ms i → AreEntriesMarked ns d ks (i + 1)
    entry_marked ms ks e found also h = record {
      as_long = also.as_long ∙ h.as_long;
      below = λ n m. elim ((also.marked n).0 m) [ inl o ↦ h.below n o | inr (inl is) ↦ OfEntry i e n found (sym is) | inr (inr z) ↦ absurd z ];
      entries = λ j f w g. entry j f w g (cases_eq j i);
    }
      where
        entry : (j : ℕ) (f : PoolEntry) → j < i + 1 → slice_get d.entries j ≡ Some f → (j ≡ i) ⊎ (j ≢ i) → IsMarked ks f.formula
        entry j f w g (inl is) =
            let same : f ≡ e = same_Some f e (sym g ∙ ap (slice_get d.entries) is ∙ found) in
            (also.marked f.formula).1 (inr (inl (ap (λ (x : PoolEntry). x.formula) same)))
        entry j f w g (inr other) = (also.marked f.formula).1 (inl (h.entries j f (omega (arith, w, other)) g))

    pub entry_past : (ms : List Bool) → slice_get d.entries i ≡ None → AreEntriesMarked ns d ms i → AreEntriesMarked ns d ms (i + 1)
    entry_past ms none h = record { as_long = h.as_long; below = h.below; entries = λ j f w g. entry j f w g (cases_eq j i) }
      where
        entry : (j : ℕ) (f : PoolEntry) → j < i + 1 → slice_get d.entries j ≡ Some f → (j ≡ i) ⊎ (j ≢ i) → IsMarked ms f.formula
        entry j f w g (inl is) = (let both : Some f ≡ None = sym g ∙ ap (slice_get d.entries) is ∙ none in absurd (cc))
        entry j f w g (inr other) = h.entries j f (omega (arith, w, other)) g

  pub entries_all : (ms : List Bool) (i : ℕ) → length d.entries ≤ i → AreEntriesMarked ns d ms i → AreEntriesMarked ns d ms (length d.entries)
  entries_all ms i w h = record { as_long = h.as_long; below = h.below; entries = λ j e v f. h.entries j e (omega (arith, v, w)) f }

  -- ---- the descending pass

  pub sweep_start : (ms : List Bool) → AreEntriesMarked ns d ms (length d.entries) → IsSwept ns d ms (length ns)
  sweep_start ms h = record {
    as_long = h.as_long;
    below = h.below;
    entries = λ i e f. h.entries i e (slice_get_within d.entries i e f) f;
    parts = λ n w m. absurd (let v = marked_within ms n m in let l = h.as_long in omega (arith, v, w, l));
  }

  module _ (ms : List Bool) (n : ℕ) (h : IsSwept ns d ms (n + 1)) where
    pub sweep_bare : get_or ms n false ≡ false → IsSwept ns d ms n
    sweep_bare bare = record { as_long = h.as_long; below = h.below; entries = h.entries; parts = λ m w s. parts m w s (cases_eq m n) }
      where
        parts : (m : ℕ) → n ≤ m → IsMarked ms m → (m ≡ n) ⊎ (m ≢ n) → HasMarkedParts ns ms m
        parts m w s (inl is) = (let same : get_or ms m false ≡ false = ap (λ k. get_or ms k false) is ∙ bare in absurd (cc))
        parts m w s (inr other) = h.parts m (omega (arith, w, other)) s

    pub sweep_marked : (ks : List Bool) (node : Node) → IsMade ns n node → IsMarked ms n → MarksAlso ms ks (parts_of node) → IsSwept ns d ks n
    sweep_marked ks node made marked also = record {
      as_long = also.as_long ∙ h.as_long;
      below = λ m s. elim ((also.marked m).0 s) [ inl o ↦ h.below m o | inr one ↦ OfPart n node m (h.below n marked) made one ];
      entries = λ i e f. (also.marked e.formula).1 (inl (h.entries i e f));
      parts = λ m w s. parts m w ((also.marked m).0 s) (cases_eq m n);
    }
      where
        parts : (m : ℕ) → n ≤ m → IsMarked ms m ⊎ IsOneOf m (parts_of node) → (m ≡ n) ⊎ (m ≢ n) → HasMarkedParts ns ks m
        parts m w s (inl is) = subst (HasMarkedParts ns ks) (sym is) (record { node = node; made = made; parts = λ part one. (also.marked part).1 (inr one) })
        parts m w (inl o) (inr other) =
            let old = h.parts m (omega (arith, w, other)) o in
            record { node = old.node; made = old.made; parts = λ part one. (also.marked part).1 (inl (old.parts part one)) }
        parts m w (inr one) (inr other) = absurd (let l = part_earlier ns n node made m one in omega (arith, l, w))

  -- the descending pass from its start
  pub sweep_next : (ms ks : List Bool) (rest next : ℕ) → rest ≡ next + 1 → (IsSwept ns d ms (next + 1) → IsSwept ns d ks next) → IsSwept ns d ms rest → IsSwept ns d ks next
  sweep_next ms ks rest next e step h = step (subst (IsSwept ns d ms) e h)

  pub none_yet : AreInsideMarks ns d []
  none_yet = record { swept = λ w. absurd (omega (arith, w)) }

  pub now_known : (ms : List Bool) → IsSwept ns d ms 0 → AreInsideMarks ns d ms
  now_known ms h = record { swept = λ w. h }

  -- ---- the meaning of the marks

  module _ (over : IsOver ns d) (t : TermData) where
    below_inside : (n : ℕ) → IsBelow ns d n → StandsInItem t (item_at ns n) → StandsInside (branch_in ns d) t
    below_inside n (OfEntry i e _ found is) s = record {
      position = i;
      formula = formula_at ns e.formula;
      says = entry_says ns d i e found;
      inside = (
          let here : StandsInItem t (item_at ns e.formula) = subst (λ k. StandsInItem t (item_at ns k)) (sym is) s in
          subst (StandsInItem t) (sym (a_formula (item_at ns e.formula) (over.formulas i e found).sort)) here);
    }
    below_inside _ (OfPart n node part b made one) s = below_inside n b (stands_over ns n t node made part one s)

    record HasMark (ms : List Bool) : Type 0 where
      number : ℕ
      marked : IsMarked ms number
      is : item_at ns number ≡ TermItem t

    mark_in : (ms : List Bool) → IsSwept ns d ms 0 → (k n : ℕ) → n < k → IsMarked ms n → StandsInItem t (item_at ns n) → HasMark ms
    mark_in ms h zero n w m s = absurd (omega (arith, w))
    mark_in ms h (suc k) n w m s = go (h.parts n (omega arith) m) (λ p v. mark_in ms h k p v)
      where
        go : HasMarkedParts ns ms n → ((p : ℕ) → p < k → IsMarked ms p → StandsInItem t (item_at ns p) → HasMark ms) → HasMark ms
        go has rest = elim (stands_in ns n t has.node has.made s) [
          | inl is ↦ record { number = n; marked = m; is = is }
          | inr p ↦ rest p.part (let l = part_earlier ns n has.node has.made p.part p.one in omega (arith, l, w)) (has.parts p.part p.one) p.inside
        ]

    inside_mark : (ms : List Bool) → IsSwept ns d ms 0 → StandsInside (branch_in ns d) t → HasMark ms
    inside_mark ms h s =
        let it = stored ns d.entries s.position s.says.entry s.says.found in
        let formula = over.formulas s.position it.entry it.found in
        let said : s.formula ≡ formula_at ns it.entry.formula = said_is ns d s.position it.entry s.formula it.found s.says in
        let inside : StandsInItem t (item_at ns it.entry.formula) = subst (StandsInItem t) (a_formula (item_at ns it.entry.formula) formula.sort) (subst (IsInside t) said s.inside) in
        mark_in ms h (suc it.entry.formula) it.entry.formula (omega arith) (h.entries s.position it.entry it.found) inside

  -- exactly what occurs inside is marked
  pub marks_tell : IsOver ns d → IsOneNumber ns → (term : ℕ) → IsTermNumber ns term → (ms : List Bool) → IsSwept ns d ms 0 → IsTrue (get_or ms term false) ↔ StandsInside (branch_in ns d) (term_at ns term)
  marks_tell over one term is ms h = (
    λ m. below_inside over (term_at ns term) term (h.below term m) (subst (StandsInItem (term_at ns term)) (a_term (item_at ns term) is.sort) Itself),
    λ s. (
        let has = inside_mark over (term_at ns term) ms h s in
        let v = marked_within ms has.number has.marked in
        let l = h.as_long in
        let same : has.number ≡ term = one.one has.number term (omega (arith, v, l)) is.within (has.is ∙ a_term (item_at ns term) is.sort) in
        subst (IsMarked ms) same has.marked),
  )

-- the mark that is read
pub read_mark : (ns : List Node) (d : BranchData) (ms : List Bool) → IsSwept ns d ms 0 → (n : ℕ) (v : Bool) → n < length ns → v ≡ get_or ms n v → v ≡ get_or ms n false
read_mark ns d ms h n v w e =
    let l = h.as_long in
    let within : n < length ms = omega (arith, w, l) in
    e ∙ get_or_default ms n v false within

-- what has a generation occurs outside quantifiers
pub known_inside : (b : Branch) (t : TermData) (g : ℕ) → IsGeneration b t g → StandsInside b t
known_inside b t g h = record {
  position = h.holds.position;
  formula = h.holds.entry.formula;
  says = record { entry = h.holds.entry; found = h.holds.found; is = refl };
  inside = in_formula t h.holds.entry.formula h.holds.inside;
}
