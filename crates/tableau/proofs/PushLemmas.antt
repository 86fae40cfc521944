-- Branches that are extended and truncated, and pools that are extended.
use Rattle.std.proofs.Common.{◌≡◌, ◌≢◌, ◌⊎◌, inl, inr, ℕ, zero, suc, ◌+◌, ◌<◌, ◌≤◌, List, [], ◌∷◌, ◌++◌, length, get_or, map, take, Option, Some, None, refl, sym, ap, ◌∙◌, subst, arith, length-append}
use Rattle.std.specs.Prelude.{slice_get, MatchOption, unwrap_or}
use Rattle.std.proofs.lemmas.Bool.{cases_eq, cases_lt}
use Rattle.std.proofs.lemmas.List.{take_all, take-append-le, take-take, length_push, length-take, length-take-le, get_or_past, get_or_append_left, get_or_push, get_or-take, get_or_default}
use Rattle.std.proofs.lemmas.Option.{slice_get_within}
use Rattle.term_pool.specs.Items.{Item, sort_of, formula_in, one_item, two_item, three_item}
use Rattle.term_pool.specs.Pools.{item_at, item_of, items, HasParts, IsMade, Extends}
use Rattle.term_pool.specs.declared.node.Node.{Node}
use Rattle.term_pool.specs.declared.node.Node.TheVariants.{Leaf as LeafNode, One as OneNode, Two as TwoNode, Three as ThreeNode}
use Rattle.term_pool.proofs.ItemLemmas.{item_kept, parts_kept}
use Rattle.tableau.specs.Logs.{value_in, change_of}
use Rattle.tableau.specs.Marks.{outer_parts, IsOneOf, IsUnder, Itself, Below, HasAtMost, IsNode, IsClosed, IsLonger, IsMarked}
use Rattle.tableau.specs.PoolBranches.{BranchData, entry_in, branch_in, mark_at, IsFormulaNumber, IsFirstAt, IsNotAmong, AreFirsts, IsFrom, AreLeast, IsOver}
use Rattle.tableau.specs.declared.entry.PoolEntry.{PoolEntry}
use Rattle.tableau.specs.declared.log.Change.{Change}
use Rattle.tableau.proofs.ListLemmas.{push_new, push_cases, push_kept}
use Rattle.tableau.proofs.LogLemmas.{value_written, value_other}
use Rattle.tableau.proofs.AnswerLemmas.{all_firsts, all_least}

-- ---- one more entry

module _ (es : List PoolEntry) (fs : List Change) (e : PoolEntry) (first : ℕ) (is_first : first ≡ unwrap_or (value_in fs e.formula) (length es)) (firsts : AreFirsts es fs) where
  kept_first : (n i : ℕ) → IsFirstAt es n i → IsFirstAt (es ++ e ∷ []) n i
  kept_first n i h = record {
    entry = h.entry;
    found = push_kept es e i h.entry h.found;
    is = h.is;
    first = λ j other w found. go j other w (push_cases es e j other found);
  }
    where
      go : (j : ℕ) (other : PoolEntry) → j < i → (slice_get es j ≡ Some other) ⊎ ((j ≡ length es) × (other ≡ e)) → other.formula ≢ n
      go j other w (inl f) = h.first j other w f
      go j other w (inr f) = absurd (let s = slice_get_within es i h.entry h.found in let k = f.0 in omega (arith, s, k, w))

  kept_other : (n : ℕ) → e.formula ≢ n → IsNotAmong es n → IsNotAmong (es ++ e ∷ []) n
  kept_other n ne h = record { none = λ j other found. go j other (push_cases es e j other found) }
    where
      go : (j : ℕ) (other : PoolEntry) → (slice_get es j ≡ Some other) ⊎ ((j ≡ length es) × (other ≡ e)) → other.formula ≢ n
      go j other (inl f) = h.none j other f
      go j other (inr f) = λ g. ne (ap (λ (x : PoolEntry). x.formula) (sym f.1) ∙ g)

  newly : (n : ℕ) → e.formula ≡ n → IsNotAmong es n → IsFirstAt (es ++ e ∷ []) n (length es)
  newly n is h = record {
    entry = e;
    found = push_new es e;
    is = is;
    first = λ j other w found. go j other w (push_cases es e j other found);
  }
    where
      go : (j : ℕ) (other : PoolEntry) → j < length es → (slice_get es j ≡ Some other) ⊎ ((j ≡ length es) × (other ≡ e)) → other.formula ≢ n
      go j other w (inl f) = h.none j other f
      go j other w (inr f) = absurd (let k = f.0 in omega (arith, k, w))

  pub firsts_more : AreFirsts (es ++ e ∷ []) (fs ++ change_of fs e.formula first ∷ [])
  firsts_more = record { each = λ n. at n (cases_eq e.formula n) }
    where
      others : (n : ℕ) → e.formula ≢ n → (o : Option ℕ) → MatchOption o (IsNotAmong es n) (IsFirstAt es n) → MatchOption o (IsNotAmong (es ++ e ∷ []) n) (IsFirstAt (es ++ e ∷ []) n)
      others n ne None h = kept_other n ne h
      others n ne (Some i) h = kept_first n i h

      here : (o : Option ℕ) → (n : ℕ) → e.formula ≡ n → MatchOption o (IsNotAmong es n) (IsFirstAt es n) → IsFirstAt (es ++ e ∷ []) n (unwrap_or o (length es))
      here None n is h = newly n is h
      here (Some i) n is h = kept_first n i h

      at : (n : ℕ) → (e.formula ≡ n) ⊎ (e.formula ≡ n → ⊥) → MatchOption (value_in (fs ++ change_of fs e.formula first ∷ []) n) (IsNotAmong (es ++ e ∷ []) n) (IsFirstAt (es ++ e ∷ []) n)
      at n (inl is) =
          let value : value_in (fs ++ change_of fs e.formula first ∷ []) n ≡ Some first = ap (value_in (fs ++ change_of fs e.formula first ∷ [])) (sym is) ∙ value_written fs (change_of fs e.formula first) in
          let there : IsFirstAt (es ++ e ∷ []) n first = subst (IsFirstAt (es ++ e ∷ []) n) (ap (λ k. unwrap_or (value_in fs k) (length es)) (sym is) ∙ sym is_first) (here (value_in fs n) n is (firsts.each n)) in
          subst (λ o. MatchOption o (IsNotAmong (es ++ e ∷ []) n) (IsFirstAt (es ++ e ∷ []) n)) (sym value) there
      at n (inr ne) =
          subst (λ o. MatchOption o (IsNotAmong (es ++ e ∷ []) n) (IsFirstAt (es ++ e ∷ []) n)) (sym (value_other fs (change_of fs e.formula first) n ne)) (others n ne (value_in fs n) (firsts.each n))

pub least_more : (ns : List Node) (es : List PoolEntry) (e : PoolEntry) (gs hs : List Change) → AreLeast ns es gs → IsMarked ns e.formula e.generation gs hs → AreLeast ns (es ++ e ∷ []) hs
least_more ns es e gs hs least marked = record {
  closed = marked.closed;
  entries = λ i other found. entries i other (push_cases es e i other found);
  from = λ n g is. from n g (marked.only n g is);
}
  where
    entries : (i : ℕ) (other : PoolEntry) → (slice_get es i ≡ Some other) ⊎ ((i ≡ length es) × (other ≡ e)) → HasAtMost hs other.formula other.generation
    entries i other (inl f) = marked.kept other.formula other.generation (least.entries i other f)
    entries i other (inr f) = subst (λ (x : PoolEntry). HasAtMost hs x.formula x.generation) (sym f.1) marked.marked

    from : (n g : ℕ) → (value_in gs n ≡ Some g) ⊎ ((g ≡ e.generation) × IsUnder ns e.formula n) → IsFrom ns (es ++ e ∷ []) n g
    from n g (inl is) = (let old = least.from n g is in record { position = old.position; entry = old.entry; found = push_kept es e old.position old.entry old.found; under = old.under; same = old.same })
    from n g (inr new) = record { position = length es; entry = e; found = push_new es e; under = new.1; same = sym new.0 }

module _ (ns : List Node) (d : BranchData) (over : IsOver ns d) (e : PoolEntry) (formula : IsFormulaNumber ns e.formula) (first : ℕ) (is_first : first ≡ unwrap_or (value_in d.firsts e.formula) (length d.entries)) (hs : List Change) (marked : IsMarked ns e.formula e.generation d.generations hs) where
  abbrev longer : BranchData
  longer = record { entries = d.entries ++ e ∷ []; firsts = d.firsts ++ change_of d.firsts e.formula first ∷ []; marks = d.marks ++ length d.generations ∷ []; generations = hs }

  long : length (d.entries ++ e ∷ []) ≡ length d.entries + 1
  long = length_push d.entries e

  -- the counts of changes before the earlier entries, and before the new one
  same_mark : (k : ℕ) → k ≤ length d.entries → mark_at longer k ≡ mark_at d k
  same_mark k w = go (cases_lt k (length d.entries))
    where
      go : (k < length d.entries) ⊎ (length d.entries ≤ k) → mark_at longer k ≡ mark_at d k
      go (inl v) =
          let inside : k < length d.marks = (let l = over.one_mark in omega (arith, l, v)) in
          get_or_append_left d.marks (length d.generations ∷ []) (length hs) k inside ∙ get_or_default d.marks k (length hs) (length d.generations) inside
      go (inr v) =
          let here : length d.marks ≡ k = (let l = over.one_mark in omega (arith, l, v, w)) in
          get_or_push d.marks (length d.generations) (length hs) k here ∙ sym (get_or_past d.marks k (length d.generations) (omega (arith, here)))

  end_mark : (k : ℕ) → length d.entries < k → mark_at longer k ≡ length hs
  end_mark k w = get_or_past (d.marks ++ length d.generations ∷ []) k (length hs) (let l = over.one_mark in omega (arith, l, w, length_push d.marks (length d.generations)))

  no_later : (k : ℕ) → k ≤ length d.entries → mark_at d k ≤ length d.generations
  no_later k w =
      let h = over.ordered k (length d.entries) w (omega arith) in
      let last : mark_at d (length d.entries) ≡ length d.generations = get_or_past d.marks (length d.entries) (length d.generations) (let l = over.one_mark in omega (arith, l)) in
      omega (arith, h, last)

  more_changes : length d.generations ≤ length hs
  more_changes = (let l = ap length marked.longer.is in omega (arith, l, length-append d.generations marked.longer.more))

  formulas : (i : ℕ) (other : PoolEntry) → (slice_get d.entries i ≡ Some other) ⊎ ((i ≡ length d.entries) × (other ≡ e)) → IsFormulaNumber ns other.formula
  formulas i other (inl f) = over.formulas i other f
  formulas i other (inr f) = subst (λ (x : PoolEntry). IsFormulaNumber ns x.formula) (sym f.1) formula

  firsts_at : (k : ℕ) → k ≤ length d.entries + 1 → (k < length d.entries + 1) ⊎ (length d.entries + 1 ≤ k) → AreFirsts (take k (d.entries ++ e ∷ [])) (take k (d.firsts ++ change_of d.firsts e.formula first ∷ []))
  firsts_at k w (inl v) =
      subst (λ xs. AreFirsts xs (take k (d.firsts ++ change_of d.firsts e.formula first ∷ []))) (sym (take-append-le k d.entries (e ∷ []) (omega (arith, v))))
      (subst (AreFirsts (take k d.entries)) (sym (take-append-le k d.firsts (change_of d.firsts e.formula first ∷ []) (let l = over.one_first in omega (arith, l, v))))
      (over.firsts k (omega (arith, v))))
  firsts_at k w (inr v) =
      subst (λ xs. AreFirsts xs (take k (d.firsts ++ change_of d.firsts e.formula first ∷ []))) (sym (take_all k (d.entries ++ e ∷ []) (let l = long in omega (arith, l, v))))
      (subst (AreFirsts (d.entries ++ e ∷ [])) (sym (take_all k (d.firsts ++ change_of d.firsts e.formula first ∷ []) (let l = over.one_first in omega (arith, l, v, length_push d.firsts (change_of d.firsts e.formula first)))))
      (firsts_more d.entries d.firsts e first is_first (all_firsts ns d over)))

  ordered_at : (j k : ℕ) → j ≤ k → (j < length d.entries + 1) ⊎ (length d.entries + 1 ≤ j) → (k < length d.entries + 1) ⊎ (length d.entries + 1 ≤ k) → mark_at longer j ≤ mark_at longer k
  ordered_at j k w (inl u) (inl v) = (let a = same_mark j (omega (arith, u)) in let b = same_mark k (omega (arith, v)) in let c = over.ordered j k w (omega (arith, v)) in omega (arith, a, b, c))
  ordered_at j k w (inl u) (inr v) = (let a = same_mark j (omega (arith, u)) in let b = end_mark k (omega (arith, v)) in let c = no_later j (omega (arith, u)) in let m = more_changes in omega (arith, a, b, c, m))
  ordered_at j k w (inr u) v = (let a = end_mark j (omega (arith, u)) in let b = end_mark k (omega (arith, u, w)) in omega (arith, a, b))

  least_at : (k : ℕ) → (k < length d.entries + 1) ⊎ (length d.entries + 1 ≤ k) → AreLeast ns (take k (d.entries ++ e ∷ [])) (take (mark_at longer k) hs)
  least_at k (inl v) =
      let whole : take (mark_at d k) hs ≡ take (mark_at d k) d.generations = ap (take (mark_at d k)) marked.longer.is ∙ take-append-le (mark_at d k) d.generations marked.longer.more (no_later k (omega (arith, v))) in
      subst (λ xs. AreLeast ns xs (take (mark_at longer k) hs)) (sym (take-append-le k d.entries (e ∷ []) (omega (arith, v))))
      (subst (AreLeast ns (take k d.entries)) (sym (ap (λ m. take m hs) (same_mark k (omega (arith, v))) ∙ whole))
      (over.generations k (omega (arith, v))))
  least_at k (inr v) =
      subst (λ xs. AreLeast ns xs (take (mark_at longer k) hs)) (sym (take_all k (d.entries ++ e ∷ []) (let l = long in omega (arith, l, v))))
      (subst (AreLeast ns (d.entries ++ e ∷ [])) (sym (ap (λ m. take m hs) (end_mark k (omega (arith, v))) ∙ take_all (length hs) hs (omega arith)))
      (least_more ns d.entries e d.generations hs (all_least ns d over) marked))

  pub over_more : IsOver ns longer
  over_more = record {
    formulas = λ i other found. formulas i other (push_cases d.entries e i other found);
    one_first = omega (arith, over.one_first, long, length_push d.firsts (change_of d.firsts e.formula first));
    one_mark = omega (arith, over.one_mark, long, length_push d.marks (length d.generations));
    firsts = λ k w. firsts_at k (let l = long in omega (arith, l, w)) (cases_lt k (length d.entries + 1));
    ordered = λ j k v w. ordered_at j k v (cases_lt j (length d.entries + 1)) (cases_lt k (length d.entries + 1));
    generations = λ k w. least_at k (cases_lt k (length d.entries + 1));
  }

-- in the form of the code
pub over_pushed : (ns : List Node) (d new : BranchData) → IsOver ns d → (e : PoolEntry) → IsFormulaNumber ns e.formula → (first : ℕ) → first ≡ unwrap_or (value_in d.firsts e.formula) (length d.entries) → (hs : List Change) → IsMarked ns e.formula e.generation d.generations hs → new.entries ≡ d.entries ++ e ∷ [] → new.firsts ≡ d.firsts ++ change_of d.firsts e.formula first ∷ [] → new.marks ≡ d.marks ++ length d.generations ∷ [] → new.generations ≡ hs → IsOver ns new
over_pushed ns d new over e formula first is_first hs marked es fs ms gs =
    subst (IsOver ns) (λ i. record { entries = sym es i; firsts = sym fs i; marks = sym ms i; generations = sym gs i }) (over_more ns d over e formula first is_first hs marked)

-- ---- fewer entries

module _ (ns : List Node) (d : BranchData) (over : IsOver ns d) (c : ℕ) where
  abbrev shorter : BranchData
  shorter = record { entries = take c d.entries; firsts = take c d.firsts; marks = take c d.marks; generations = take (mark_at d c) d.generations }

  module _ (few : c < length d.entries) where
    has : length (take c d.entries) ≡ c
    has = length-take-le c d.entries (omega (arith, few))

    bound : mark_at d c ≤ length d.generations
    bound =
        let h = over.ordered c (length d.entries) (omega (arith, few)) (omega arith) in
        let last : mark_at d (length d.entries) ≡ length d.generations = get_or_past d.marks (length d.entries) (length d.generations) (let l = over.one_mark in omega (arith, l)) in
        omega (arith, h, last)

    marks_same : (k : ℕ) → k ≤ c → mark_at shorter k ≡ mark_at d k
    marks_same k w = go (cases_lt k c)
      where
        inside : k < length d.marks
        inside = (let l = over.one_mark in omega (arith, l, w, few))

        size : length (take (mark_at d c) d.generations) ≡ mark_at d c
        size = length-take-le (mark_at d c) d.generations bound

        go : (k < c) ⊎ (c ≤ k) → mark_at shorter k ≡ mark_at d k
        go (inl v) = get_or-take c d.marks k (length (take (mark_at d c) d.generations)) v ∙ get_or_default d.marks k (length (take (mark_at d c) d.generations)) (length d.generations) (let l = over.one_mark in omega (arith, l, w, few))
        go (inr v) =
            let here : k ≡ c = omega (arith, v, w) in
            get_or_past (take c d.marks) k (length (take (mark_at d c) d.generations)) (let l = length-take c d.marks in omega (arith, l, v))
            ∙ size
            ∙ ap (mark_at d) (sym here)

    kept_entry : (i : ℕ) (e : PoolEntry) → slice_get (take c d.entries) i ≡ Some e → slice_get d.entries i ≡ Some e
    kept_entry i e h = taken c d.entries i e h
      where
        taken : (c : ℕ) (xs : List PoolEntry) (i : ℕ) (e : PoolEntry) → slice_get (take c xs) i ≡ Some e → slice_get xs i ≡ Some e
        taken zero xs i e h = absurd (cc)
        taken (suc c) [] i e h = h
        taken (suc c) (x ∷ xs) zero e h = h
        taken (suc c) (x ∷ xs) (suc i) e h = taken c xs i e h

    over_fewer : IsOver ns shorter
    over_fewer = record {
      formulas = λ i e h. over.formulas i e (kept_entry i e h);
      one_first = omega (arith, has, length-take c d.firsts, over.one_first, few);
      one_mark = omega (arith, has, length-take c d.marks, over.one_mark, few);
      firsts = λ k w. firsts k (let l = has in omega (arith, l, w));
      ordered = λ j k v w. ordered j k v (let l = has in omega (arith, l, w));
      generations = λ k w. least k (let l = has in omega (arith, l, w));
    }
      where
        firsts : (k : ℕ) → k ≤ c → AreFirsts (take k (take c d.entries)) (take k (take c d.firsts))
        firsts k w =
            subst (λ xs. AreFirsts xs (take k (take c d.firsts))) (sym (take-take k c d.entries w))
            (subst (AreFirsts (take k d.entries)) (sym (take-take k c d.firsts w))
            (over.firsts k (omega (arith, w, few))))

        ordered : (j k : ℕ) → j ≤ k → k ≤ c → mark_at shorter j ≤ mark_at shorter k
        ordered j k v w = (let a = marks_same j (omega (arith, v, w)) in let b = marks_same k w in let h = over.ordered j k v (omega (arith, w, few)) in omega (arith, a, b, h))

        least : (k : ℕ) → k ≤ c → AreLeast ns (take k (take c d.entries)) (take (mark_at shorter k) (take (mark_at d c) d.generations))
        least k w =
            subst (λ xs. AreLeast ns xs (take (mark_at shorter k) (take (mark_at d c) d.generations))) (sym (take-take k c d.entries w))
            (subst (AreLeast ns (take k d.entries)) (sym (ap (λ m. take m (take (mark_at d c) d.generations)) (marks_same k w) ∙ take-take (mark_at d k) (mark_at d c) d.generations (over.ordered k c w (omega (arith, few)))))
            (over.generations k (omega (arith, w, few))))

  all_same : length d.entries ≤ c → shorter ≡ d
  all_same w =
      let a : take c d.entries ≡ d.entries = take_all c d.entries w in
      let b : take c d.firsts ≡ d.firsts = take_all c d.firsts (let l = over.one_first in omega (arith, l, w)) in
      let m : take c d.marks ≡ d.marks = take_all c d.marks (let l = over.one_mark in omega (arith, l, w)) in
      let past : mark_at d c ≡ length d.generations = get_or_past d.marks c (length d.generations) (let l = over.one_mark in omega (arith, l, w)) in
      let g : take (mark_at d c) d.generations ≡ d.generations = ap (λ k. take k d.generations) past ∙ take_all (length d.generations) d.generations (omega arith) in
      λ i. record { entries = a i; firsts = b i; marks = m i; generations = g i }

  pub over_shorter : IsOver ns shorter
  over_shorter = go (cases_lt c (length d.entries))
    where
      go : (c < length d.entries) ⊎ (length d.entries ≤ c) → IsOver ns shorter
      go (inl w) = over_fewer w
      go (inr w) = subst (IsOver ns) (sym (all_same w)) over

pub over_truncated : (ns : List Node) (d new : BranchData) (c : ℕ) → new.entries ≡ take c d.entries → new.firsts ≡ take c d.firsts → new.marks ≡ take c d.marks → new.generations ≡ take (mark_at d c) d.generations → IsOver ns d → IsOver ns new
over_truncated ns d new c es fs ms gs over =
    subst (IsOver ns) (λ i. record { entries = sym es i; firsts = sym fs i; marks = sym ms i; generations = sym gs i }) (over_shorter ns d over c)

-- ---- a pool that is extended

module _ (ns ms : List Node) (grown : Extends ns ms) where
  longer_pool : length ns ≤ length ms
  longer_pool = (let l = ap length grown.is in omega (arith, l, length-append ns grown.more))

  found_still : (xs more : List Node) (n : ℕ) (node : Node) → slice_get xs n ≡ Some node → slice_get (xs ++ more) n ≡ Some node
  found_still [] more n node h = absurd (cc)
  found_still (x ∷ xs) more zero node h = h
  found_still (x ∷ xs) more (suc n) node h = found_still xs more n node h

  same_item : (n : ℕ) (node : Node) → n ≤ length ns → HasParts ns n node → item_of (items ns) node ≡ item_of (items ms) node
  same_item n (LeafNode h) w p = refl
  same_item n (OneNode h a) w p = ap (one_item h) (sym (item_kept ns ms grown a (let e = p.earlier in omega (arith, e, w))))
  same_item n (TwoNode h a b) w p = λ i. two_item h (sym (item_kept ns ms grown a (let e = p.0.earlier in omega (arith, e, w))) i) (sym (item_kept ns ms grown b (let e = p.1.earlier in omega (arith, e, w))) i)
  same_item n (ThreeNode h a b c) w p = λ i. three_item h (sym (item_kept ns ms grown a (let e = p.0.earlier in omega (arith, e, w))) i) (sym (item_kept ns ms grown b (let e = p.1.earlier in omega (arith, e, w))) i) (sym (item_kept ns ms grown c (let e = p.2.earlier in omega (arith, e, w))) i)

  made_still : (n : ℕ) (node : Node) → IsMade ns n node → IsMade ms n node
  made_still n node made =
      let w : n < length ns = slice_get_within ns n node made.found in
      record {
        found = ap (λ xs. slice_get xs n) grown.is ∙ found_still ns grown.more n node made.found;
        item = item_kept ns ms grown n w ∙ made.item ∙ same_item n node (omega (arith, w)) made.parts;
        parts = parts_kept ns ms grown n node (omega (arith, w)) made.parts;
      }

  under_still : (top n : ℕ) → IsUnder ns top n → IsUnder ms top n
  under_still top _ Itself = Itself
  under_still top _ (Below m node part u made one) = Below m node part (under_still top m u) (made_still m node made) one

  formula_still : (n : ℕ) → IsFormulaNumber ns n → IsFormulaNumber ms n
  formula_still n h = record { within = (let w = h.within in let l = longer_pool in omega (arith, w, l)); sort = ap sort_of (item_kept ns ms grown n h.within) ∙ h.sort }

  least_still : (es : List PoolEntry) (gs : List Change) → AreLeast ns es gs → AreLeast ms es gs
  least_still es gs least = record {
    closed = record {
      nodes = λ n v e. (let node = least.closed.nodes n v e in record { node = node.node; made = made_still n node.node node.made });
      parts = λ n v node part e found one. parts n v node part e found one (least.closed.nodes n v e);
    };
    entries = least.entries;
    from = λ n g e. (let h = least.from n g e in record { position = h.position; entry = h.entry; found = h.found; under = under_still h.entry.formula n h.under; same = h.same });
  }
    where
      parts : (n v : ℕ) (node : Node) (part : ℕ) → value_in gs n ≡ Some v → slice_get ms n ≡ Some node → IsOneOf part (outer_parts node) → IsNode ns n → HasAtMost gs part v
      parts n v node part e found one old =
          let there : Some old.node ≡ Some node = sym (ap (λ xs. slice_get xs n) grown.is ∙ found_still ns grown.more n old.node old.made.found) ∙ found in
          let same : old.node ≡ node = cc in
          least.closed.parts n v node part e (old.made.found ∙ ap Some same) one

  pub over_still : (d : BranchData) → IsOver ns d → IsOver ms d
  over_still d over = record {
    formulas = λ i e f. formula_still e.formula (over.formulas i e f);
    one_first = over.one_first;
    one_mark = over.one_mark;
    firsts = over.firsts;
    ordered = over.ordered;
    generations = λ k w. least_still (take k d.entries) (take (mark_at d k) d.generations) (over.generations k w);
  }

  pub says_still : (es : List PoolEntry) → ((i : ℕ) (e : PoolEntry) → slice_get es i ≡ Some e → IsFormulaNumber ns e.formula) → map (entry_in ms) es ≡ map (entry_in ns) es
  says_still [] h = refl
  says_still (e ∷ es) h =
      let same : item_at ms e.formula ≡ item_at ns e.formula = item_kept ns ms grown e.formula (h 0 e refl).within in
      let rest : map (entry_in ms) es ≡ map (entry_in ns) es = says_still es (λ i x f. h (suc i) x f) in
      λ i. record { formula = formula_in (same i); generation = e.generation; origin = e.origin } ∷ rest i
