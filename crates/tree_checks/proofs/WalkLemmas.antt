-- The open branches while a trace is read: how they continue.
use Rattle.std.proofs.Common.{◌≡◌, ℕ, ◌+◌, ◌<◌, ◌≤◌, Bool, true, false, List, [], ◌∷◌, ◌++◌, length, take, drop, map, reverse, Some, refl, sym, ap, ◌∙◌, subst, arith, length-append}
use Rattle.std.specs.Prelude.{All, slice_get}
use Rattle.std.proofs.lemmas.List.{reverse-append}
use Rattle.std.proofs.lemmas.List.Elements.{All-nil, All-cons, All-head, All-tail, All-append, All-map, All-weaker}
use Rattle.term_pool.specs.Pools.{Extends}
use Rattle.term_pool.specs.declared.node.Node.{Node}
use Rattle.certificates.specs.BranchesBranch.{Branch, formulas}
use Rattle.certificates.specs.ProofTraces.{IsShortBranch}
use Rattle.certificates.specs.Closes.{most_entries}
use Rattle.tableau.specs.PoolBranches.{IsFormulaNumber, IsOver}
use Rattle.tableau.specs.declared.entry.PoolEntry.{PoolEntry}
use Rattle.tableau.proofs.PushLemmas.{over_still, says_still}
use Rattle.tableau.specs.Numbers.{AreFormulas}
use Rattle.tableau.proofs.NumberLemmas.{number_stays}
use Rattle.tableau.specs.Variables.{AreAbove}
use Rattle.tableau.proofs.VariablesLemmas.{above_longer}
use Rattle.ematching.specs.Heads.{IsIndex}
use Rattle.ematching.specs.QuantifierFree.{AreFree}
use Rattle.tableau.specs.States.{IsState}
use Rattle.search.specs.Applications.{is_fork}
use Rattle.search.specs.Trees.{branch_of, waiting_in, AreStacked, AreWaiting, frames, entries_of}
use Rattle.search.specs.declared.trees.application.Extension.{Extension}
use Rattle.search.specs.declared.trees.tree.Waiting.{Waiting}
use Rattle.search.proofs.PushLemmas.{entry_for}
use Rattle.search.proofs.WaitingLemmas.{waiting_longer, waiting_frames, waiting_resumed, stacked_higher, stacked_frames, stacked_resumed}
use Rattle.search.proofs.StayLemmas.{waiting_stay}
use Rattle.tree_checks.specs.Entries.{cases_by, IsGoneOn, IsAtEnd, IsLonger}
use Rattle.tree_checks.specs.Kept.{IsKept}
use Rattle.tree_checks.specs.declared.grown.keeping.Kept.{Kept}
use Rattle.tree_checks.proofs.CaseLemmas.{short_entries, alone, map_alone}
use Rattle.tree_checks.proofs.GrownKeptLemmas.{kept_longer}
use Rattle.tree_checks.specs.Walks.{open_if, waiting_of, opened, AreFirstTrees, IsWalk, GoesOn, GoesNowhere}
use Rattle.tree_checks.specs.declared.partial.walk.Walk.{Walk}
use Rattle.tree_checks.proofs.TreeLemmas.{trees_longer, trees_shorter}

-- the walk with this state
abbrev pub with_kept : Walk → Kept → Walk
with_kept w k = record { is_open = w.is_open; branch = w.branch; waiting = w.waiting; kept = k; trees = w.trees }

-- ---- one branch

module _ (ns : List Node) (w : Walk) (waiting : w.waiting.items ≡ []) where
  none_waits : waiting_of w ≡ []
  none_waits = ap reverse waiting

  pub walk_begun : IsOver ns w.branch → IsKept ns w.branch.entries w.kept → w.trees.items ≡ [] → IsWalk ns w
  walk_begun over kept trees = record {
    over = over;
    kept = kept;
    trees = record { more = formulas (branch_of ns w.branch.entries); are = ap (λ ps. ps ++ formulas (branch_of ns w.branch.entries)) (sym trees) };
    waiting = subst (AreWaiting ns) (sym none_waits) (All-nil (λ (x : Waiting). IsFormulaNumber ns x.entry.formula));
    stacked = subst (AreStacked (length w.branch.entries)) (sym none_waits) tt;
  }

  pub open_begun : w.is_open ≡ true → opened ns w ≡ branch_of ns w.branch.entries ∷ []
  open_begun is_open = (λ i. open_if (is_open i) ns w.branch.entries (none_waits i))

-- ---- a pool that is extended

module _ (ns ms : List Node) (grown : Extends ns ms) where
  abbrev AreNumbered : List PoolEntry → Type 0
  AreNumbered es = (i : ℕ) (e : PoolEntry) → slice_get es i ≡ Some e → IsFormulaNumber ns e.formula

  open_same : (o : Bool) (es : List PoolEntry) (ws : List Waiting) → AreNumbered es → AreWaiting ns ws → open_if o ms es ws ≡ open_if o ns es ws
  open_same false es ws numbered h = refl
  open_same true es ws numbered h =
      let first : branch_of ms es ≡ branch_of ns es = says_still ns ms grown es numbered in
      let rest = waiting_stay ns ms grown es ws numbered h in
      λ i. first i ∷ rest i

  pub opened_same : (w : Walk) → IsWalk ns w → opened ms w ≡ opened ns w
  opened_same w h = open_same w.is_open w.branch.entries (waiting_of w) h.over.formulas h.waiting

  trees_same : (es : List PoolEntry) → AreNumbered es → formulas (branch_of ms es) ≡ formulas (branch_of ns es)
  trees_same es numbered = ap formulas (says_still ns ms grown es numbered)

  -- the walk with the state of now
  pub walk_later : (w : Walk) (k : Kept) → IsWalk ns w → IsKept ms w.branch.entries k → IsWalk ms (with_kept w k)
  walk_later w k h kept = record {
    over = over_still ns ms grown w.branch h.over;
    kept = kept;
    trees = record { more = h.trees.more; are = trees_same w.branch.entries h.over.formulas ∙ h.trees.are };
    waiting = All-weaker (λ (x : Waiting). IsFormulaNumber ns x.entry.formula) (λ (x : Waiting). IsFormulaNumber ms x.entry.formula) (λ x one. number_stays ns ms grown x.entry.formula one) (waiting_of w) h.waiting;
    stacked = h.stacked;
  }

-- ---- the branches that an extension leaves

module _ (ns : List Node) (es : List PoolEntry) where
  abbrev made : List PoolEntry → Branch
  made xs = branch_of ns (es ++ xs)

  made_length : (xs : List PoolEntry) → length (made xs) ≡ length es + length xs
  made_length xs = short_entries ns (es ++ xs) ∙ length-append es xs

  short_if : (xs fs : List PoolEntry) → fs ≡ es ++ xs → length fs ≤ most_entries → IsShortBranch (made xs)
  short_if xs fs is short = (let l : length fs ≡ length (es ++ xs) = ap length is in let k = short_entries ns (es ++ xs) in omega (arith, l, k, short))

  pub all_short : (f : Bool) (ds fs : List PoolEntry) → IsGoneOn (cases_by f ds) 0 es fs → All IsShortBranch (map made (cases_by f ds))
  all_short false ds fs h =
      let same : ds ≡ h.added = (let found = h.found in cc) in
      All-cons IsShortBranch (made ds) [] (short_if ds fs (h.is ∙ ap (λ xs. es ++ xs) (sym same)) h.short) (All-nil IsShortBranch)
  all_short true [] fs h = (let found = h.found in absurd (cc))
  all_short true (d ∷ ds) fs h =
      let same : d ∷ [] ≡ h.added = (let found = h.found in cc) in
      let first = short_if (d ∷ []) fs (h.is ∙ ap (λ xs. es ++ xs) (sym same)) h.short in
      let each : (e : PoolEntry) → IsShortBranch (made (e ∷ [])) = λ e. (let l = made_length (e ∷ []) in let k = made_length (d ∷ []) in omega (arith, first, l, k)) in
      All-map IsShortBranch made (map alone (d ∷ ds)) (All-map (λ (xs : List PoolEntry). IsShortBranch (made xs)) alone (d ∷ ds) (λ k x w. each _))

  pub none_but_short : (f : Bool) (ds : List PoolEntry) → IsAtEnd (cases_by f ds) 0 es → All IsShortBranch (map made (cases_by f ds)) → map made (cases_by f ds) ≡ []
  none_but_short false ds h short =
      let one = All-head IsShortBranch (made ds) [] short in
      let l = short_entries ns (es ++ ds) in
      absurd (h.none (es ++ ds) (record { added = ds; found = refl; is = refl; short = omega (arith, one, l) }))
  none_but_short true [] h short = refl
  none_but_short true (d ∷ ds) h short =
      let one = All-head IsShortBranch (made (d ∷ [])) (map made (map alone ds)) short in
      let l = short_entries ns (es ++ d ∷ []) in
      absurd (h.none (es ++ d ∷ []) (record { added = d ∷ []; found = refl; is = refl; short = omega (arith, one, l) }))

  -- ---- the open branches after it

  module _ (ws : List Waiting) (stacked : AreStacked (length es) ws) where
    open_straight : (ds fs : List PoolEntry) → IsGoneOn (cases_by false ds) 0 es fs → open_if true ns fs ws ≡ map made (cases_by false ds) ++ waiting_in ns es ws
    open_straight ds fs h =
        let same : ds ≡ h.added = (let found = h.found in cc) in
        let is : fs ≡ es ++ ds = h.is ∙ ap (λ xs. es ++ xs) (sym same) in
        let later = waiting_longer ns es ds (length es) ws (omega arith) stacked in
        ap (λ xs. open_if true ns xs ws) is ∙ ap (λ os. branch_of ns (es ++ ds) ∷ os) later

    open_fork : (ds fs : List PoolEntry) → IsGoneOn (cases_by true ds) 0 es fs → open_if true ns fs (frames (length es) (drop 1 ds) ++ ws) ≡ map made (cases_by true ds) ++ waiting_in ns es ws
    open_fork [] fs h = (let found = h.found in absurd (cc))
    open_fork (d ∷ ds) fs h =
        let same : d ∷ [] ≡ h.added = (let found = h.found in cc) in
        let is : fs ≡ es ++ d ∷ [] = h.is ∙ ap (λ xs. es ++ xs) (sym same) in
        let waits = stacked_frames (length es) ds ws stacked in
        let later = waiting_longer ns es (d ∷ []) (length es) (frames (length es) ds ++ ws) (omega arith) waits ∙ waiting_frames ns es ds ws ∙ ap (λ os. os ++ waiting_in ns es ws) (map_alone ns es ds) in
        ap (λ xs. open_if true ns xs (frames (length es) ds ++ ws)) is ∙ ap (λ os. branch_of ns (es ++ d ∷ []) ∷ os) later

-- ---- the state while a branch continues

abbrev Stands : List Node → Waiting → Type 0
Stands ns w = IsFormulaNumber ns w.entry.formula

framed : (ns : List Node) (mark : ℕ) (g : Extension) (xs : List ℕ) → All (IsFormulaNumber ns) xs → All (Stands ns) (frames mark (map (entry_for g) xs))
framed ns mark g [] h = All-nil (Stands ns)
framed ns mark g (x ∷ xs) h = All-cons (Stands ns) (record { mark = mark; entry = entry_for g x }) (frames mark (map (entry_for g) xs)) (All-head (IsFormulaNumber ns) x xs h) (framed ns mark g xs (All-tail (IsFormulaNumber ns) x xs h))

rest_framed : (ns : List Node) (mark : ℕ) (g : Extension) (xs : List ℕ) → All (IsFormulaNumber ns) xs → All (Stands ns) (frames mark (drop 1 (map (entry_for g) xs)))
rest_framed ns mark g [] h = All-nil (Stands ns)
rest_framed ns mark g (x ∷ xs) h = framed ns mark g xs (All-tail (IsFormulaNumber ns) x xs h)

pub some_forked : (g : Extension) (es fs : List PoolEntry) → IsGoneOn (cases_by true (entries_of g)) 0 es fs → 0 < length g.formulas.items
some_forked g es fs h = go g.formulas.items h.found
  where
    go : (xs : List ℕ) → slice_get (map alone (map (entry_for g) xs)) 0 ≡ Some h.added → 0 < length xs
    go [] found = absurd (cc)
    go (x ∷ xs) found = omega arith

-- the current branch is longer, and the rest is unchanged except for the pending branches
module _ (ns : List Node) (w v : Walk) (h : IsWalk ns w) (over : IsOver ns v.branch) (longer : IsLonger w.branch.entries v.branch.entries) (kept : v.kept ≡ w.kept) (trees : v.trees.items ≡ w.trees.items) where
  pub walk_gone : AreWaiting ns (waiting_of v) → AreStacked (length v.branch.entries) (waiting_of v) → IsWalk ns v
  walk_gone waiting stacked = record {
    over = over;
    kept = subst (IsKept ns v.branch.entries) (sym kept) (kept_longer ns w.branch.entries v.branch.entries longer w.kept h.kept);
    trees = (
        let first : AreFirstTrees ns v.branch.entries w.trees.items = subst (λ es. AreFirstTrees ns es w.trees.items) (sym longer.is) (trees_longer ns w.branch.entries longer.more w.trees.items h.trees) in
        record { more = first.more; are = first.are ∙ ap (λ ps. ps ++ first.more) (sym trees) });
    waiting = waiting;
    stacked = stacked;
  }

  higher : length w.branch.entries ≤ length v.branch.entries
  higher = (let l : length v.branch.entries ≡ length (w.branch.entries ++ longer.more) = ap length longer.is in let k = length-append w.branch.entries longer.more in omega (arith, l, k))

  pub walk_straight : waiting_of v ≡ waiting_of w → IsWalk ns v
  walk_straight same =
      walk_gone (subst (AreWaiting ns) (sym same) h.waiting) (subst (AreStacked (length v.branch.entries)) (sym same) (stacked_higher (length w.branch.entries) (length v.branch.entries) (waiting_of w) higher h.stacked))

  pub walk_fork : (g : Extension) → AreFormulas ns g.formulas.items → waiting_of v ≡ frames (length w.branch.entries) (drop 1 (entries_of g)) ++ waiting_of w → IsWalk ns v
  walk_fork g formulas same =
      let fs = frames (length w.branch.entries) (drop 1 (entries_of g)) in
      let waiting = All-append (Stands ns) fs (waiting_of w) (rest_framed ns (length w.branch.entries) g g.formulas.items formulas.each) h.waiting in
      let stacked = stacked_higher (length w.branch.entries) (length v.branch.entries) (fs ++ waiting_of w) higher (stacked_frames (length w.branch.entries) (drop 1 (entries_of g)) (waiting_of w) h.stacked) in
      walk_gone (subst (AreWaiting ns) (sym same) waiting) (subst (AreStacked (length v.branch.entries)) (sym same) stacked)

-- where the branch continues
module _ (ns : List Node) (w v : Walk) (h : IsWalk ns w) (g : Extension) (open_before : w.is_open ≡ true) (open_after : v.is_open ≡ true) where
  pub goes_straight : is_fork g.reason ≡ false → IsGoneOn (cases_by (is_fork g.reason) (entries_of g)) 0 w.branch.entries v.branch.entries → waiting_of v ≡ waiting_of w → GoesOn ns w g v
  goes_straight straight gone same =
      let es = w.branch.entries in
      let fs = v.branch.entries in
      let ds = entries_of g in
      let plain : IsGoneOn (cases_by false ds) 0 es fs = subst (λ f. IsGoneOn (cases_by f ds) 0 es fs) straight gone in
      record {
        short = all_short ns es (is_fork g.reason) ds fs gone;
        now_open =
            (λ i. open_if (open_after i) ns fs (same i))
            ∙ open_straight ns es (waiting_of w) h.stacked ds fs plain
            ∙ ap (λ f. map (λ (xs : List PoolEntry). branch_of ns (es ++ xs)) (cases_by f ds) ++ waiting_in ns es (waiting_of w)) (sym straight);
      }

  pub goes_aside : is_fork g.reason ≡ true → IsGoneOn (cases_by (is_fork g.reason) (entries_of g)) 0 w.branch.entries v.branch.entries → waiting_of v ≡ frames (length w.branch.entries) (drop 1 (entries_of g)) ++ waiting_of w → GoesOn ns w g v
  goes_aside fork gone same =
      let es = w.branch.entries in
      let fs = v.branch.entries in
      let ds = entries_of g in
      let aside : IsGoneOn (cases_by true ds) 0 es fs = subst (λ f. IsGoneOn (cases_by f ds) 0 es fs) fork gone in
      record {
        short = all_short ns es (is_fork g.reason) ds fs gone;
        now_open =
            (λ i. open_if (open_after i) ns fs (same i))
            ∙ open_fork ns es (waiting_of w) h.stacked ds fs aside
            ∙ ap (λ f. map (λ (xs : List PoolEntry). branch_of ns (es ++ xs)) (cases_by f ds) ++ waiting_in ns es (waiting_of w)) (sym fork);
      }

pub goes_nowhere : (ns : List Node) (w : Walk) (g : Extension) → IsAtEnd (cases_by (is_fork g.reason) (entries_of g)) 0 w.branch.entries → GoesNowhere ns w g
goes_nowhere ns w g h = record { none = none_but_short ns w.branch.entries (is_fork g.reason) (entries_of g) h }

-- ---- the next branch

turned : (ws : List Waiting) (vs : List Waiting) (next : Waiting) → ws ≡ vs ++ next ∷ [] → reverse ws ≡ next ∷ reverse vs
turned ws vs next e = ap reverse e ∙ reverse-append vs (next ∷ [])

module _ (ns : List Node) (w v : Walk) (h : IsWalk ns w) (next : Waiting) (popped : w.waiting.items ≡ v.waiting.items ++ next ∷ []) where
  waits : waiting_of w ≡ next ∷ waiting_of v
  waits = turned w.waiting.items v.waiting.items next popped

  abbrev es : List PoolEntry
  es = w.branch.entries

  marked : AreStacked (length es) (next ∷ waiting_of v)
  marked = subst (AreStacked (length es)) waits h.stacked

  pub next_stands : IsFormulaNumber ns next.entry.formula
  next_stands = All-head (Stands ns) next (waiting_of v) (subst (AreWaiting ns) waits h.waiting)

  module _ (entries : v.branch.entries ≡ take next.mark es ++ next.entry ∷ []) where
    pub walk_resumed : IsOver ns v.branch → AreAbove ns (take next.mark es) v.kept.variables → v.kept.state ≡ w.kept.state → v.kept.heads ≡ w.kept.heads → v.kept.quantifiers ≡ w.kept.quantifiers → v.trees.items ≡ take next.mark w.trees.items → IsWalk ns v
    walk_resumed over above state heads quantifiers trees = record {
      over = over;
      kept = record {
        above = subst (λ xs. AreAbove ns xs v.kept.variables) (sym entries) (above_longer ns (take next.mark es) (next.entry ∷ []) v.kept.variables above);
        state = subst (IsState ns) (sym state) h.kept.state;
        heads = subst (IsIndex ns) (sym heads) h.kept.heads;
        quantifiers = subst (AreFree ns) (sym quantifiers) h.kept.quantifiers;
      };
      trees = (
          let first : AreFirstTrees ns (take next.mark es ++ next.entry ∷ []) (take next.mark w.trees.items) = trees_longer ns (take next.mark es) (next.entry ∷ []) (take next.mark w.trees.items) (trees_shorter ns next.mark es w.trees.items h.trees) in
          let whole : AreFirstTrees ns v.branch.entries (take next.mark w.trees.items) = subst (λ xs. AreFirstTrees ns xs (take next.mark w.trees.items)) (sym entries) first in
          record { more = whole.more; are = whole.are ∙ ap (λ ps. ps ++ whole.more) (sym trees) });
      waiting = All-tail (Stands ns) next (waiting_of v) (subst (AreWaiting ns) waits h.waiting);
      stacked = subst (λ xs. AreStacked (length xs) (waiting_of v)) (sym entries) (stacked_resumed es next (waiting_of v) marked.0 marked.1);
    }

    pub open_resumed : v.is_open ≡ true → opened ns v ≡ waiting_in ns es (waiting_of w)
    open_resumed is_open =
        (λ i. open_if (is_open i) ns (entries i) (waiting_of v))
        ∙ ap (λ os. branch_of ns (take next.mark es ++ next.entry ∷ []) ∷ os) (waiting_resumed ns es next (waiting_of v) marked.0 marked.1)
        ∙ ap (waiting_in ns es) (sym waits)

-- no branch is pending
pub none_resumed : (ns : List Node) (w v : Walk) → w.waiting.items ≡ [] → v.is_open ≡ false → opened ns v ≡ waiting_in ns w.branch.entries (waiting_of w)
none_resumed ns w v none closed =
    (λ i. open_if (closed i) ns v.branch.entries (waiting_of v)) ∙ ap (λ ws. waiting_in ns w.branch.entries (reverse ws)) (sym none)
