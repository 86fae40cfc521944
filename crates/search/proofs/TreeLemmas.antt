-- Search trees with one more application.
use Rattle.std.proofs.Common.{◌≡◌, ℕ, ◌+◌, ◌<◌, Bool, true, false, List, [], ◌∷◌, ◌++◌, length, take, drop, map, reverse, refl, sym, ap, ◌∙◌, subst, arith, length-append}
use Rattle.std.proofs.Common.{Vec}
use Rattle.std.specs.Prelude.{All, MatchBool}
use Rattle.std.proofs.lemmas.List.Elements.{All-nil, All-cons, All-head, All-tail, All-append}
use Rattle.std.proofs.lemmas.List.{length-map}
use Rattle.fol.specs.declared.shapes.Shape.{Shape}
use Rattle.fol.specs.FormulaData.{FormulaData}
use Rattle.term_pool.specs.declared.node.Node.{Node}
use Rattle.certificates.specs.BranchesBranch.{Entry}
use Rattle.certificates.specs.ProofTraces.{Application, OpenBranches, left_of}
use Rattle.tableau.specs.PoolBranches.{BranchData, branch_in, IsFormulaNumber, IsOver}
use Rattle.tableau.specs.declared.entry.PoolEntry.{PoolEntry}
use Rattle.explanations.specs.Chains.{step_in}
use Rattle.search.specs.Applications.{is_fork, entry_of, IsGenerationFrom, IsExtensionOf, IsClosingOf, IsDueOn, formulas_of}
use Rattle.search.specs.Trees.{branch_of, waiting_in, AreStacked, IsText, IsTree, IsResumed, HasNone, frames, entries_of}
use Rattle.search.specs.declared.trees.application.Extension.{Extension}
use Rattle.search.specs.declared.trees.application.Closing.{Closing}
use Rattle.search.specs.declared.trees.application.PoolApplication.{PoolApplication}
use Rattle.search.specs.declared.trees.application.PoolApplication.TheVariants.{Grown, Closed}
use Rattle.search.specs.declared.trees.tree.SearchTree.{SearchTree}
use Rattle.search.specs.declared.trees.tree.Waiting.{Waiting}
use Rattle.search.proofs.TextLemmas.{size_of, taken}
use Rattle.search.proofs.WaitingLemmas.{waiting_longer, waiting_frames, waiting_resumed, stacked_higher, stacked_frames, stacked_resumed}
use Rattle.search.proofs.PushLemmas.{entry_for}
use Rattle.search.proofs.AddedLemmas.{lefts, left_is, added_size, entries_are, branch_append, branches_append}

-- the open branches, by the entries of the first one and the pending ones
abbrev pub open_in : List Node → List PoolEntry → List Waiting → OpenBranches
open_in ns es ws = branch_of ns es ∷ waiting_in ns es ws

-- a trace that leaves these branches open
pub record IsOpenTrace (shapes : List Shape) (p : FormulaData) (spent : ℕ) (ns : List Node) (ts : List PoolApplication) (es : List PoolEntry) (ws : List Waiting) : Type 0 where
  pub stacked : AreStacked (length es) ws
  pub text : IsText shapes p spent ns ts (open_in ns es ws)

module _ (shapes : List Shape) (p : FormulaData) (spent : ℕ) (ns : List Node) (text : List PoolApplication) (es : List PoolEntry) (ws : List Waiting) (present : IsOpenTrace shapes p spent ns text es ws) where
  module _ (g : Extension) (application : Application) (is : IsExtensionOf ns g application) (from : IsGenerationFrom (branch_of ns es) (entry_of g.reason) g.generation) (due : IsDueOn shapes (branch_of ns es) application) where
    -- what the application leaves
    left : left_of (branch_of ns es) application ≡ lefts (is_fork g.reason) (branch_of ns es) (branch_of ns (entries_of g))
    left = left_is ns (formulas_of ns g) (branch_of ns es) g.reason g.generation application is.added from ∙ ap (λ ds. lefts (is_fork g.reason) (branch_of ns es) ds) (sym (entries_are ns g))

    one_more : IsText shapes p (spent + 1) ns (text ++ Grown g ∷ []) (left_of (branch_of ns es) application ++ waiting_in ns es ws)
    one_more = subst (λ k. IsText shapes p (spent + k) ns (text ++ Grown g ∷ []) (left_of (branch_of ns es) application ++ waiting_in ns es ws)) (added_size ns (formulas_of ns g) g.reason g.generation application is.added) (taken shapes p spent ns text (branch_of ns es) (waiting_in ns es ws) (Grown g) application present.text is due)

    -- all formulas are added to one branch
    pub grown_straight : is_fork g.reason ≡ false → IsOpenTrace shapes p (spent + 1) ns (text ++ Grown g ∷ []) (es ++ entries_of g) ws
    grown_straight straight = record {
      stacked = (let l = length-append es (entries_of g) in stacked_higher (length es) (length (es ++ entries_of g)) ws (omega (arith, l)) present.stacked);
      text = subst (IsText shapes p (spent + 1) ns (text ++ Grown g ∷ [])) opened one_more;
    }
      where
        opened : left_of (branch_of ns es) application ++ waiting_in ns es ws ≡ open_in ns (es ++ entries_of g) ws
        opened =
            let first : left_of (branch_of ns es) application ≡ (branch_of ns es ++ branch_of ns (entries_of g)) ∷ [] = left ∙ ap (λ f. lefts f (branch_of ns es) (branch_of ns (entries_of g))) straight in
            let whole = branch_append ns es (entries_of g) in
            let later = waiting_longer ns es (entries_of g) (length es) ws (omega arith) present.stacked in
            ap (λ os. os ++ waiting_in ns es ws) first ∙ (λ i. sym whole i ∷ sym later i)

    -- each formula continues a branch of its own, the first one now
    pub grown_fork : is_fork g.reason ≡ true → 0 < length (entries_of g) → IsOpenTrace shapes p (spent + 1) ns (text ++ Grown g ∷ []) (es ++ take 1 (entries_of g)) (frames (length es) (drop 1 (entries_of g)) ++ ws)
    grown_fork fork some = go (entries_of g) refl some
      where
        go : (ds : List PoolEntry) → entries_of g ≡ ds → 0 < length ds → IsOpenTrace shapes p (spent + 1) ns (text ++ Grown g ∷ []) (es ++ take 1 ds) (frames (length es) (drop 1 ds) ++ ws)
        go [] e l = absurd (omega (arith, l))
        go (d ∷ ds) e l = record {
          stacked = (let k = length-append es (d ∷ []) in stacked_higher (length es) (length (es ++ d ∷ [])) (frames (length es) ds ++ ws) (omega (arith, k)) stacked);
          text = subst (IsText shapes p (spent + 1) ns (text ++ Grown g ∷ [])) opened one_more;
        }
          where
            stacked : AreStacked (length es) (frames (length es) ds ++ ws)
            stacked = stacked_frames (length es) ds ws present.stacked

            first : left_of (branch_of ns es) application ≡ map (λ (x : PoolEntry). branch_of ns (es ++ x ∷ [])) (d ∷ ds)
            first = left ∙ ap (λ f. lefts f (branch_of ns es) (branch_of ns (entries_of g))) fork ∙ ap (λ xs. map (λ (x : Entry). branch_of ns es ++ x ∷ []) (branch_of ns xs)) e ∙ sym (branches_append ns es (d ∷ ds))

            later : waiting_in ns (es ++ d ∷ []) (frames (length es) ds ++ ws) ≡ map (λ (x : PoolEntry). branch_of ns (es ++ x ∷ [])) ds ++ waiting_in ns es ws
            later = waiting_longer ns es (d ∷ []) (length es) (frames (length es) ds ++ ws) (omega arith) stacked ∙ waiting_frames ns es ds ws

            opened : left_of (branch_of ns es) application ++ waiting_in ns es ws ≡ open_in ns (es ++ d ∷ []) (frames (length es) ds ++ ws)
            opened = ap (λ os. os ++ waiting_in ns es ws) first ∙ ap (λ os. branch_of ns (es ++ d ∷ []) ∷ os) (sym later)

  -- the branch is closed
  pub closed : (c : Closing) (application : Application) → IsClosingOf ns c application → IsDueOn shapes (branch_of ns es) application → IsText shapes p (spent + length c.chain.items) ns (text ++ Closed c ∷ []) (waiting_in ns es ws)
  closed c application is due =
      let more = taken shapes p spent ns text (branch_of ns es) (waiting_in ns es ws) (Closed c) application present.text is due in
      let size : size_of application ≡ length c.chain.items = ap size_of is.is ∙ length-map c.chain.items (step_in ns) in
      let none : left_of (branch_of ns es) application ≡ [] = ap (left_of (branch_of ns es)) is.is in
      subst (λ os. IsText shapes p (spent + length c.chain.items) ns (text ++ Closed c ∷ []) (os ++ waiting_in ns es ws)) none
      (subst (λ k. IsText shapes p (spent + k) ns (text ++ Closed c ∷ []) (left_of (branch_of ns es) application ++ waiting_in ns es ws)) size more)

-- a pending branch becomes the current one
pub resumed : (shapes : List Shape) (p : FormulaData) (spent : ℕ) (ns : List Node) (text : List PoolApplication) (es : List PoolEntry) (w : Waiting) (ws : List Waiting) → AreStacked (length es) (w ∷ ws) → IsText shapes p spent ns text (waiting_in ns es (w ∷ ws)) → IsOpenTrace shapes p spent ns text (take w.mark es ++ w.entry ∷ []) ws
resumed shapes p spent ns text es w ws stacked h = record {
  stacked = stacked_resumed es w ws stacked.0 stacked.1;
  text = subst (λ os. IsText shapes p spent ns text (branch_of ns (take w.mark es ++ w.entry ∷ []) ∷ os)) (sym (waiting_resumed ns es w ws stacked.0 stacked.1)) h;
}

-- ---- the same, for a search tree before and after

abbrev pub Stands : List Node → Waiting → Type 0
Stands ns w = IsFormulaNumber ns w.entry.formula

framed : (ns : List Node) (mark : ℕ) (g : Extension) (xs : List ℕ) → All (IsFormulaNumber ns) xs → All (Stands ns) (frames mark (map (entry_for g) xs))
framed ns mark g [] h = All-nil (Stands ns)
framed ns mark g (x ∷ xs) h = All-cons (Stands ns) (record { mark = mark; entry = entry_for g x }) (frames mark (map (entry_for g) xs)) (All-head (IsFormulaNumber ns) x xs h) (framed ns mark g xs (All-tail (IsFormulaNumber ns) x xs h))

dropped_framed : (ns : List Node) (mark : ℕ) (g : Extension) (xs : List ℕ) → All (IsFormulaNumber ns) xs → All (Stands ns) (frames mark (drop 1 (map (entry_for g) xs)))
dropped_framed ns mark g [] h = All-nil (Stands ns)
dropped_framed ns mark g (x ∷ xs) h = framed ns mark g xs (All-tail (IsFormulaNumber ns) x xs h)

present_of : (shapes : List Shape) (p : FormulaData) (spent : ℕ) (ns : List Node) (t : SearchTree) → IsTree shapes p spent ns t → IsOpenTrace shapes p spent ns t.text.items t.branch.entries (reverse t.waiting.items)
present_of shapes p spent ns t h = record { stacked = h.stacked; text = h.text }

-- a tree with these entries, pending branches and applications
tree_of : (shapes : List Shape) (p : FormulaData) (spent : ℕ) (ns : List Node) (t : SearchTree) (ts : List PoolApplication) (es : List PoolEntry) (ws : List Waiting) → IsOver ns t.branch → t.text.items ≡ ts → t.branch.entries ≡ es → reverse t.waiting.items ≡ ws → All (Stands ns) ws → IsOpenTrace shapes p spent ns ts es ws → IsTree shapes p spent ns t
tree_of shapes p spent ns t ts es ws over text entries waiting stand h = record {
  over = over;
  waiting = subst (All (Stands ns)) (sym waiting) stand;
  stacked = same.stacked;
  text = same.text;
}
  where
    same : IsOpenTrace shapes p spent ns t.text.items t.branch.entries (reverse t.waiting.items)
    same = subst (λ xs. IsOpenTrace shapes p spent ns xs t.branch.entries (reverse t.waiting.items)) (sym text) (subst (λ xs. IsOpenTrace shapes p spent ns ts xs (reverse t.waiting.items)) (sym entries) (subst (λ xs. IsOpenTrace shapes p spent ns ts es xs) (sym waiting) h))

module _ (shapes : List Shape) (p : FormulaData) (spent : ℕ) (ns : List Node) (old new : SearchTree) (h : IsTree shapes p spent ns old) (over : IsOver ns new.branch) where
  pub tree_straight : (g : Extension) (application : Application) → is_fork g.reason ≡ false → new.branch.entries ≡ old.branch.entries ++ entries_of g → new.waiting.items ≡ old.waiting.items → new.text.items ≡ old.text.items ++ Grown g ∷ [] → IsExtensionOf ns g application → IsGenerationFrom (branch_in ns old.branch) (entry_of g.reason) g.generation → IsDueOn shapes (branch_in ns old.branch) application → IsTree shapes p (spent + 1) ns new
  tree_straight g application straight entries waiting text is from due =
      tree_of shapes p (spent + 1) ns new (old.text.items ++ Grown g ∷ []) (old.branch.entries ++ entries_of g) (reverse old.waiting.items) over text entries (ap reverse waiting) h.waiting
      (grown_straight shapes p spent ns old.text.items old.branch.entries (reverse old.waiting.items) (present_of shapes p spent ns old h) g application is from due straight)

  pub tree_fork : (g : Extension) (application : Application) → is_fork g.reason ≡ true → 0 < length g.formulas.items → new.branch.entries ≡ old.branch.entries ++ take 1 (entries_of g) → reverse new.waiting.items ≡ frames (length old.branch.entries) (drop 1 (entries_of g)) ++ reverse old.waiting.items → new.text.items ≡ old.text.items ++ Grown g ∷ [] → IsExtensionOf ns g application → IsGenerationFrom (branch_in ns old.branch) (entry_of g.reason) g.generation → IsDueOn shapes (branch_in ns old.branch) application → IsTree shapes p (spent + 1) ns new
  tree_fork g application fork some entries waiting text is from due =
      let l = length-map g.formulas.items (entry_for g) in
      tree_of shapes p (spent + 1) ns new (old.text.items ++ Grown g ∷ []) (old.branch.entries ++ take 1 (entries_of g)) (frames (length old.branch.entries) (drop 1 (entries_of g)) ++ reverse old.waiting.items) over text entries waiting
      (All-append (Stands ns) (frames (length old.branch.entries) (drop 1 (entries_of g))) (reverse old.waiting.items) (dropped_framed ns (length old.branch.entries) g g.formulas.items is.formulas.each) h.waiting)
      (grown_fork shapes p spent ns old.text.items old.branch.entries (reverse old.waiting.items) (present_of shapes p spent ns old h) g application is from due fork (omega (arith, l, some)))

-- the branch is closed, and the next one becomes the current one
pub tree_closed : (shapes : List Shape) (p : FormulaData) (spent : ℕ) (ns : List Node) (old between new : SearchTree) (c : Closing) (application : Application) → between.branch ≡ old.branch → between.waiting.items ≡ old.waiting.items → between.text.items ≡ old.text.items ++ Closed c ∷ [] → IsTree shapes p spent ns old → IsClosingOf ns c application → IsDueOn shapes (branch_in ns old.branch) application → IsResumed ns between new → IsTree shapes p (spent + length c.chain.items) ns new
tree_closed shapes p spent ns old between new c application branch waiting text h is due r =
    let ws : reverse old.waiting.items ≡ r.next ∷ reverse new.waiting.items = ap reverse (sym waiting) ∙ r.waiting in
    let stacked : AreStacked (length old.branch.entries) (r.next ∷ reverse new.waiting.items) = subst (AreStacked (length old.branch.entries)) ws h.stacked in
    let stand : All (Stands ns) (r.next ∷ reverse new.waiting.items) = subst (All (Stands ns)) ws h.waiting in
    let more = closed shapes p spent ns old.text.items old.branch.entries (reverse old.waiting.items) (present_of shapes p spent ns old h) c application is due in
    tree_of shapes p (spent + length c.chain.items) ns new (old.text.items ++ Closed c ∷ []) (take r.next.mark old.branch.entries ++ r.next.entry ∷ []) (reverse new.waiting.items) r.over (ap (λ (ts : Vec PoolApplication _). ts.items) r.text ∙ text) (r.entries ∙ ap (λ (d : BranchData). take r.next.mark d.entries ++ r.next.entry ∷ []) branch) refl (All-tail (Stands ns) r.next (reverse new.waiting.items) stand)
    (resumed shapes p (spent + length c.chain.items) ns (old.text.items ++ Closed c ∷ []) old.branch.entries r.next (reverse new.waiting.items) stacked (subst (λ vs. IsText shapes p (spent + length c.chain.items) ns (old.text.items ++ Closed c ∷ []) (waiting_in ns old.branch.entries vs)) ws more))

-- the closed branch was the last one
pub tree_done : (shapes : List Shape) (p : FormulaData) (spent : ℕ) (ns : List Node) (old between new : SearchTree) (c : Closing) (application : Application) → between.waiting.items ≡ old.waiting.items → between.text.items ≡ old.text.items ++ Closed c ∷ [] → IsTree shapes p spent ns old → IsClosingOf ns c application → IsDueOn shapes (branch_in ns old.branch) application → HasNone between new → IsText shapes p (spent + length c.chain.items) ns new.text.items []
tree_done shapes p spent ns old between new c application waiting text h is due r =
    let none : reverse old.waiting.items ≡ [] = ap reverse (sym waiting ∙ r.none) in
    let more = closed shapes p spent ns old.text.items old.branch.entries (reverse old.waiting.items) (present_of shapes p spent ns old h) c application is due in
    subst (λ ts. IsText shapes p (spent + length c.chain.items) ns ts []) (sym (ap (λ (ts : Vec PoolApplication _). ts.items) r.text ∙ text))
    (subst (λ vs. IsText shapes p (spent + length c.chain.items) ns (old.text.items ++ Closed c ∷ []) (waiting_in ns old.branch.entries vs)) none more)

pub match_map : (b : Bool) (P Q R S : Type 0) → (P → R) → (Q → S) → MatchBool b P Q → MatchBool b R S
match_map true P Q R S f g h = f h
match_map false P Q R S f g h = g h
