-- Whether an application is valid, over a pool and over an extension of it.
use Rattle.std.proofs.Common.{◌≡◌, ℕ, Bool, true, false, List, [], ◌∷◌, ◌++◌, map, Option, Some, None, refl, sym, ap, ◌∙◌, subst}
use Rattle.std.specs.Prelude.{All, MatchBool}
use Rattle.std.proofs.lemmas.List.Elements.{All-head, All-tail, All-weaker}
use Rattle.fol.specs.declared.shapes.Shape.{Shape}
use Rattle.axioms.specs.declared.axiom.Axiom.TheVariants.{Equal}
use Rattle.axioms.specs.declared.axiom.Equation.TheVariants.{Itself as SameTerm}
use Rattle.certificates.specs.CertData.{AxiomStep, RewriteStep}
use Rattle.certificates.specs.CertView.{close_of_node}
use Rattle.term_pool.specs.Pools.{Extends, IsOneNumber}
use Rattle.term_pool.specs.declared.node.Node.{Node}
use Rattle.certificates.specs.BranchesBranch.{Branch}
use Rattle.certificates.specs.ProofTraces.{Application, PartsApplication, NameApplication, InstanceApplication, AxiomApplication, SplitApplication, CutApplication, BoundApplication, CloseApplication, OpenBranches, left_of, IsShortBranch, ClosesBranch}
use Rattle.tableau.specs.PoolBranches.{BranchData, IsOver}
use Rattle.tableau.proofs.PushLemmas.{says_still}
use Rattle.tableau.proofs.NumberLemmas.{formula_stays, number_stays}
use Rattle.explanations.specs.Chains.{step_in}
use Rattle.explanations.specs.declared.chain.ChainStep.{ChainStep}
use Rattle.explanations.specs.declared.chain.ChainStep.TheVariants.{Itself, Rewritten}
use Rattle.search.specs.Applications.{formulas_of}
use Rattle.search.specs.Trees.{branch_of, waiting_in}
use Rattle.search.specs.declared.trees.application.Closing.{Closing}
use Rattle.search.specs.declared.trees.tree.Waiting.{Waiting}
use Rattle.step_checks.specs.Links.{IsNamed, AreNamed}
use Rattle.tree_checks.specs.Grown.{IsDueWhenever}
use Rattle.tree_checks.specs.Steps.{HasNumbers}
use Rattle.tree_checks.specs.declared.grown.keeping.Kept.{Kept}
use Rattle.tree_checks.proofs.LeadLemmas.{numbers_later}
use Rattle.tree_checks.specs.Timely.{IsDueBy}
use Rattle.tree_checks.specs.Partial.{IsNumbered, IsChainNumbered, IsGrownBy, IsClosedBy, IsTakenBy, IsNotTakenBy, EndsBy, ArePartial}
use Rattle.tree_checks.specs.Walks.{open_if, waiting_of, opened, IsWalk, branches_by, GoesOn, GoesNowhere}
use Rattle.tree_checks.specs.declared.partial.applications.GivenExtension.{GivenExtension}
use Rattle.tree_checks.specs.declared.partial.applications.GivenChain.{GivenChain}
use Rattle.tree_checks.specs.declared.partial.applications.GivenApplication.{GivenApplication}
use Rattle.tree_checks.specs.declared.partial.applications.GivenApplication.TheVariants.{Grown, Closed}
use Rattle.tree_checks.specs.declared.partial.walk.Walk.{Walk}
use Rattle.tree_checks.proofs.StayLemmas.{IsIn, formulas_later, due_before, due_later}
use Rattle.tree_checks.proofs.AfterLemmas.{after, after_growing, after_entries, Grows, grows_of, grown_of, AreIn}
use Rattle.tree_checks.proofs.WalkLemmas.{with_kept}
use Rattle.search.proofs.StayLemmas.{waiting_stay}

-- ---- one application on one branch

-- an application that is due leaves some branch
none_left : (shapes : List Shape) (b : Branch) (application : Application) → IsDueWhenever shapes b application → left_of b application ≡ [] → ⊥
none_left shapes b (PartsApplication i ps) due e = absurd (cc)
none_left shapes b (NameApplication i v p) due e = absurd (cc)
none_left shapes b (InstanceApplication i t p g) due e = absurd (cc)
none_left shapes b (AxiomApplication name p g) due e = absurd (cc)
none_left shapes b (SplitApplication i []) due e = due.some refl
none_left shapes b (SplitApplication i (p ∷ ps)) due e = absurd (cc)
none_left shapes b (CutApplication t u g) due e = absurd (cc)
none_left shapes b (BoundApplication i t k) due e = absurd (cc)
none_left shapes b (CloseApplication chain by) due e = due

-- there is no current branch
pub none_open : (shapes : List Shape) (ns : List Node) (application : GivenApplication) (w : Walk) → w.is_open ≡ false → IsNotTakenBy shapes ns (opened ns w) application
none_open shapes ns application w closed = record { none = λ cs h. go application cs (subst (λ o. IsTakenBy shapes ns (open_if o ns w.branch.entries (waiting_of w)) application cs) closed h) }
  where
    go : (t : GivenApplication) (cs : OpenBranches) → IsTakenBy shapes ns [] t cs → ⊥
    go (Grown given) cs h = (let e = h.is in absurd (cc))
    go (Closed closing) cs h = (let e = h.is in absurd (cc))

module _ (shapes : List Shape) (ns : List Node) (w : Walk) (is_open : w.is_open ≡ true) where
  abbrev b : Branch
  b = branch_of ns w.branch.entries

  abbrev rest : OpenBranches
  rest = waiting_in ns w.branch.entries (waiting_of w)

  pub first_open : opened ns w ≡ b ∷ rest
  first_open = ap (λ o. open_if o ns w.branch.entries (waiting_of w)) is_open

  grown_there : (given : GivenExtension) (cs : OpenBranches) → IsGrownBy shapes ns (opened ns w) given cs → Grows shapes ns given b rest cs
  grown_there given cs h = grows_of shapes ns given b rest cs (subst (λ os. IsGrownBy shapes ns os given cs) first_open h)

  pub not_due : (given : GivenExtension) → (IsDueBy shapes ns b given → ⊥) → IsNotTakenBy shapes ns (opened ns w) (Grown given)
  not_due given none = record { none = λ cs h. none (grown_there given cs h).due }

  pub too_long : (given : GivenExtension) → GoesNowhere ns w given.extension → IsNotTakenBy shapes ns (opened ns w) (Grown given)
  too_long given nowhere = record {
    none = λ cs h. (
        let it = grown_there given cs h in
        let e = after_entries ns w.branch.entries given.extension in
        let none = nowhere.none (subst (All IsShortBranch) e it.short) in
        none_left shapes b it.due.growing.application it.due.growing.due (after_growing ns shapes b given.extension it.due.growing ∙ e ∙ none));
  }

  pub not_closed : (closing : Closing) → (ClosesBranch shapes b (map (step_in ns) closing.chain.items) (close_of_node closing.by) → ⊥) → IsNotTakenBy shapes ns (opened ns w) (Closed closing)
  not_closed closing none = record {
    none = λ cs h. (
        let both : b ∷ rest ≡ h.b ∷ cs = sym first_open ∙ h.is in
        let first : h.b ≡ b = cc in
        none (subst (λ x. ClosesBranch shapes x (map (step_in ns) closing.chain.items) (close_of_node closing.by)) first h.closes));
  }

  pub closed_so : (closing : Closing) (cs : OpenBranches) → cs ≡ rest → ClosesBranch shapes b (map (step_in ns) closing.chain.items) (close_of_node closing.by) → IsClosedBy shapes ns (opened ns w) closing cs
  closed_so closing cs e closes = record { b = b; is = first_open ∙ ap (λ os. b ∷ os) (sym e); closes = closes }

-- ---- an extension, after which the walk continues over the extended pool

module _ (shapes : List Shape) (ns ms : List Node) (grown : Extends ns ms) (w : Walk) (h : IsWalk ns w) (is_open : w.is_open ≡ true) (given : GivenExtension) (numbers : HasNumbers ns given.extension) (k : Kept) where
  same_branch : branch_of ms w.branch.entries ≡ branch_of ns w.branch.entries
  same_branch = says_still ns ms grown w.branch.entries h.over.formulas

  same_after : after (formulas_of ns given.extension) (branch_of ns w.branch.entries) given.extension ≡ branches_by ms w.branch.entries given.extension
  same_after =
      let f = formulas_later ns ms grown given.extension numbers in
      let e = same_branch in
      (λ i. after (sym f i) (sym e i) given.extension) ∙ after_entries ms w.branch.entries given.extension

  pub grown_so : IsDueBy shapes ns (branch_of ns w.branch.entries) given → (v : Walk) → GoesOn ms (with_kept w k) given.extension v → IsGrownBy shapes ns (opened ns w) given (opened ms v)
  grown_so due v on =
      let es = w.branch.entries in
      let waits = waiting_stay ns ms grown es (waiting_of w) h.over.formulas h.waiting in
      let behind : Grows shapes ns given (branch_of ns es) (waiting_in ns es (waiting_of w)) (opened ms v) = record {
        due = due;
        short = subst (All IsShortBranch) (sym same_after) on.short;
        left = on.now_open ∙ (λ i. sym same_after i ++ waits i);
      } in
      subst (λ os. IsGrownBy shapes ns os given (opened ms v)) (sym (first_open shapes ns w is_open)) (grown_of shapes ns given (branch_of ns es) (waiting_in ns es (waiting_of w)) (opened ms v) behind)

  pub grown_nowhere : GoesNowhere ms (with_kept w k) given.extension → IsNotTakenBy shapes ns (opened ns w) (Grown given)
  grown_nowhere nowhere =
      let e = sym (after_entries ns w.branch.entries given.extension) ∙ same_after in
      too_long shapes ns w is_open given (record { none = λ short. e ∙ nowhere.none (subst (All IsShortBranch) e short) })

  pub grown_or_not : IsDueBy shapes ns (branch_of ns w.branch.entries) given → (v : Walk) (known : Bool) → MatchBool known (GoesOn ms (with_kept w k) given.extension v) (GoesNowhere ms (with_kept w k) given.extension) → MatchBool known (IsGrownBy shapes ns (opened ns w) given (opened ms v)) (IsNotTakenBy shapes ns (opened ns w) (Grown given))
  grown_or_not due v true on = grown_so due v on
  grown_or_not due v false nowhere = grown_nowhere nowhere

-- ---- the same application over two pools

module _ (shapes : List Shape) (ns ms : List Node) (grown : Extends ns ms) where
  step_same : (s : ChainStep) → IsNamed ns s → step_in ms s ≡ step_in ns s
  step_same (Itself n) h = ap (AxiomStep (Equal SameTerm)) (formula_stays ns ms grown n h)
  step_same (Rewritten r) h =
      let pattern = formula_stays ns ms grown r.pattern h.0 in
      let formula = formula_stays ns ms grown r.formula h.1 in
      λ i. RewriteStep r.equation r.source r.variable (pattern i) (formula i)

  each_same : (ss : List ChainStep) → All (IsNamed ns) ss → map (step_in ms) ss ≡ map (step_in ns) ss
  each_same [] h = refl
  each_same (s ∷ ss) h =
      let first = step_same s (All-head (IsNamed ns) s ss h) in
      let rest = each_same ss (All-tail (IsNamed ns) s ss h) in
      λ i. first i ∷ rest i

  pub steps_same : (closing : Closing) → AreNamed ns closing.chain.items → map (step_in ms) closing.chain.items ≡ map (step_in ns) closing.chain.items
  steps_same closing h = each_same closing.chain.items h.each

  -- numbers of the one pool are also numbers of the other
  named_later : (ss : List ChainStep) → AreNamed ns ss → AreNamed ms ss
  named_later ss h = record { each = All-weaker (IsNamed ns) (IsNamed ms) go ss h.each }
    where
      go : (s : ChainStep) → IsNamed ns s → IsNamed ms s
      go (Itself n) k = number_stays ns ms grown n k
      go (Rewritten r) k = (number_stays ns ms grown r.pattern k.0, number_stays ns ms grown r.formula k.1)

  pub numbered_later : (application : GivenApplication) → IsNumbered ns application → IsNumbered ms application
  numbered_later (Grown given) h = numbers_later ns ms grown given.extension h
  numbered_later (Closed closing) h = named_later closing.chain.items h

  pub chain_later : (chain : Option GivenChain) → IsChainNumbered ns chain → IsChainNumbered ms chain
  chain_later None h = tt
  chain_later (Some given) h = named_later given.closing.chain.items h

  module _ (one : IsOneNumber ms) where
    taken_before_if : (o : Bool) (d : BranchData) (ws : List Waiting) → IsOver ms d → AreIn ns (open_if o ms d.entries ws) → (application : GivenApplication) → IsNumbered ns application → (cs : OpenBranches) → IsTakenBy shapes ms (open_if o ms d.entries ws) application cs → IsTakenBy shapes ns (open_if o ms d.entries ws) application cs
    taken_before_if false d ws over inside (Grown given) numbers cs h = (let e = h.is in absurd (cc))
    taken_before_if true d ws over inside (Grown given) numbers cs h =
        let first = branch_of ms d.entries in
        let others = waiting_in ms d.entries ws in
        let it = grows_of shapes ms given first others cs h in
        let e = formulas_later ns ms grown given.extension numbers in
        grown_of shapes ns given first others cs (record {
          due = due_before ns ms grown one d over (All-head (All (IsIn ns)) first others inside) shapes given numbers it.due;
          short = subst (λ ps. All IsShortBranch (after ps first given.extension)) e it.short;
          left = it.left ∙ ap (λ ps. after ps first given.extension ++ others) e;
        })
    taken_before_if o d ws over inside (Closed closing) numbers cs h = record { b = h.b; is = h.is; closes = subst (λ ss. ClosesBranch shapes h.b ss (close_of_node closing.by)) (steps_same closing numbers) h.closes }

    taken_later_if : (o : Bool) (d : BranchData) (ws : List Waiting) → IsOver ms d → AreIn ns (open_if o ms d.entries ws) → (application : GivenApplication) → IsNumbered ns application → (cs : OpenBranches) → IsTakenBy shapes ns (open_if o ms d.entries ws) application cs → IsTakenBy shapes ms (open_if o ms d.entries ws) application cs
    taken_later_if false d ws over inside (Grown given) numbers cs h = (let e = h.is in absurd (cc))
    taken_later_if true d ws over inside (Grown given) numbers cs h =
        let first = branch_of ms d.entries in
        let others = waiting_in ms d.entries ws in
        let it = grows_of shapes ns given first others cs h in
        let e = sym (formulas_later ns ms grown given.extension numbers) in
        grown_of shapes ms given first others cs (record {
          due = due_later ns ms grown one d over (All-head (All (IsIn ns)) first others inside) shapes given numbers it.due;
          short = subst (λ ps. All IsShortBranch (after ps first given.extension)) e it.short;
          left = it.left ∙ ap (λ ps. after ps first given.extension ++ others) e;
        })
    taken_later_if o d ws over inside (Closed closing) numbers cs h = record { b = h.b; is = h.is; closes = subst (λ ss. ClosesBranch shapes h.b ss (close_of_node closing.by)) (sym (steps_same closing numbers)) h.closes }

    module _ (w : Walk) (h : IsWalk ms w) (inside : AreIn ns (opened ms w)) (application : GivenApplication) (numbers : IsNumbered ns application) where
      pub taken_before : (cs : OpenBranches) → IsTakenBy shapes ms (opened ms w) application cs → IsTakenBy shapes ns (opened ms w) application cs
      taken_before cs t = taken_before_if w.is_open w.branch (waiting_of w) h.over inside application numbers cs t

      pub not_taken_before : IsNotTakenBy shapes ms (opened ms w) application → IsNotTakenBy shapes ns (opened ms w) application
      not_taken_before none = record { none = λ cs t. none.none cs (taken_later_if w.is_open w.branch (waiting_of w) h.over inside application numbers cs t) }

  -- ---- the end of a trace

  ends_before : (bs : OpenBranches) (chain : Option GivenChain) → IsChainNumbered ns chain → EndsBy shapes ms bs chain → EndsBy shapes ns bs chain
  ends_before bs None named h = tt
  ends_before bs (Some given) named h = record {
    b = h.b;
    rest = h.rest;
    is = h.is;
    closes = subst (λ ss. ClosesBranch shapes h.b ss (close_of_node given.closing.by)) (steps_same given.closing named) h.closes;
    within = h.within;
  }

  ends_later : (bs : OpenBranches) (chain : Option GivenChain) → IsChainNumbered ns chain → EndsBy shapes ns bs chain → EndsBy shapes ms bs chain
  ends_later bs None named h = tt
  ends_later bs (Some given) named h = record {
    b = h.b;
    rest = h.rest;
    is = h.is;
    closes = subst (λ ss. ClosesBranch shapes h.b ss (close_of_node given.closing.by)) (sym (steps_same given.closing named)) h.closes;
    within = h.within;
  }

  pub ended_before : (bs : OpenBranches) (chain : Option GivenChain) (count : ℕ) → IsChainNumbered ns chain → ArePartial shapes ms bs [] chain count → ArePartial shapes ns bs [] chain count
  ended_before bs chain count named h = record { left = h.left; taken = h.taken; ends = ends_before h.left chain named h.ends; steps = h.steps }

  pub ended_later : (bs : OpenBranches) (chain : Option GivenChain) (count : ℕ) → IsChainNumbered ns chain → ArePartial shapes ns bs [] chain count → ArePartial shapes ms bs [] chain count
  ended_later bs chain count named h = record { left = h.left; taken = h.taken; ends = ends_later h.left chain named h.ends; steps = h.steps }
