use Rattle.std.proofs.Common.{◌↔◌, ◌∙◌, IsTrue, reverse, map, subst}
use Rattle.certificates.specs.CertView.{close_of_node}
use Rattle.certificates.specs.ProofTraces.{ClosesBranch}
use Rattle.tableau.specs.PoolBranches.{BranchData, branch_in}
use Rattle.explanations.specs.Chains.{step_in}
use Rattle.search.specs.Trees.{waiting_in}
use Rattle.tree_checks.proofs.GrownTruthLemmas.{refuted}
use Rattle.tree_checks.specs.Walks.{opened}
use Rattle.tree_checks.specs.declared.partial.applications.GivenApplication.TheVariants.{Closed}
use Rattle.tree_checks.proofs.TakenLemmas.{none_open, not_closed, closed_so}
use Rattle.tree_checks.proofs.partial.stepping.close.Goals as goal

pub returns-then-not-walk-clause-exact : goal.returns-then-not-walk-clause-exact
returns-then-not-walk-clause-exact c = none_open c.args.shapes.now c.args.pool.now (Closed c.args.closing.now) c.args.walk.now c.if-not-walk.true

pub is_closing_due-requires-clause-over : goal.is_closing_due-requires-clause-over
is_closing_due-requires-clause-over c = c.in_ok-read.ensures.walk.over

pub is_closing_due-requires-clause-entries : goal.is_closing_due-requires-clause-entries
is_closing_due-requires-clause-entries c = c.as_slice.ensures.value ∙ c.in_ok-read.ensures.trees

pub returns-then-not-closes-clause-exact : goal.returns-then-not-closes-clause-exact
returns-then-not-closes-clause-exact c =
    let ns = c.args.pool.now in
    let shapes = c.args.shapes.now in
    let closing = c.args.closing.now in
    let known = subst (λ (d : BranchData). IsTrue c.in_ok-closes.closes ↔ ClosesBranch shapes (branch_in ns d) (map (step_in ns) closing.chain.items) (close_of_node closing.by)) c.read.ensures.branch (c.in_ok-closes.ensures shapes) in
    not_closed shapes ns c.args.walk.now c.if-not-walk.false closing (refuted c.in_ok-closes.closes c.if-not-closes.true known)

pub returns-clause-exact : goal.returns-clause-exact
returns-clause-exact c =
    let ns = c.args.pool.now in
    let shapes = c.args.shapes.now in
    let closing = c.args.closing.now in
    let known = subst (λ (d : BranchData). IsTrue c.in_ok-closes.closes ↔ ClosesBranch shapes (branch_in ns d) (map (step_in ns) closing.chain.items) (close_of_node closing.by)) c.read.ensures.branch (c.in_ok-closes.ensures shapes) in
    let branch = c.read.ensures.branch in
    let waiting = c.read.ensures.waiting in
    closed_so shapes ns c.args.walk.now c.if-not-walk.false closing (opened ns c.resume.new.walk) (c.in_ok-resume.ensures.now_open ∙ (λ i. waiting_in ns (branch i).entries (reverse (waiting i).items))) (known.0 c.if-not-closes.false)
