use Rattle.std.proofs.Common.{◌↔◌, ◌∙◌, IsTrue, map, subst, arith}
use Rattle.certificates.specs.CertView.{close_of_node}
use Rattle.certificates.specs.ProofTraces.{ClosesBranch}
use Rattle.tableau.specs.PoolBranches.{BranchData, branch_in}
use Rattle.explanations.specs.Chains.{step_in}
use Rattle.tree_checks.proofs.EndLemmas.{none_ends, too_many_links, ends_known}
use Rattle.tree_checks.proofs.partial.ending.ends_among.Goals as goal

pub returns-then-not-walk : goal.returns-then-not-walk
returns-then-not-walk c = λ shapes. none_ends shapes c.args.pool.now c.args.walk.now c.args.given.now c.if-not-walk.true

pub returns-then-given-len : goal.returns-then-given-len
returns-then-given-len c = λ shapes. too_many_links shapes c.args.pool.now c.args.walk.now c.args.given.now (omega arith)

pub is_closing_due-requires-clause-over : goal.is_closing_due-requires-clause-over
is_closing_due-requires-clause-over c = c.in_ok-read.ensures.walk.over

pub is_closing_due-requires-clause-entries : goal.is_closing_due-requires-clause-entries
is_closing_due-requires-clause-entries c = c.as_slice.ensures.value ∙ c.in_ok-read.ensures.trees

pub returns : goal.returns
returns c = λ shapes. (
    let ns = c.args.pool.now in
    let closing = c.args.given.now.closing in
    let known = subst (λ (d : BranchData). IsTrue c.in_ok-known.known ↔ ClosesBranch shapes (branch_in ns d) (map (step_in ns) closing.chain.items) (close_of_node closing.by)) c.read.ensures.branch (c.in_ok-known.ensures shapes) in
    ends_known shapes ns c.args.walk.now c.args.given.now c.if-not-walk.false (omega arith) c.in_ok-known.known known)
