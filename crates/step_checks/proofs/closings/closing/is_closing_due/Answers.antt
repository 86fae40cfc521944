use Rattle.certificates.specs.CertView.{close_of_node}
use Rattle.tableau.specs.PoolBranches.{branch_in}
use Rattle.step_checks.proofs.ClosingLemmas.{too_long, too_deep}
use Rattle.step_checks.proofs.closings.closing.is_closing_due.Goals as goal

pub returns-then-not-is_short : goal.returns-then-not-is_short
returns-then-not-is_short c = λ shapes. (
    let ns = c.args.pool.now in
    let short = rw c.as_slice-steps.ensures.value at c.is_short.ensures in
    too_long ns shapes (branch_in ns c.args.branch.now) c.args.closing.now.chain.items (close_of_node c.args.closing.now.by) c.args.entries.now c.requires.entries c.is_short.result short c.if-not-is_short.true)

pub returns-then-not-are_shallow : goal.returns-then-not-are_shallow
returns-then-not-are_shallow c = λ shapes. (
    let ns = c.args.pool.now in
    let shallow = rw c.as_slice-steps.ensures.value at c.are_shallow.ensures in
    too_deep ns shapes (branch_in ns c.args.branch.now) c.args.closing.now.chain.items (close_of_node c.args.closing.now.by) c.are_shallow.result shallow c.if-not-are_shallow.true)
