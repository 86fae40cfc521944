use Rattle.tableau.proofs.GraphLemmas.{ok_map}
use Rattle.tableau.specs.PoolBranches.{branch_in}
use Rattle.term_pool.proofs.GrowthLemmas.{extends_then}
use Rattle.tree_checks.specs.Steps.{first_branch}
use Rattle.tree_checks.proofs.BranchReachedLemmas.{variable_left, nowhere_open, none_left, open_exactly, open_grown}
use Rattle.tree_checks.proofs.branch.reached.is_open_branch.Goals as goal

pub returns-in_default-clause-exact : goal.returns-in_default-clause-exact
returns-in_default-clause-exact c =
    let ns = c.args.pool.now in
    nowhere_open c.args.shapes.now ns (first_branch ns c.args.denial) c.args.steps.now c.args.values.now (rw c.in_default.is at c.in_ok-branch.ensures.exact)

pub returns-then-not-branch-clause-exact : goal.returns-then-not-branch-clause-exact
returns-then-not-branch-clause-exact c =
    let ns = c.args.pool.now in
    none_left c.args.shapes.now ns (first_branch ns c.args.denial) c.args.steps.now c.args.values.now (branch_in c.is_grown.new.pool c.in-Some.branch) (rw c.in-Some.is at c.in_ok-branch.ensures.exact) c.in_ok-has_number_left.field-0 c.if-not-branch.true c.in_ok-has_number_left.ensures

pub is_open-requires-clause-room : goal.is_open-requires-clause-room
is_open-requires-clause-room c = variable_left (branch_in c.is_grown.new.pool c.in-Some.branch) (c.in_ok-has_number_left.ensures.0 c.if-not-branch.false)

pub returns-clause-extends : goal.returns-clause-extends
returns-clause-extends c = extends_then c.is_grown.ensures.extends c.is_open.ensures.extends

pub returns-clause-exact : goal.returns-clause-exact
returns-clause-exact c =
    let room = c.in_ok-has_number_left.ensures.0 c.if-not-branch.false in
    let over = rw c.in-Some.is at c.in_ok-branch.ensures.over in
    let leads = rw c.in-Some.is at c.in_ok-branch.ensures.exact in
    ok_map c.is_open.result (λ r h. open_exactly c.args.shapes.now c.args.pool.now c.is_grown.new.pool c.is_grown.ensures.extends c.one_number.ensures c.args.denial c.requires.denial c.args.steps.now c.args.values.now c.in-Some.branch over leads room r h) c.is_open.ensures.exact

pub returns-clause-open : goal.returns-clause-open
returns-clause-open c = λ p e. (
    let grown = rw c.in-Some.is at (c.in_ok-branch.ensures.grown p e) in
    ok_map c.is_open.result (λ r h known. open_grown c.args.shapes.now p c.is_grown.new.pool (branch_in c.is_grown.new.pool c.in-Some.branch) c.args.values.now grown (h.0 known)) c.is_open.ensures.exact)
