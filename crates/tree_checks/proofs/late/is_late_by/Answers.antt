use Rattle.tableau.specs.PoolBranches.{branch_in}
use Rattle.tree_checks.proofs.FamilyLemmas.{refuted}
use Rattle.tree_checks.proofs.LateLemmas.{not_met, is_closed, late_so, is_late}
use Rattle.tree_checks.proofs.late.is_late_by.Goals as goal

pub returns-then-not-met-clause-exact : goal.returns-then-not-met-clause-exact
returns-then-not-met-clause-exact c = not_met c.args.shapes.now c.args.pool.now (branch_in c.args.pool.now c.args.branch.now) c.args.values.now (refuted c.in_ok-met.met c.if-not-met.true c.in_ok-met.ensures)

pub returns-then-not-met-clause-late : goal.returns-then-not-met-clause-late
returns-then-not-met-clause-late c = λ t. absurd (cc)

pub returns-then-not-is_open-clause-exact : goal.returns-then-not-is_open-clause-exact
returns-then-not-is_open-clause-exact c = is_closed c.args.shapes.now c.args.pool.now (branch_in c.args.pool.now c.args.branch.now) c.args.values.now (refuted c.in_ok-is_open.is_open c.if-not-is_open.true c.in_ok-is_open.ensures)

pub returns-then-not-is_open-clause-late : goal.returns-then-not-is_open-clause-late
returns-then-not-is_open-clause-late c = λ t. absurd (cc)

pub returns-clause-exact : goal.returns-clause-exact
returns-clause-exact c =
    late_so c.args.shapes.now c.args.pool.now (branch_in c.args.pool.now c.args.branch.now) c.args.values.now (c.in_ok-met.ensures.0 c.if-not-met.false) (c.in_ok-is_open.ensures.0 c.if-not-is_open.false) c.in_ok-nothing.nothing c.in_ok-nothing.ensures.exact

pub returns-clause-late : goal.returns-clause-late
returns-clause-late c =
    let known = late_so c.args.shapes.now c.args.pool.now (branch_in c.args.pool.now c.args.branch.now) c.args.values.now (c.in_ok-met.ensures.0 c.if-not-met.false) (c.in_ok-is_open.ensures.0 c.if-not-is_open.false) c.in_ok-nothing.nothing c.in_ok-nothing.ensures.exact in
    is_late c.args.shapes.now c.args.pool.now (branch_in c.args.pool.now c.args.branch.now) c.args.values.now c.in_ok-nothing.nothing known
