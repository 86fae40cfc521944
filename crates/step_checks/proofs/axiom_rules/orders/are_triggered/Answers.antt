use Rattle.tableau.specs.PoolBranches.{branch_in}
use Rattle.tableau.proofs.NumberLemmas.{vec_ok}
use Rattle.tableau.specs.Terms.{term_at}
use Rattle.step_checks.proofs.DecisionsTruthLemmas.{refuted}
use Rattle.step_checks.proofs.OrderLemmas.{triggered_as_indexes, triggered_as_differing}
use Rattle.step_checks.proofs.axiom_rules.orders.are_triggered.Goals as goal

pub returns-then-indexes-clause-exact : goal.returns-then-indexes-clause-exact
returns-then-indexes-clause-exact c =
    triggered_as_indexes (branch_in c.args.pool.now c.args.branch.now) (term_at c.args.pool.now c.args.left) (term_at c.args.pool.now c.args.right) (c.in_ok-indexes.ensures.0 c.if-indexes.true)

pub returns-clause-exact : goal.returns-clause-exact
returns-clause-exact c =
    vec_ok c.are_said_to_differ.result (λ known h. triggered_as_differing (branch_in c.args.pool.now c.args.branch.now) (term_at c.args.pool.now c.args.left) (term_at c.args.pool.now c.args.right) (refuted c.in_ok-indexes.indexes c.if-indexes.false c.in_ok-indexes.ensures) known h) c.are_said_to_differ.ensures.exact
