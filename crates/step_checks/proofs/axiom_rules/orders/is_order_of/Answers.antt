use Rattle.term_pool.proofs.GrowthLemmas.{extends_then}
use Rattle.tableau.specs.PoolBranches.{branch_in}
use Rattle.tableau.specs.Numbers.{formula_at}
use Rattle.tableau.proofs.NumberLemmas.{vec_ok}
use Rattle.tableau.specs.Terms.{term_at}
use Rattle.axiom_strategy.proofs.GrownLemmas.{branch_term_grown, over_grown, classes_grown}
use Rattle.step_checks.proofs.DecisionsTruthLemmas.{refuted}
use Rattle.step_checks.proofs.OrderLemmas.{order_fails, order_tells, pair_before}
use Rattle.step_checks.proofs.axiom_rules.orders.is_order_of.Goals as goal

pub is_instance-requires-clause-left : goal.is_instance-requires-clause-left
is_instance-requires-clause-left c = c.requires.left.number

pub is_instance-requires-clause-right : goal.is_instance-requires-clause-right
is_instance-requires-clause-right c = c.requires.right.number

pub returns-then-not-same-clause-exact : goal.returns-then-not-same-clause-exact
returns-then-not-same-clause-exact c =
    order_fails (branch_in c.args.pool.now c.args.branch.now) (term_at c.args.pool.now c.args.left) (term_at c.args.pool.now c.args.right) (formula_at c.args.pool.now c.args.formula) (refuted c.in_ok-same.same c.if-not-same.true c.in_ok-same.ensures.exact)

pub is_pair_due-requires-clause-over : goal.is_pair_due-requires-clause-over
is_pair_due-requires-clause-over c = over_grown c.args.pool.now c.is_instance.new.pool c.is_instance.ensures.extends c.args.branch.now c.requires.over

pub is_pair_due-requires-clause-classes : goal.is_pair_due-requires-clause-classes
is_pair_due-requires-clause-classes c = classes_grown c.args.pool.now c.is_instance.new.pool c.is_instance.ensures.extends c.args.branch.now c.requires.over c.args.classes.now c.requires.classes

pub is_pair_due-requires-clause-left : goal.is_pair_due-requires-clause-left
is_pair_due-requires-clause-left c = branch_term_grown c.args.pool.now c.is_instance.new.pool c.is_instance.ensures.extends c.args.branch.now c.requires.over c.args.left c.requires.left

pub is_pair_due-requires-clause-right : goal.is_pair_due-requires-clause-right
is_pair_due-requires-clause-right c = branch_term_grown c.args.pool.now c.is_instance.new.pool c.is_instance.ensures.extends c.args.branch.now c.requires.over c.args.right c.requires.right

pub returns-clause-extends : goal.returns-clause-extends
returns-clause-extends c = extends_then c.is_instance.ensures.extends c.is_pair_due.ensures.extends

pub returns-clause-exact : goal.returns-clause-exact
returns-clause-exact c =
    vec_ok c.is_pair_due.result (λ known h. order_tells (branch_in c.args.pool.now c.args.branch.now) (term_at c.args.pool.now c.args.left) (term_at c.args.pool.now c.args.right) (formula_at c.args.pool.now c.args.formula) known (c.in_ok-same.ensures.exact.0 c.if-not-same.false) (pair_before c.args.pool.now c.is_instance.new.pool c.is_instance.ensures.extends c.args.branch.now c.requires.over c.args.left c.args.right c.requires.left.number c.requires.right.number known h)) c.is_pair_due.ensures.exact
