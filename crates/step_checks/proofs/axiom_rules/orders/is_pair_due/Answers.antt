use Rattle.term_pool.proofs.GrowthLemmas.{extends_then}
use Rattle.tableau.specs.PoolBranches.{branch_in}
use Rattle.tableau.proofs.NumberLemmas.{vec_ok}
use Rattle.tableau.specs.Terms.{term_at}
use Rattle.axiom_strategy.proofs.GrownLemmas.{number_grown, over_grown, classes_grown}
use Rattle.step_checks.proofs.DecisionsTruthLemmas.{refuted}
use Rattle.step_checks.proofs.OrderLemmas.{pair_fails, pair_tells, triggered_before}
use Rattle.step_checks.proofs.axiom_rules.orders.is_pair_due.Goals as goal

pub returns-then-not-unordered-clause-exact : goal.returns-then-not-unordered-clause-exact
returns-then-not-unordered-clause-exact c =
    pair_fails (branch_in c.args.pool.now c.args.branch.now) (term_at c.args.pool.now c.args.left) (term_at c.args.pool.now c.args.right) (refuted c.in_ok-unordered.unordered c.if-not-unordered.true c.in_ok-unordered.ensures.exact)

pub are_triggered_numbers-requires-clause-over : goal.are_triggered_numbers-requires-clause-over
are_triggered_numbers-requires-clause-over c = over_grown c.args.pool.now c.are_unordered.new.pool c.are_unordered.ensures.extends c.args.branch.now c.requires.over

pub are_triggered_numbers-requires-clause-classes : goal.are_triggered_numbers-requires-clause-classes
are_triggered_numbers-requires-clause-classes c = classes_grown c.args.pool.now c.are_unordered.new.pool c.are_unordered.ensures.extends c.args.branch.now c.requires.over c.args.classes.now c.requires.classes

pub are_triggered_numbers-requires-clause-left : goal.are_triggered_numbers-requires-clause-left
are_triggered_numbers-requires-clause-left c = number_grown c.args.pool.now c.are_unordered.new.pool c.are_unordered.ensures.extends c.args.left c.requires.left.number

pub are_triggered_numbers-requires-clause-right : goal.are_triggered_numbers-requires-clause-right
are_triggered_numbers-requires-clause-right c = number_grown c.args.pool.now c.are_unordered.new.pool c.are_unordered.ensures.extends c.args.right c.requires.right.number

pub returns-clause-extends : goal.returns-clause-extends
returns-clause-extends c = extends_then c.are_unordered.ensures.extends c.are_triggered_numbers.ensures.extends

pub returns-clause-exact : goal.returns-clause-exact
returns-clause-exact c =
    vec_ok c.are_triggered_numbers.result (λ known h. pair_tells (branch_in c.args.pool.now c.args.branch.now) (term_at c.args.pool.now c.args.left) (term_at c.args.pool.now c.args.right) known (c.in_ok-unordered.ensures.exact.0 c.if-not-unordered.false) (triggered_before c.args.pool.now c.are_unordered.new.pool c.are_unordered.ensures.extends c.args.branch.now c.requires.over c.args.left c.args.right c.requires.left.number c.requires.right.number known h)) c.are_triggered_numbers.ensures.exact
