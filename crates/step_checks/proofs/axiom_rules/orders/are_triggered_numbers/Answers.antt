use Rattle.term_pool.proofs.GrowthLemmas.{extends_then}
use Rattle.tableau.proofs.NumberLemmas.{vec_ok}
use Rattle.axiom_strategy.proofs.GrownLemmas.{number_grown, over_grown}
use Rattle.step_checks.proofs.DecisionsTruthLemmas.{refuted}
use Rattle.step_checks.proofs.OrderLemmas.{first_fails, second_tells, numbers_before}
use Rattle.step_checks.proofs.axiom_rules.orders.are_triggered_numbers.Goals as goal

pub returns-then-not-triggered-clause-exact : goal.returns-then-not-triggered-clause-exact
returns-then-not-triggered-clause-exact c = first_fails (refuted c.in_ok-triggered.triggered c.if-not-triggered.true c.in_ok-triggered.ensures.exact)

pub are_numbers-requires-clause-over : goal.are_numbers-requires-clause-over
are_numbers-requires-clause-over c = over_grown c.args.pool.now c.are_triggered.new.pool c.are_triggered.ensures.extends c.args.branch.now c.requires.over

pub are_numbers-requires-clause-left : goal.are_numbers-requires-clause-left
are_numbers-requires-clause-left c = number_grown c.args.pool.now c.are_triggered.new.pool c.are_triggered.ensures.extends c.args.left c.requires.left

pub are_numbers-requires-clause-right : goal.are_numbers-requires-clause-right
are_numbers-requires-clause-right c = number_grown c.args.pool.now c.are_triggered.new.pool c.are_triggered.ensures.extends c.args.right c.requires.right

pub returns-clause-extends : goal.returns-clause-extends
returns-clause-extends c = extends_then c.are_triggered.ensures.extends c.are_numbers.ensures.extends

pub returns-clause-exact : goal.returns-clause-exact
returns-clause-exact c =
    vec_ok c.are_numbers.result (λ known h. second_tells known (c.in_ok-triggered.ensures.exact.0 c.if-not-triggered.false) (numbers_before c.args.pool.now c.are_triggered.new.pool c.are_triggered.ensures.extends c.args.branch.now c.requires.over c.args.left c.args.right c.requires.left c.requires.right known h)) c.are_numbers.ensures.exact
