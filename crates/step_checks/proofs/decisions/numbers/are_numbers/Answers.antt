use Rattle.term_pool.proofs.GrowthLemmas.{extends_then}
use Rattle.tableau.specs.PoolBranches.{branch_in}
use Rattle.tableau.proofs.NumberLemmas.{vec_ok}
use Rattle.tableau.specs.Terms.{term_at}
use Rattle.axiom_strategy.proofs.GrownLemmas.{number_grown, over_grown}
use Rattle.step_checks.proofs.DecisionsNumberLemmas.{number_there, not_both, both_so}
use Rattle.step_checks.proofs.decisions.numbers.are_numbers.Goals as goal

pub returns-then-not-one-clause-exact : goal.returns-then-not-one-clause-exact
returns-then-not-one-clause-exact c =
    not_both (branch_in c.args.pool.now c.args.branch.now) (term_at c.args.pool.now c.args.left) (term_at c.args.pool.now c.args.right) c.in_ok-one.one c.if-not-one.true c.in_ok-one.ensures.exact

pub is_number-requires-2-clause-over : goal.is_number-requires-2-clause-over
is_number-requires-2-clause-over c = over_grown c.args.pool.now c.is_number.new.pool c.is_number.ensures.extends c.args.branch.now c.requires.over

pub is_number-requires-2-clause-term : goal.is_number-requires-2-clause-term
is_number-requires-2-clause-term c = number_grown c.args.pool.now c.is_number.new.pool c.is_number.ensures.extends c.args.right c.requires.right

pub returns-clause-extends : goal.returns-clause-extends
returns-clause-extends c = extends_then c.is_number.ensures.extends c.is_number-2.ensures.extends

pub returns-clause-exact : goal.returns-clause-exact
returns-clause-exact c =
    vec_ok c.is_number-2.result (λ known h. both_so (branch_in c.args.pool.now c.args.branch.now) (term_at c.args.pool.now c.args.left) (term_at c.args.pool.now c.args.right) (c.in_ok-one.ensures.exact.0 c.if-not-one.false) known (number_there c.args.pool.now c.is_number.new.pool c.is_number.ensures.extends c.args.branch.now c.requires.over c.args.right c.requires.right known h)) c.is_number-2.ensures.exact
