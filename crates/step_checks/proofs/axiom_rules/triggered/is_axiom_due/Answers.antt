use Rattle.term_pool.proofs.GrowthLemmas.{extends_then}
use Rattle.tableau.specs.PoolBranches.{branch_in}
use Rattle.tableau.specs.Numbers.{formula_at}
use Rattle.tableau.proofs.NumberLemmas.{number_stays, vec_ok}
use Rattle.axiom_strategy.proofs.GrownLemmas.{over_grown, classes_grown}
use Rattle.step_checks.proofs.DecisionsTruthLemmas.{refuted}
use Rattle.step_checks.proofs.AxiomLemmas.{by_table, no_table, decision_before}
use Rattle.step_checks.proofs.axiom_rules.triggered.is_axiom_due.Goals as goal

pub returns-then-listed-clause-exact : goal.returns-then-listed-clause-exact
returns-then-listed-clause-exact c =
    by_table c.args.shapes.now (branch_in c.args.pool.now c.args.branch.now) c.args.step.name (formula_at c.args.pool.now c.args.step.formula) c.args.step.generation (c.in_ok-listed.ensures.exact.0 c.if-listed.true)

pub is_decision_due-requires-clause-over : goal.is_decision_due-requires-clause-over
is_decision_due-requires-clause-over c = over_grown c.args.pool.now c.is_listed.new.pool c.is_listed.ensures.extends c.args.branch.now c.requires.over

pub is_decision_due-requires-clause-classes : goal.is_decision_due-requires-clause-classes
is_decision_due-requires-clause-classes c = classes_grown c.args.pool.now c.is_listed.new.pool c.is_listed.ensures.extends c.args.branch.now c.requires.over c.args.classes.now c.requires.classes

pub is_decision_due-requires-clause-formula : goal.is_decision_due-requires-clause-formula
is_decision_due-requires-clause-formula c = number_stays c.args.pool.now c.is_listed.new.pool c.is_listed.ensures.extends c.args.step.formula c.requires.formula

pub returns-clause-extends : goal.returns-clause-extends
returns-clause-extends c = extends_then c.is_listed.ensures.extends c.is_decision_due.ensures.extends

pub returns-clause-exact : goal.returns-clause-exact
returns-clause-exact c =
    vec_ok c.is_decision_due.result (λ known h. no_table c.args.shapes.now (branch_in c.args.pool.now c.args.branch.now) c.args.step.name (formula_at c.args.pool.now c.args.step.formula) c.args.step.generation (refuted c.in_ok-listed.listed c.if-listed.false c.in_ok-listed.ensures.exact) known (decision_before c.args.pool.now c.is_listed.new.pool c.is_listed.ensures.extends c.args.branch.now c.requires.over c.args.step.name c.args.step.formula c.args.step.generation c.requires.formula known h)) c.is_decision_due.ensures.exact
