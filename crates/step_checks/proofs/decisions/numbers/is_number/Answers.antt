use Rattle.term_pool.proofs.GrowthLemmas.{extends_then}
use Rattle.fol.specs.FormulaData.{IsFormula}
use Rattle.base.specs.TypeData.{NumType}
use Rattle.tableau.specs.Terms.{term_at}
use Rattle.axiom_strategy.proofs.GrownLemmas.{over_grown}
use Rattle.step_checks.proofs.DecisionsNumberLemmas.{known_before, number_parts, number_made}
use Rattle.step_checks.proofs.decisions.numbers.is_number.Goals as goal

pub insert-requires-2 : goal.insert-requires-2
insert-requires-2 c = number_parts c.args.pool.now c.insert.new.self c.insert.ensures.extends c.args.term c.in_ok-of.of c.requires.term c.in_ok-of.ensures.is

pub stands-requires-clause-over : goal.stands-requires-clause-over
stands-requires-clause-over c = over_grown c.args.pool.now c.insert-2.new.self (extends_then c.insert.ensures.extends c.insert-2.ensures.extends) c.args.branch.now c.requires.over

pub stands-requires-clause-formula : goal.stands-requires-clause-formula
stands-requires-clause-formula c =
    (number_made c.args.pool.now c.insert.new.self c.insert.ensures.extends c.args.term c.in_ok-of.of c.requires.term c.in_ok-of.ensures.is c.insert-2.new.self c.insert-2.ensures.extends c.in_ok-formula.formula c.in_ok-formula.ensures.is).number

pub returns-clause-extends : goal.returns-clause-extends
returns-clause-extends c = extends_then c.insert.ensures.extends c.insert-2.ensures.extends

pub returns-clause-exact : goal.returns-clause-exact
returns-clause-exact c =
    let number = number_made c.args.pool.now c.insert.new.self c.insert.ensures.extends c.args.term c.in_ok-of.of c.requires.term c.in_ok-of.ensures.is c.insert-2.new.self c.insert-2.ensures.extends c.in_ok-formula.formula c.in_ok-formula.ensures.is in
    known_before c.args.pool.now c.insert-2.new.self (extends_then c.insert.ensures.extends c.insert-2.ensures.extends) c.args.branch.now c.requires.over (IsFormula NumType (term_at c.args.pool.now c.args.term)) c.in_ok-formula.formula number c.stands.result c.stands.ensures
