use Rattle.fol.specs.FormulaData.{EqFormula, NotFormula}
use Rattle.term_pool.proofs.GrowthLemmas.{extends_then}
use Rattle.tableau.specs.Terms.{term_at}
use Rattle.axiom_strategy.proofs.CutLemmas.{equation_parts}
use Rattle.axiom_strategy.proofs.GrownLemmas.{over_grown}
use Rattle.step_checks.proofs.DecisionsNumberLemmas.{known_before, denial_parts, denial_made}
use Rattle.step_checks.proofs.decisions.numbers.are_said_to_differ.Goals as goal

pub insert-requires : goal.insert-requires
insert-requires c = equation_parts c.args.pool.now c.args.left c.args.right c.requires.left c.requires.right

pub insert-requires-2 : goal.insert-requires-2
insert-requires-2 c = denial_parts c.args.pool.now c.insert.new.self c.insert.ensures.extends c.args.left c.args.right c.in_ok-equation.equation c.requires.left c.requires.right c.in_ok-equation.ensures.is

pub stands-requires-clause-over : goal.stands-requires-clause-over
stands-requires-clause-over c = over_grown c.args.pool.now c.insert-2.new.self (extends_then c.insert.ensures.extends c.insert-2.ensures.extends) c.args.branch.now c.requires.over

pub stands-requires-clause-formula : goal.stands-requires-clause-formula
stands-requires-clause-formula c =
    (denial_made c.args.pool.now c.insert.new.self c.insert.ensures.extends c.args.left c.args.right c.in_ok-equation.equation c.requires.left c.requires.right c.in_ok-equation.ensures.is c.insert-2.new.self c.insert-2.ensures.extends c.in_ok-denial.denial c.in_ok-denial.ensures.is).number

pub returns-clause-extends : goal.returns-clause-extends
returns-clause-extends c = extends_then c.insert.ensures.extends c.insert-2.ensures.extends

pub returns-clause-exact : goal.returns-clause-exact
returns-clause-exact c =
    let number = denial_made c.args.pool.now c.insert.new.self c.insert.ensures.extends c.args.left c.args.right c.in_ok-equation.equation c.requires.left c.requires.right c.in_ok-equation.ensures.is c.insert-2.new.self c.insert-2.ensures.extends c.in_ok-denial.denial c.in_ok-denial.ensures.is in
    known_before c.args.pool.now c.insert-2.new.self (extends_then c.insert.ensures.extends c.insert-2.ensures.extends) c.args.branch.now c.requires.over (NotFormula (EqFormula (term_at c.args.pool.now c.args.left) (term_at c.args.pool.now c.args.right))) c.in_ok-denial.denial number c.stands.result c.stands.ensures
