use Rattle.tableau.specs.Numbers.{formula_at}
use Rattle.step_checks.proofs.SideLemmas.{no_connective, joined_answer}
use Rattle.step_checks.proofs.axiom_rules.sides.list_of.Goals as goal

pub returns-in-Some : goal.returns-in-Some
returns-in-Some c = joined_answer c.args.pool.now (formula_at c.args.pool.now c.args.formula) c.in-Some.compound c.in-Some.ensures c.list_in.result c.list_in.ensures

pub returns-in-None : goal.returns-in-None
returns-in-None c = no_connective (formula_at c.args.pool.now c.args.formula) c.in-None.ensures
