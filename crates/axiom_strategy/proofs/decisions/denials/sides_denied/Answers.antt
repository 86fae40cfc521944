use Rattle.fol.specs.FormulaData.{EqFormula}
use Rattle.axiom_strategy.proofs.ShapeLemmas.{sides_answer}
use Rattle.axiom_strategy.proofs.decisions.denials.sides_denied.Goals as goal

pub returns-in-Some : goal.returns-in-Some
returns-in-Some c = sides_answer c.args.pool.now c.args.formula c.in-Some.inner c.in-Some.ensures c.sides.result c.sides.ensures

pub returns-in-None : goal.returns-in-None
returns-in-None c = λ t u e. c.in-None.ensures.none (EqFormula t u) e
