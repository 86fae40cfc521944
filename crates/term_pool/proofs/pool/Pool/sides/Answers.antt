use Rattle.term_pool.proofs.FormLemmas.{equation_answer, no_equation_past}
use Rattle.term_pool.proofs.pool.Pool.sides.Goals as goal

pub returns-in-Some : goal.returns-in-Some
returns-in-Some c = equation_answer c.args.self.now c.args.formula c.in-Some.node c.in-Some.ensures c.sides_of.result c.sides_of.ensures

pub returns-in-None : goal.returns-in-None
returns-in-None c = no_equation_past c.args.self.now c.args.formula c.in-None.ensures
