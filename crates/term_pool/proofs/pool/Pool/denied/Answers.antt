use Rattle.term_pool.proofs.FormLemmas.{denial_answer, no_denial_past}
use Rattle.term_pool.proofs.pool.Pool.denied.Goals as goal

pub returns-in-Some : goal.returns-in-Some
returns-in-Some c = denial_answer c.args.self.now c.args.formula c.in-Some.node c.in-Some.ensures c.denied_part.result c.denied_part.ensures

pub returns-in-None : goal.returns-in-None
returns-in-None c = no_denial_past c.args.self.now c.args.formula c.in-None.ensures
