use Rattle.term_pool.specs.Items.{TermSort}
use Rattle.term_pool.proofs.FormLemmas.{is_term_number, no_number}
use Rattle.term_pool.proofs.pool.Pool.is_term.Goals as goal

pub returns-in-Some : goal.returns-in-Some
returns-in-Some c = is_term_number c.args.self.now c.args.number c.in-Some.node c.in-Some.ensures c.is_term_node.result c.is_term_node.ensures

pub returns-in-None : goal.returns-in-None
returns-in-None c = no_number c.args.self.now c.args.number TermSort c.in-None.ensures
