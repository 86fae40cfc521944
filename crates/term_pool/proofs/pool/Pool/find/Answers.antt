use Rattle.term_pool.proofs.SearchLemmas.{looked_up}
use Rattle.term_pool.proofs.pool.Pool.find.Goals as goal

pub returns : goal.returns
returns c = looked_up c.args.node _ _ c.args.self.now c.self.invariant c.self.view_is c.get_index_of.result c.get_index_of.ensures.index
