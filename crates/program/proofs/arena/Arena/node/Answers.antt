use Rattle.program.proofs.Present.{tree_read}
use Rattle.program.proofs.arena.Arena.node.Goals as goal

pub returns-clause-tree : goal.returns-clause-tree
returns-clause-tree g c = tree_read c.args.self.now.nodes c.args.index _ c.stored.ensures.node c.stored.ensures.below
