use Rattle.explanations.proofs.ChainLemmas.{right_way, right_swap}
use Rattle.explanations.proofs.chain.Chain.put_right.Goals as goal

pub rewrite-requires-clause-way : goal.rewrite-requires-clause-way
rewrite-requires-clause-way c = right_way c.args.pool.now c.args.left c.requires.left

pub rewrite-requires-clause-swap : goal.rewrite-requires-clause-swap
rewrite-requires-clause-swap c = right_swap c.args.pool.now c.args.self.now c.args.left c.args.swap c.args.source c.requires.right
