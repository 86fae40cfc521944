use Rattle.search.proofs.trees.tree.begin.Goals as goal

pub push-requires-clause-over : goal.push-requires-clause-over
push-requires-clause-over c = c.new-branch.ensures.over c.args.pool.now
