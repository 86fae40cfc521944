use Rattle.tree_checks.proofs.branch.reached.has_number_left.Goals as goal

pub above_all-requires-clause-above : goal.above_all-requires-clause-above
above_all-requires-clause-above c = c.new-variables.ensures c.args.pool.now c.args.branch.now.entries
