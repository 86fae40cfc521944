use Rattle.tree_checks.proofs.grown.first_branch.Goals as goal

pub push-requires-clause-over : goal.push-requires-clause-over
push-requires-clause-over c = c.new-branch.ensures.over c.args.pool.now
