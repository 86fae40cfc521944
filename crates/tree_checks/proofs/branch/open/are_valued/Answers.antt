use Rattle.tree_checks.proofs.branch.open.are_valued.Goals as goal

pub follow_classes-requires-clause-state : goal.follow_classes-requires-clause-state
follow_classes-requires-clause-state c = c.new-state.ensures c.args.pool.now
