use Rattle.tree_checks.proofs.texts.grounds.values_of_rows.Goals as goal

pub follow_classes-requires-clause-state : goal.follow_classes-requires-clause-state
follow_classes-requires-clause-state c = c.new-state.ensures c.args.pool.now
