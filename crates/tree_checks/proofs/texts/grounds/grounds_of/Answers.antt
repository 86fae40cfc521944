use Rattle.tableau.proofs.PushLemmas.{over_still}
use Rattle.tree_checks.proofs.texts.grounds.grounds_of.Goals as goal

pub late_grounds-requires : goal.late_grounds-requires
late_grounds-requires c = over_still c.args.pool.now c.is_range_entry.new.pool c.is_range_entry.ensures.extends c.args.branch.now c.requires.over
