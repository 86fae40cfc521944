use Rattle.tree_checks.proofs.PartialKeptLemmas.{kept_followed}
use Rattle.tree_checks.proofs.partial.timely.is_late.Goals as goal

pub returns-clause-kept : goal.returns-clause-kept
returns-clause-kept c =
    kept_followed c.args.pool.now c.is_late_by.new.pool c.is_late_by.ensures.extends c.args.branch.now c.requires.over c.args.kept.now c.requires.kept c.follow_classes.new.self c.is_late_by.new.variables c.in_ok-follow_classes.ensures.state c.in_ok-known.ensures.above
