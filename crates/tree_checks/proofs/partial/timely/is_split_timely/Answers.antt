use Rattle.tree_checks.proofs.PartialKeptLemmas.{kept_still}
use Rattle.tree_checks.proofs.partial.timely.is_split_timely.Goals as goal

pub returns-in_ok-known-in-Nothing-clause-kept : goal.returns-in_ok-known-in-Nothing-clause-kept
returns-in_ok-known-in-Nothing-clause-kept c =
    kept_still c.args.pool.now c.is_range_entry.new.pool c.is_range_entry.ensures.extends c.args.branch.now c.requires.over c.args.kept.now c.requires.kept

pub returns-in-Late-clause-exact : goal.returns-in-Late-clause-exact
returns-in-Late-clause-exact c = rw c.in-Late.is c.is_late.ensures.exact
