use Rattle.search.proofs.ApplicationLemmas.{over_stays}
use Rattle.strategy.proofs.due.promising.best_split.Goals as goal

pub cases_at-requires : goal.cases_at-requires
cases_at-requires c = over_stays c.args.pool.now c.loop-split.pool c.loop-split.invariant c.args.branch.now c.requires.over
