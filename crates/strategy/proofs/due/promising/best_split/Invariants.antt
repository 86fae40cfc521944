use Rattle.term_pool.specs.Pools.{Extends}
use Rattle.strategy.proofs.due.promising.best_split.Given as goal

abbrev pub invariant-loop-split : goal.invariant-loop-split
invariant-loop-split l = Extends l.fn.pool l.pool
