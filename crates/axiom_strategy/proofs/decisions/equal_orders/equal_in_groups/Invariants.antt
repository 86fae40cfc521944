use Rattle.term_pool.specs.Pools.{Extends}
use Rattle.axiom_strategy.proofs.decisions.equal_orders.equal_in_groups.Given as goal

abbrev pub invariant-loop-position : goal.invariant-loop-position
invariant-loop-position l = Extends l.fn.pool l.pool
