use Rattle.term_pool.specs.Pools.{Extends}
use Rattle.axiom_strategy.proofs.decisions.equal_orders.equal_with.Given as goal

abbrev pub invariant-loop-right : goal.invariant-loop-right
invariant-loop-right l = Extends l.fn.pool l.pool
