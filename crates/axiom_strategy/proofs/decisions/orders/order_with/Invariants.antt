use Rattle.std.proofs.Common.{take}
use Rattle.term_pool.specs.Pools.{Extends}
use Rattle.tableau.specs.PoolBranches.{branch_in}
use Rattle.axiom_strategy.specs.Orders.{IsWith, NoneFresh}
use Rattle.axiom_strategy.proofs.decisions.orders.order_with.Given as goal

abbrev pub invariant-loop-right : goal.invariant-loop-right
invariant-loop-right l = record {
  extends : Extends l.fn.pool l.pool;
  none : NoneFresh l.fn.pool (branch_in l.fn.pool l.branch) (IsWith l.left (take l.right-index l.others));
}
