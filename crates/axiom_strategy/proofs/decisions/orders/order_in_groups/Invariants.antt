use Rattle.std.proofs.Common.{take}
use Rattle.term_pool.specs.Pools.{Extends}
use Rattle.tableau.specs.PoolBranches.{branch_in}
use Rattle.axiom_strategy.specs.Orders.{IsInGroup, NoneFresh}
use Rattle.axiom_strategy.proofs.decisions.orders.order_in_groups.Given as goal

abbrev pub invariant-loop-position : goal.invariant-loop-position
invariant-loop-position l = record {
  extends : Extends l.fn.pool l.pool;
  none : NoneFresh l.fn.pool (branch_in l.fn.pool l.branch) (IsInGroup (take l.position-index l.all) l.by_group);
}
