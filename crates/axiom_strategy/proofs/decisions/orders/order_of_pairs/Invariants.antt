use Rattle.std.proofs.Common.{take}
use Rattle.term_pool.specs.Pools.{Extends}
use Rattle.tableau.specs.PoolBranches.{branch_in}
use Rattle.axiom_strategy.specs.Orders.{IsListed, NoneFresh}
use Rattle.axiom_strategy.proofs.decisions.orders.order_of_pairs.Given as goal

abbrev pub invariant-loop-pair : goal.invariant-loop-pair
invariant-loop-pair l = record {
  extends : Extends l.fn.pool l.pool;
  none : NoneFresh l.fn.pool (branch_in l.fn.pool l.branch) (IsListed (take l.pair-index l.pairs));
}
