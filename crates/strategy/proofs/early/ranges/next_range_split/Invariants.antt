use Rattle.term_pool.specs.Pools.{Extends}
use Rattle.tableau.specs.PoolBranches.{branch_in}
use Rattle.axiom_strategy.specs.Known.{AreKnownInstances}
use Rattle.tableau.specs.States.{NoRangeSplitBefore}
use Rattle.strategy.proofs.early.ranges.next_range_split.Given as goal

abbrev pub invariant-loop-i : goal.invariant-loop-i
invariant-loop-i l = record {
  extends : Extends l.fn.pool l.pool;
  known : AreKnownInstances l.shapes l.pool l.known;
  before : NoRangeSplitBefore (branch_in l.pool l.branch) l.i;
}
