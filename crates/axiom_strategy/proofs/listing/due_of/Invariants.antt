use Rattle.std.proofs.Common.{◌≤◌, length}
use Rattle.term_pool.specs.Pools.{Extends}
use Rattle.tableau.specs.PoolBranches.{branch_in}
use Rattle.axiom_strategy.specs.Due.{AsksOfSome}
use Rattle.axiom_strategy.specs.Askers.{asks_at}
use Rattle.axiom_strategy.specs.Listing.{AreDueSteps}
use Rattle.axiom_strategy.proofs.listing.due_of.Given as goal

abbrev pub invariant-loop-asker : goal.invariant-loop-asker
invariant-loop-asker l = record {
  in_range : l.asker-index ≤ length l.askers;
  extends : Extends l.fn.pool l.pool;
  due : AreDueSteps l.pool (branch_in l.fn.pool l.branch) (AsksOfSome l.asker-index (asks_at l.shapes l.fn.pool l.askers)) l.steps.items;
}
