use Rattle.term_pool.specs.Pools.{Extends}
use Rattle.tableau.specs.PoolBranches.{branch_in}
use Rattle.axiom_strategy.specs.Due.{NoneDue, AsksOfSome}
use Rattle.axiom_strategy.specs.Askers.{asks_at}
use Rattle.axiom_strategy.specs.Known.{AreKnownInstances}
use Rattle.axiom_strategy.proofs.askers.next_triggered.Given as goal

abbrev pub invariant-loop-i : goal.invariant-loop-i
invariant-loop-i l = record {
  extends : Extends l.fn.pool l.pool;
  known : AreKnownInstances l.shapes l.pool l.known;
  none : NoneDue (branch_in l.fn.pool l.branch) l.wanted (AsksOfSome l.i (asks_at l.shapes l.fn.pool l.askers));
}
