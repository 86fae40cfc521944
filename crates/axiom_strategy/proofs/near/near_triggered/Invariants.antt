use Rattle.term_pool.specs.Pools.{Extends}
use Rattle.axiom_strategy.specs.Known.{AreKnownInstances}
use Rattle.axiom_strategy.proofs.near.near_triggered.Given as goal

abbrev pub invariant-loop-i : goal.invariant-loop-i
invariant-loop-i l = record {
  extends : Extends l.fn.pool l.pool;
  known : AreKnownInstances l.shapes l.pool l.known;
}
