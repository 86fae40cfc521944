use Rattle.std.proofs.Common.{◌≤◌, length, drop}
use Rattle.term_pool.specs.Pools.{item_at, IsItem, Extends}
use Rattle.explanations.specs.Frames.{filled}
use Rattle.explanations.proofs.frame.fill.Given as goal

abbrev pub invariant-loop-rest : goal.invariant-loop-rest
invariant-loop-rest l = record {
  extends : Extends l.fn.pool l.pool;
  number : IsItem l.pool l.number (filled l.fn.pool (drop l.rest l.way) (item_at l.fn.pool l.part));
  within : l.rest ≤ length l.way;
}

abbrev pub decreases-loop-rest : goal.decreases-loop-rest
decreases-loop-rest l = l.rest
