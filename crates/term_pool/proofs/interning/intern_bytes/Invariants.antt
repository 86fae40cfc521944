use Rattle.std.proofs.Common.{◌≤◌, length, drop}
use Rattle.term_pool.specs.Items.{BytesItem}
use Rattle.term_pool.specs.Pools.{IsItem, Extends}
use Rattle.term_pool.proofs.interning.intern_bytes.Given as goal

abbrev pub invariant-loop-rest : goal.invariant-loop-rest
invariant-loop-rest l = record {
  extends : Extends l.fn.pool l.pool;
  list : IsItem l.pool l.list (BytesItem (drop l.rest l.bytes));
  within : l.rest ≤ length l.bytes;
}

abbrev pub decreases-loop-rest : goal.decreases-loop-rest
decreases-loop-rest l = l.rest
