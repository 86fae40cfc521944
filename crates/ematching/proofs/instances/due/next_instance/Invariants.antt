use Rattle.term_pool.specs.Pools.{Extends}
use Rattle.tableau.specs.PoolBranches.{branch_in}
use Rattle.ematching.specs.Heads.{IsIndex}
use Rattle.ematching.specs.QuantifierFree.{AreFree}
use Rattle.ematching.specs.Instances.{NoInstanceBefore}
use Rattle.ematching.proofs.instances.due.next_instance.Given as goal

abbrev pub invariant-loop-i : goal.invariant-loop-i
invariant-loop-i l = record {
  grown : Extends l.fn.pool l.pool;
  index : IsIndex l.pool l.index;
  free : AreFree l.pool l.quantifiers;
  none : NoInstanceBefore (branch_in l.fn.pool l.branch) l.i;
}
