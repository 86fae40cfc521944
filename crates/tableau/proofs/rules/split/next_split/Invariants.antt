use Rattle.term_pool.specs.Pools.{Extends}
use Rattle.tableau.specs.PoolBranches.{branch_in}
use Rattle.tableau.specs.Steps.{NoSplitBefore}
use Rattle.tableau.proofs.rules.split.next_split.Given as goal

abbrev pub invariant-loop-i : goal.invariant-loop-i
invariant-loop-i l = record {
  extends : Extends l.fn.pool l.pool;
  before : NoSplitBefore (branch_in l.pool l.branch) l.i;
}
