use Rattle.term_pool.specs.Pools.{Extends}
use Rattle.tableau.specs.PoolBranches.{branch_in}
use Rattle.tableau.specs.Steps.{NoPartsBefore}
use Rattle.tableau.proofs.rules.parts.next_parts.Given as goal

abbrev pub invariant-loop-i : goal.invariant-loop-i
invariant-loop-i l = record {
  extends : Extends l.fn.pool l.pool;
  before : NoPartsBefore (branch_in l.pool l.branch) l.i;
}
