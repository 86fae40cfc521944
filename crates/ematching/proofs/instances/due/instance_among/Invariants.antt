use Rattle.std.proofs.Common.{take}
use Rattle.term_pool.specs.Pools.{Extends}
use Rattle.tableau.specs.PoolBranches.{branch_in}
use Rattle.ematching.proofs.StepLemmas.{NoneAmong}
use Rattle.ematching.proofs.instances.due.instance_among.Given as goal

abbrev pub invariant-loop-term : goal.invariant-loop-term
invariant-loop-term l = record {
  grown : Extends l.fn.pool l.pool;
  none : NoneAmong (branch_in l.fn.pool l.branch) l.quantified.entry l.fn.pool (take l.term-index l.terms);
}
