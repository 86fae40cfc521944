use Rattle.tableau.specs.PoolBranches.{branch_in}
use Rattle.axiom_strategy.specs.Vectors.{AreDeniedPairs}
use Rattle.axiom_strategy.proofs.vectors.vector_askers.Given as goal

abbrev pub invariant-loop-i : goal.invariant-loop-i
invariant-loop-i l = AreDeniedPairs l.pool (branch_in l.pool l.branch) l.types.lists l.types.pairs l.i l.askers.items
