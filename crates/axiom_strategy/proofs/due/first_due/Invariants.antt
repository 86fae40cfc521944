use Rattle.tableau.specs.PoolBranches.{branch_in}
use Rattle.axiom_strategy.proofs.DueLemmas.{NoneBefore}
use Rattle.axiom_strategy.proofs.due.first_due.Given as goal

abbrev pub invariant-loop-triggered : goal.invariant-loop-triggered
invariant-loop-triggered l = NoneBefore l.pool (branch_in l.pool l.branch) l.wanted l.instances l.triggered-index
