use Rattle.tableau.specs.PoolBranches.{IsOver}
use Rattle.prover_tests.proofs.entered.branch_of.Given as goal

abbrev pub invariant-loop-entry : goal.invariant-loop-entry
invariant-loop-entry g l = IsOver l.pool l.branch
