use Rattle.std.proofs.Common.{◌≤◌, length}
use Rattle.tableau.specs.PoolBranches.{BranchData}
use Rattle.step_checks.specs.Inside.{IsSwept}
use Rattle.step_checks.proofs.closings.inside.sweep_all.Given as goal

abbrev pub invariant-loop-rest : goal.invariant-loop-rest
invariant-loop-rest l = record {
  within : l.rest ≤ length l.pool;
  swept : (d : BranchData) → IsSwept l.pool d l.fn.marks (length l.pool) → IsSwept l.pool d l.marks l.rest;
}

abbrev pub decreases-loop-rest : goal.decreases-loop-rest
decreases-loop-rest l = l.rest
