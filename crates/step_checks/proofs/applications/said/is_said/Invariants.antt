use Rattle.tableau.specs.PoolBranches.{branch_in}
use Rattle.ematching.proofs.SaidLemmas.{NoneSaid}
use Rattle.step_checks.proofs.applications.said.is_said.Given as goal

abbrev pub invariant-loop-i : goal.invariant-loop-i
invariant-loop-i l = NoneSaid (branch_in l.pool l.branch) l.of l.term l.i
