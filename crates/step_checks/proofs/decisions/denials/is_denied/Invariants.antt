use Rattle.tableau.specs.PoolBranches.{branch_in}
use Rattle.step_checks.proofs.DenyLemmas.{NoneDenies}
use Rattle.step_checks.proofs.decisions.denials.is_denied.Given as goal

abbrev pub invariant-loop-i : goal.invariant-loop-i
invariant-loop-i l = NoneDenies l.pool (branch_in l.pool l.branch) l.classes l.one l.other l.i
