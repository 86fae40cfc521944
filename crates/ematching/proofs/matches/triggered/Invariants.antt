use Rattle.tableau.specs.PoolBranches.{branch_in}
use Rattle.ematching.proofs.TriggerLemmas.{IsTriggering}
use Rattle.ematching.proofs.matches.triggered.Given as goal

abbrev pub invariant-loop-trigger : goal.invariant-loop-trigger
invariant-loop-trigger l = IsTriggering l.pool (branch_in l.pool l.branch) l.bound.items l.universal.variable l.given l.universal.triggers l.fn.found l.triggers l.found

abbrev pub decreases-loop-trigger : goal.decreases-loop-trigger
decreases-loop-trigger l = l.triggers
