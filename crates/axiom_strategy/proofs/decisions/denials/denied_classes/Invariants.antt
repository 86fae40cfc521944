use Rattle.tableau.specs.PoolBranches.{branch_in}
use Rattle.axiom_strategy.proofs.DenialLemmas.{AreDeniedBefore}
use Rattle.axiom_strategy.proofs.decisions.denials.denied_classes.Given as goal

abbrev pub invariant-loop-i : goal.invariant-loop-i
invariant-loop-i l = AreDeniedBefore l.pool (branch_in l.pool l.branch) l.classes l.i l.denied
