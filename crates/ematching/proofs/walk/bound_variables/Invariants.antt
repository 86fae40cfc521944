use Rattle.ematching.proofs.BoundLemmas.{AreSoFar}
use Rattle.ematching.proofs.walk.bound_variables.Given as goal

abbrev pub invariant-loop-number : goal.invariant-loop-number
invariant-loop-number l = AreSoFar l.pool l.variable l.number-items l.number-index l.variables.items
