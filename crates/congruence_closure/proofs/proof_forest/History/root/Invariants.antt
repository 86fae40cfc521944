use Rattle.congruence_closure.specs.Histories.{step_of, IsOnWay, rank}
use Rattle.congruence_closure.proofs.proof_forest.History.root.Given as goal

abbrev pub invariant-loop-parent : goal.invariant-loop-parent
invariant-loop-parent l = IsOnWay l.self l.before l.number l.top

abbrev pub decreases-loop-parent : goal.decreases-loop-parent
decreases-loop-parent l = rank l.before (step_of l.self l.top)
