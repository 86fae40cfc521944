use Rattle.std.proofs.Common.{max, length}
use Rattle.congruence_closure.specs.Histories.{step_of, rank}
use Rattle.congruence_closure.proofs.JoinLemmas.{AreAt}
use Rattle.congruence_closure.proofs.proof_forest.History.join.Given as goal

abbrev pub invariant-loop-link : goal.invariant-loop-link
invariant-loop-link l = AreAt l.self (length l.links) l.left l.right l.one l.other

abbrev pub decreases-loop-link : goal.decreases-loop-link
decreases-loop-link l = max (rank (length l.links) (step_of l.self l.one)) (rank (length l.links) (step_of l.self l.other))
