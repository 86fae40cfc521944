use Rattle.congruence_closure.proofs.PathLemmas.{IsWalked, weight}
use Rattle.congruence_closure.proofs.forest_paths.path.Given as goal

abbrev pub invariant-loop-task : goal.invariant-loop-task
invariant-loop-task l = IsWalked l.links l.fn.span.before l.fn.span.from l.fn.span.to l.path.items l.tasks.items

abbrev pub decreases-loop-task : goal.decreases-loop-task
decreases-loop-task l = weight l.tasks.items
