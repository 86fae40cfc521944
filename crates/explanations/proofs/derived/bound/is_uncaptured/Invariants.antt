use Rattle.std.proofs.Common.{take}
use Rattle.term_pool.specs.Pools.{item_at}
use Rattle.explanations.specs.Frames.{bound_on}
use Rattle.explanations.specs.BoundNodes.{IsUncaptured}
use Rattle.explanations.proofs.derived.bound.is_uncaptured.Given as goal

abbrev pub invariant-loop-head : goal.invariant-loop-head
invariant-loop-head l = IsUncaptured (bound_on (take l.head-index l.way)) (item_at l.pool l.number)
