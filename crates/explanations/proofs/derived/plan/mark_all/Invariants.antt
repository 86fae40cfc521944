use Rattle.std.proofs.Common.{take}
use Rattle.explanations.specs.Plans.{IsOnAny, AreMarked}
use Rattle.explanations.proofs.derived.plan.mark_all.Given as goal

abbrev pub invariant-loop-difference : goal.invariant-loop-difference
invariant-loop-difference l = AreMarked (IsOnAny (take l.difference-index l.found)) l.fn.needed.items l.needed.items
