use Rattle.std.proofs.Common.{take}
use Rattle.explanations.specs.Plans.{IsOn, AreMarked}
use Rattle.explanations.proofs.derived.plan.mark.Given as goal

abbrev pub invariant-loop-join : goal.invariant-loop-join
invariant-loop-join l = AreMarked (IsOn (take l.join-index l.route)) l.fn.needed.items l.needed.items
