use Rattle.std.proofs.Common.{◌≡◌, take}
use Rattle.explanations.proofs.derived.difference.step.Given as goal

abbrev pub invariant-loop-head : goal.invariant-loop-head
invariant-loop-head l = l.longer.items ≡ take l.head-index l.way
