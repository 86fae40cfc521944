use Rattle.std.proofs.Common.{◌≡◌, ◌++◌, map, take}
use Rattle.axiom_strategy.specs.Askers.{typing_asker}
use Rattle.axiom_strategy.proofs.ranges.add_typings.Given as goal

abbrev pub invariant-loop-typing : goal.invariant-loop-typing
invariant-loop-typing l = l.askers.items ≡ l.fn.askers.items ++ map typing_asker (take l.typing-index l.typings)
