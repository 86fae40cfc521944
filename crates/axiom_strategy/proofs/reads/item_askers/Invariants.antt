use Rattle.std.proofs.Common.{◌≡◌, take}
use Rattle.axiom_strategy.specs.Reads.{item_list}
use Rattle.axiom_strategy.proofs.reads.item_askers.Given as goal

abbrev pub invariant-loop-typing : goal.invariant-loop-typing
invariant-loop-typing l = l.askers.items ≡ item_list l.index l.classes (take l.typing-index l.typings)
