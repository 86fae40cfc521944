use Rattle.std.proofs.Common.{◌≡◌, ◌++◌, map, take}
use Rattle.axiom_strategy.specs.Beside.{alone_asker}
use Rattle.axiom_strategy.proofs.beside.add_types.Given as goal

abbrev pub invariant-loop-typing : goal.invariant-loop-typing
invariant-loop-typing l = l.askers.items ≡ l.fn.askers.items ++ map alone_asker (take l.typing-index l.typings)
