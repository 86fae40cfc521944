use Rattle.std.proofs.Common.{◌≡◌, ◌++◌, take}
use Rattle.axiom_strategy.specs.Beside.{beside_askers}
use Rattle.axiom_strategy.proofs.beside.add_beside.Given as goal

abbrev pub invariant-loop-of : goal.invariant-loop-of
invariant-loop-of l = l.askers.items ≡ l.fn.askers.items ++ beside_askers l.terms (take l.of-index l.types)
