use Rattle.std.proofs.Common.{◌≡◌, ◌++◌, map, take}
use Rattle.axiom_strategy.specs.Beside.{beside_asker}
use Rattle.axiom_strategy.proofs.beside.add_beside_type.Given as goal

abbrev pub invariant-loop-term : goal.invariant-loop-term
invariant-loop-term l = l.askers.items ≡ l.fn.askers.items ++ map (beside_asker l.of) (take l.term-index l.terms)
