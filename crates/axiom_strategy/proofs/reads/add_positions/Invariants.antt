use Rattle.std.proofs.Common.{◌≡◌, ◌++◌, map, take}
use Rattle.axiom_strategy.specs.Reads.{item_asker}
use Rattle.axiom_strategy.proofs.reads.add_positions.Given as goal

abbrev pub invariant-loop-position : goal.invariant-loop-position
invariant-loop-position l = l.askers.items ≡ l.fn.askers.items ++ map (item_asker l.of l.vector) (take l.position-index l.positions)
