use Rattle.std.proofs.Common.{◌≡◌, ◌++◌, map, take}
use Rattle.axiom_strategy.specs.Reads.{read_asker}
use Rattle.axiom_strategy.proofs.reads.add_keys.Given as goal

abbrev pub invariant-loop-key : goal.invariant-loop-key
invariant-loop-key l = l.askers.items ≡ l.fn.askers.items ++ map (read_asker l.term) (take l.key-index l.keys)
