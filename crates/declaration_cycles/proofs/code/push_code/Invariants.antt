use Rattle.std.proofs.Common.{◌≡◌, ◌++◌, take}
use Rattle.std.specs.List.{flat_map}
use Rattle.declaration_cycles.specs.Naming.{homes_in_node}
use Rattle.declaration_cycles.proofs.code.push_code.Given as goal

abbrev pub invariant-loop-index : goal.invariant-loop-index
invariant-loop-index l =
    l.into.items ≡ l.initial.into.items ++ flat_map homes_in_node (take l.index l.body.nodes)
