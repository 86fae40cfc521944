use Rattle.std.proofs.Common.{◌≡◌, ◌++◌, take}
use Rattle.std.specs.List.{flat_map}
use Rattle.program.specs.Same.{same_function}
use Rattle.declaration_cycles.specs.Edges.{edge, number}
use Rattle.declaration_cycles.specs.Naming.{called_in_node}
use Rattle.declaration_cycles.proofs.kinds.push_all_called.Given as goal

abbrev pub invariant-loop-index : goal.invariant-loop-index
invariant-loop-index l =
    l.into.items ≡ l.initial.into.items ++ flat_map (λ id. edge l.from (number same_function l.program.spec_functions id)) (flat_map called_in_node (take l.index l.body.nodes))
