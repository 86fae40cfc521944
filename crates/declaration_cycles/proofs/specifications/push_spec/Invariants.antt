use Rattle.std.proofs.Common.{◌≡◌, ◌++◌, take}
use Rattle.std.specs.List.{flat_map}
use Rattle.declaration_cycles.specs.Naming.{homes_in_spec_node}
use Rattle.declaration_cycles.proofs.specifications.push_spec.Given as goal

abbrev pub invariant-loop-place : goal.invariant-loop-place
invariant-loop-place l =
    l.into.items ≡ l.initial.into.items ++ flat_map homes_in_spec_node (take l.place l.body.nodes)
