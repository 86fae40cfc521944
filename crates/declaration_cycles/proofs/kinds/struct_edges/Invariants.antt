use Rattle.std.proofs.Common.{◌≡◌, take}
use Rattle.std.specs.List.{flat_map}
use Rattle.program.specs.Same.{same_struct}
use Rattle.declaration_cycles.specs.Edges.{edges_to}
use Rattle.declaration_cycles.specs.Naming.{structs_of_fields}
use Rattle.declaration_cycles.proofs.kinds.struct_edges.Given as goal

abbrev pub invariant-loop-number : goal.invariant-loop-number
invariant-loop-number l =
    l.edges.items ≡ flat_map (λ e. edges_to same_struct l.program.structs e.0 (structs_of_fields e.1)) (take l.number l.program.structs)
