use Rattle.std.proofs.Common.{◌≡◌, take}
use Rattle.std.specs.List.{flat_map}
use Rattle.program.specs.Same.{same_schema}
use Rattle.declaration_cycles.specs.Edges.{edges_to}
use Rattle.declaration_cycles.specs.Naming.{schemas_included}
use Rattle.declaration_cycles.proofs.kinds.schema_edges.Given as goal

abbrev pub invariant-loop-number : goal.invariant-loop-number
invariant-loop-number l =
    l.edges.items ≡ flat_map (λ e. edges_to same_schema l.program.schemas e.0 (schemas_included e.1)) (take l.number l.program.schemas)
