use Rattle.std.proofs.Common.{◌≡◌, take}
use Rattle.std.specs.List.{flat_map}
use Rattle.program.specs.Same.{same_function}
use Rattle.declaration_cycles.specs.Edges.{edges_to}
use Rattle.declaration_cycles.specs.Naming.{functions_called}
use Rattle.declaration_cycles.proofs.kinds.spec_function_edges.Given as goal

abbrev pub invariant-loop-number : goal.invariant-loop-number
invariant-loop-number l =
    l.edges.items ≡ flat_map (λ e. edges_to same_function l.program.spec_functions e.0 (functions_called e.1)) (take l.number l.program.spec_functions)
