use Rattle.std.proofs.Common.{◌≡◌, ◌++◌, take}
use Rattle.std.specs.List.{flat_map}
use Rattle.program.specs.Same.{same_schema}
use Rattle.declaration_cycles.specs.Edges.{edge, number}
use Rattle.declaration_cycles.specs.Naming.{included_in}
use Rattle.declaration_cycles.proofs.kinds.push_included.Given as goal

abbrev pub invariant-loop-clause : goal.invariant-loop-clause
invariant-loop-clause l =
    l.into.items ≡ l.initial.into.items ++ flat_map (λ id. edge l.from (number same_schema l.program.schemas id)) (flat_map included_in (take l.clause-index l.clauses))
