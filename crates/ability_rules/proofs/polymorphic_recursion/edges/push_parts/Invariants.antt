use Rattle.std.proofs.Common.{◌≡◌, ◌+◌, ◌++◌, take}
use Rattle.ability_rules.specs.Edges.{part_edges}
use Rattle.ability_rules.proofs.polymorphic_recursion.edges.push_parts.Given as goal

abbrev pub invariant-loop-part : goal.invariant-loop-part
invariant-loop-part l =
    (l.into.items ≡ l.initial.into.items ++ part_edges l.fn.row l.number (take l.part-index l.parts)) × (l.types ≡ l.fn.row.first + l.fn.row.parameters)
