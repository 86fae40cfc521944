use Rattle.std.proofs.Common.{◌≡◌, ◌++◌, take}
use Rattle.declaration_cycles.specs.Edges.{member_edges}
use Rattle.program.specs.Homes.{schema_home}
use Rattle.declaration_cycles.specs.Naming.{homes_in_schema}
use Rattle.declaration_cycles.proofs.members.push_schema_members.Given as goal

abbrev pub invariant-loop-number : goal.invariant-loop-number
invariant-loop-number l =
    l.into.items ≡ l.initial.into.items ++ member_edges l.program.modules schema_home homes_in_schema (take l.number l.program.schemas)
