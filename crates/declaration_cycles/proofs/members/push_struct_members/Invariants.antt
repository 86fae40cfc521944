use Rattle.std.proofs.Common.{◌≡◌, ◌++◌, take}
use Rattle.declaration_cycles.specs.Edges.{member_edges}
use Rattle.program.specs.Homes.{struct_home}
use Rattle.declaration_cycles.specs.Naming.{homes_in_struct}
use Rattle.declaration_cycles.proofs.members.push_struct_members.Given as goal

abbrev pub invariant-loop-number : goal.invariant-loop-number
invariant-loop-number l =
    l.into.items ≡ l.initial.into.items ++ member_edges l.program.modules struct_home homes_in_struct (take l.number l.program.structs)
