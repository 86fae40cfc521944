use Rattle.std.proofs.Common.{◌≡◌, ◌++◌, take}
use Rattle.declaration_cycles.specs.Edges.{member_edges, own_home, homes_in_module}
use Rattle.declaration_cycles.proofs.members.push_module_members.Given as goal

abbrev pub invariant-loop-number : goal.invariant-loop-number
invariant-loop-number l =
    l.into.items ≡ l.initial.into.items ++ member_edges l.program.modules own_home homes_in_module (take l.number l.program.modules)
