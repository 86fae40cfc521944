use Rattle.std.proofs.Common.{◌≡◌, ◌++◌, take, Some}
use Rattle.declaration_cycles.specs.Edges.{edges_apart}
use Rattle.declaration_cycles.proofs.members.push_used.Given as goal

abbrev pub invariant-loop-name : goal.invariant-loop-name
invariant-loop-name l =
    l.into.items ≡ l.initial.into.items ++ edges_apart l.program.modules (Some l.from) (take l.name-index l.names)
