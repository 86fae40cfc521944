use Rattle.std.proofs.Common.{◌≡◌, ◌++◌, take}
use Rattle.declaration_cycles.specs.Edges.{edges_apart}
use Rattle.declaration_cycles.proofs.members.push_apart.Given as goal

abbrev pub invariant-loop-home : goal.invariant-loop-home
invariant-loop-home l =
    l.into.items ≡ l.initial.into.items ++ edges_apart l.program.modules l.from (take l.home-index l.homes)
