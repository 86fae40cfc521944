use Rattle.std.proofs.Common.{◌≡◌, ◌++◌, drop}
use Rattle.declaration_cycles.specs.Edges.{use_edges}
use Rattle.declaration_cycles.proofs.members.push_uses.Given as goal

abbrev pub invariant-loop-number : goal.invariant-loop-number
invariant-loop-number l =
    l.into.items ++ use_edges l.program.modules l.number (drop l.number l.uses) ≡ l.initial.into.items ++ use_edges l.program.modules 0 l.uses
