use Rattle.std.proofs.Common.{◌≡◌, ◌++◌, take}
use Rattle.declaration_cycles.specs.Naming.{homes_in_loops}
use Rattle.declaration_cycles.proofs.specifications.push_loops.Given as goal

abbrev pub invariant-loop-clause : goal.invariant-loop-clause
invariant-loop-clause l =
    l.into.items ≡ l.initial.into.items ++ homes_in_loops (take l.clause-index l.clauses)
