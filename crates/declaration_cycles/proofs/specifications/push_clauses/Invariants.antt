use Rattle.std.proofs.Common.{◌≡◌, ◌++◌, take}
use Rattle.std.specs.List.{flat_map}
use Rattle.declaration_cycles.specs.Naming.{homes_in_clause}
use Rattle.declaration_cycles.proofs.specifications.push_clauses.Given as goal

abbrev pub invariant-loop-clause : goal.invariant-loop-clause
invariant-loop-clause l =
    l.into.items ≡ l.initial.into.items ++ flat_map homes_in_clause (take l.clause-index l.clauses)
