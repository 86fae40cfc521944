use Rattle.std.proofs.Common.{◌≡◌, ◌++◌, take}
use Rattle.declaration_cycles.specs.Naming.{homes_in_names}
use Rattle.declaration_cycles.proofs.types.push_homes_of_names.Given as goal

abbrev pub invariant-loop-name : goal.invariant-loop-name
invariant-loop-name l =
    l.into.items ≡ l.initial.into.items ++ homes_in_names (take l.name-index l.names)
