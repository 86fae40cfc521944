use Rattle.std.proofs.Common.{◌≡◌, ◌++◌, take}
use Rattle.std.specs.List.{flat_map}
use Rattle.declaration_cycles.specs.Naming.{structs_in}
use Rattle.declaration_cycles.proofs.types.+push_structs.Given as goal

abbrev pub invariant-push_structs_all-loop-term : goal.invariant-push_structs_all-loop-term
invariant-push_structs_all-loop-term l =
    l.into ≡ l.initial.into ++ flat_map structs_in (take l.term-index l.terms)
