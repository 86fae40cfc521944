use Rattle.std.proofs.Common.{◌≡◌, ◌++◌, take}
use Rattle.std.specs.List.{flat_map}
use Rattle.declaration_cycles.specs.Naming.{structs_in}
use Rattle.declaration_cycles.proofs.types.push_structs_of_fields.Given as goal

abbrev pub invariant-loop-field : goal.invariant-loop-field
invariant-loop-field l =
    l.into ≡ l.initial.into ++ flat_map (λ f. structs_in f.annotation) (take l.field-index l.fields)
