use Rattle.std.proofs.Common.{◌≡◌, All, take, true}
use Rattle.program.specs.declared.declaration.TypedName.{TypedName}
use Rattle.typing_rules.specs.Required.{field_is_able}
use Rattle.ability_rules.proofs.required.declared.struct_lacks_ability.Given as goal

abbrev pub invariant-loop-field : goal.invariant-loop-field
invariant-loop-field l = All (λ (f : TypedName). field_is_able l.program.structs l.declaration f ≡ true) (take l.field-index l.declaration.fields)
