use Rattle.std.proofs.Common.{◌≡◌, drop}
use Rattle.typing_rules.specs.Rules.{field_named}
use Rattle.type_constraints.proofs.code.structs.field_named.Given as goal

abbrev pub invariant-loop-field : goal.invariant-loop-field
invariant-loop-field l = field_named l.fields l.name ≡ field_named (drop l.field-index l.fields) l.name
