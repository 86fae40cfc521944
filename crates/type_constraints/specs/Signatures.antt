-- Signatures of functions of the language itself, as the typing rules have them.
use Rattle.std.specs.Prelude.{map}
use Rattle.typing_rules.specs.Settings.{Signature, signature}
use Rattle.type_constraints.specs.declared.builtin.BuiltinSignature.{BuiltinSignature}
use Rattle.type_constraints.specs.Seen.{builtin_type}

abbrev pub seen_signature : BuiltinSignature → Signature
seen_signature s = signature s.arity (map builtin_type s.parameters.now) (builtin_type s.returned)
