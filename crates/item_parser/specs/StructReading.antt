-- The reader of structs, after their word. `inner` reads a type.
use Rattle.std.specs.Prelude.{true, if◌then◌else◌, List, None, option_and_then}
use Rattle.std.specs.Option.{option_map}
use Rattle.base.specs.declared.span.Span.{Span}
use Rattle.tokens.specs.declared.token.Token.{Token}
use Rattle.tokens.specs.declared.token.Punctuation.TheVariants.{LeftBrace}
use Rattle.syntax_tree.specs.declared.lexeme.Identifier.{Identifier}
use Rattle.syntax_tree.specs.TypeTreeData.{SourceTypeData}
use Rattle.syntax_tree.specs.declared.member.Struct.{Struct}
use Rattle.parser_base.specs.TokenReading.{Read, after_sign, identifier_at, begins_capital}
use Rattle.parser_base.specs.AbilityReading.{abilities_at}
use Rattle.parser_base.specs.ParameterReading.{parameters_at}
use Rattle.parser_base.specs.TypedNameReading.{fields_at}

-- a struct after its name
unfoldable pub struct_behind_name : (List Token → Read SourceTypeData) → Span → Identifier → List Token → Read Struct
struct_behind_name inner span name ts =
    option_and_then (λ parameters.
    option_and_then (λ abilities.
    option_and_then (λ inside.
    option_map (λ fields. (record { span = span; name = name; parameters = parameters.0; abilities = abilities.0; fields = fields.0 }, fields.1))
    (fields_at inner inside)) (after_sign LeftBrace abilities.1)) (abilities_at parameters.1)) (parameters_at true ts)

unfoldable pub struct_at : (List Token → Read SourceTypeData) → Span → List Token → Read Struct
struct_at inner span ts = option_and_then (λ name. if begins_capital name.0.text then struct_behind_name inner span name.0 name.1 else None) (identifier_at ts)
