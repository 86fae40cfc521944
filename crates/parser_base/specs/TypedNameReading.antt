-- The reader of names with their types: fields and inputs. `inner` reads a type.
use Rattle.std.specs.Prelude.{ℕ, Bool, true, false, if◌then◌else◌, List, None, option_and_then}
use Rattle.std.specs.Option.{option_map}
use Rattle.tokens.specs.declared.token.Token.{Token}
use Rattle.tokens.specs.declared.token.Punctuation.{Punctuation as Sign}
use Rattle.tokens.specs.declared.token.Punctuation.TheVariants.{Colon, RightBrace, RightParenthesis}
use Rattle.syntax_tree.specs.declared.lexeme.Identifier.{Identifier}
use Rattle.syntax_tree.specs.TypeTreeData.{SourceTypeData}
use Rattle.syntax_tree.specs.declared.member.TypedName.{TypedName}
use Rattle.syntax_tree.specs.MemberData.{TypedNamesData}
use Rattle.parser_base.specs.TokenReading.{Read, after_sign, identifier_at, begins_small}
use Rattle.parser_base.specs.ListReading.{comma_list_at}

-- the type after a name
unfoldable pub typed_at : (List Token → Read SourceTypeData) → Identifier → List Token → Read TypedName
typed_at inner name ts = option_and_then (λ rest. option_map (λ t. (record { name = name; annotation = t.0 }, t.1)) (inner rest)) (after_sign Colon ts)

-- decides whether a name has a permitted first letter: inputs begin with a to z or `_`
abbrev pub fits : Bool → List ℕ → Bool
fits true word = begins_small word
fits false word = true

unfoldable pub typed_name_at : Bool → (List Token → Read SourceTypeData) → List Token → Read TypedName
typed_name_at of_function inner ts = option_and_then (λ name. if fits of_function name.0.text then typed_at inner name.0 name.1 else None) (identifier_at ts)

-- names with their types up to the closing sign
unfoldable pub typed_names_at : Sign → Bool → (List Token → Read SourceTypeData) → List Token → Read TypedNamesData
typed_names_at close of_function inner ts =
    option_map (λ items. (record { items = items.0.0; last_comma = items.0.1 }, items.1)) (comma_list_at (after_sign close) (typed_name_at of_function inner) ts)

-- the fields of a struct after their brace
unfoldable pub fields_at : (List Token → Read SourceTypeData) → List Token → Read TypedNamesData
fields_at inner ts = typed_names_at RightBrace false inner ts

-- the inputs of a function after their parenthesis
unfoldable pub inputs_at : (List Token → Read SourceTypeData) → List Token → Read TypedNamesData
inputs_at inner ts = typed_names_at RightParenthesis true inner ts
