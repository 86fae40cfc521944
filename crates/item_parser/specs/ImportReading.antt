-- The reader of uses and friends, after their first words.
use Rattle.std.specs.Prelude.{List, Option, Some, None, option_and_then, codes}
use Rattle.std.specs.Option.{option_map, option_map_or}
use Rattle.base.specs.declared.span.Span.{Span}
use Rattle.tokens.specs.declared.token.Token.{Token}
use Rattle.tokens.specs.declared.token.Punctuation.TheVariants.{ColonColon, LeftBrace, RightBrace, Semicolon}
use Rattle.syntax_tree.specs.declared.lexeme.Identifier.{Identifier}
use Rattle.syntax_tree.specs.declared.member.Import.{Import}
use Rattle.syntax_tree.specs.declared.member.Imported.{Imported}
use Rattle.syntax_tree.specs.declared.member.Imported.TheVariants.{Module as whole_module, One, Several}
use Rattle.syntax_tree.specs.declared.member.Use.{Use}
use Rattle.syntax_tree.specs.declared.member.Friend.{Friend}
use Rattle.syntax_tree.specs.MemberData.{ImportsData}
use Rattle.parser_base.specs.TokenReading.{Read, after_sign, after_word, identifier_at}
use Rattle.parser_base.specs.ListReading.{some_items_at}
use Rattle.parser_base.specs.PathReading.{module_name_at}

-- an alias, after `as`
unfoldable pub alias_at : List Token → Read (Option Identifier)
alias_at ts = option_map_or (λ rest. option_map (λ n. (Some n.0, n.1)) (identifier_at rest)) (after_word (codes "as") ts) (Some (None, ts))

unfoldable pub import_at : List Token → Read Import
import_at ts = option_and_then (λ name. option_map (λ a. (record { name = name.0; alias = a.0 }, a.1)) (alias_at name.1)) (identifier_at ts)

-- names after their brace
unfoldable pub imports_at : List Token → Read ImportsData
imports_at ts = option_map (λ items. (record { items = items.0.0; last_comma = items.0.1 }, items.1)) (some_items_at (after_sign RightBrace) import_at ts)

-- one name, or several names in braces
unfoldable pub imported_names_at : List Token → Read Imported
imported_names_at ts = option_map_or (λ inside. option_map (λ i. (Several i.0, i.1)) (imports_at inside)) (after_sign LeftBrace ts) (option_map (λ i. (One i.0, i.1)) (import_at ts))

unfoldable pub imported_at : List Token → Read Imported
imported_at ts = option_map_or (λ rest. imported_names_at rest) (after_sign ColonColon ts) (option_map (λ a. (whole_module a.0, a.1)) (alias_at ts))

-- a use after its word
unfoldable pub use_at : Span → List Token → Read Use
use_at span ts =
    option_and_then (λ owner.
    option_and_then (λ imported.
    option_map (λ rest. (record { span = span; owner = owner.0; imported = imported.0 }, rest))
    (after_sign Semicolon imported.1)) (imported_at owner.1)) (module_name_at ts)

-- a friend after its word
unfoldable pub friend_at : Span → List Token → Read Friend
friend_at span ts = option_and_then (λ owner. option_map (λ rest. (record { span = span; owner = owner.0 }, rest)) (after_sign Semicolon owner.1)) (module_name_at ts)
