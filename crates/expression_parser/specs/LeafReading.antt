-- The reader of the leaves of spec expressions: numbers, booleans, and the words of quantifiers.
use Rattle.std.specs.Prelude.{Bool, true, false, ◌&&◌, ◌||◌, if◌then◌else◌, List, [], ◌∷◌, Option, Some, None, is_some, option_and_then, codes}
use Rattle.std.specs.Option.{option_map, option_map_or}
use Rattle.base.specs.declared.span.Span.{Span}
use Rattle.tokens.specs.declared.token.Token.{Token}
use Rattle.tokens.specs.declared.token.TokenKind.{TokenKind}
use Rattle.tokens.specs.declared.token.TokenKind.TheVariants.{Word, Number, ByteString, Punctuation}
use Rattle.tokens.specs.declared.token.NumberLiteral.{NumberLiteral}
use Rattle.tokens.specs.declared.token.NumberSuffix.{NumberSuffix}
use Rattle.tokens.specs.declared.token.NumberSuffix.TheVariants.{U256}
use Rattle.tokens.specs.declared.token.Punctuation.TheVariants.{LeftBrace, LeftBracket, Colon, ColonColon, Period}
use Rattle.syntax_tree.specs.declared.lexeme.Numeral.{Numeral}
use Rattle.syntax_tree.specs.declared.literal.Literal.{Literal}
use Rattle.syntax_tree.specs.declared.literal.Literal.TheVariants.{Number as number_literal, Truth, Address}
use Rattle.syntax_tree.specs.declared.path.Path.{Path}
use Rattle.syntax_tree.specs.ProperTypes.{last_name}
use Rattle.syntax_tree.specs.declared.spec_expression.operator.Quantifier.{Quantifier}
use Rattle.syntax_tree.specs.declared.spec_expression.operator.Quantifier.TheVariants.{ForAll, Exists}
use Rattle.parser_base.specs.TokenReading.{Read, after_sign, after_word, word_span_at, identifier_at, begins_capital}
use Rattle.parser_base.specs.PathReading.{address_at}

-- ---- literals

-- an address after its `@`
unfoldable pub address_literal_at : Span → List Token → Read Literal
address_literal_at span ts = option_map (λ a. (Address span a.0, a.1)) (address_at ts)

-- ---- the beginnings of other parts

-- decides whether a bind is here: a name with a type or a range
unfoldable pub opens_bind : List Token → Bool
opens_bind ts = option_map_or (λ name. is_some (after_sign Colon name.1) || is_some (after_word (codes "in") name.1)) (identifier_at ts) false

unfoldable pub quantifier_word_at : List Token → Read (Quantifier × Span)
quantifier_word_at ts =
    option_map_or (λ p. Some ((ForAll, p.0), p.1)) (word_span_at (codes "forall") ts) (option_map (λ p. ((Exists, p.0), p.1)) (word_span_at (codes "exists") ts))

-- the word of a quantifier, if a bind follows it; otherwise it is a name
unfoldable pub quantifier_at : List Token → Read (Quantifier × Span)
quantifier_at ts = option_and_then (λ q. if opens_bind q.1 then Some (q.0, q.1) else None) (quantifier_word_at ts)

-- decides whether a field or an index follows a term
unfoldable pub has_postfix : List Token → Bool
has_postfix ts = is_some (after_sign Period ts) || is_some (after_sign LeftBracket ts)

-- decides whether a pack is allowed and its fields follow a path
unfoldable pub pack_opened : Bool → Path → List Token → Option (List Token)
pack_opened packs path ts = if packs && begins_capital (last_name path) then after_sign LeftBrace ts else None
