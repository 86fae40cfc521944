-- The reader of attributes.
use Rattle.std.specs.Prelude.{List, [], option_and_then, length}
use Rattle.std.specs.Option.{option_map}
use Rattle.base.specs.declared.span.Span.{Span}
use Rattle.tokens.specs.declared.token.Token.{Token}
use Rattle.tokens.specs.declared.token.Punctuation.TheVariants.{NumberSign, LeftBracket, RightBracket}
use Rattle.syntax_tree.specs.declared.member.Attribute.{Attribute}
use Rattle.parser_base.specs.TokenReading.{Read, after_sign, sign_span_at}
use Rattle.parser_base.specs.BalanceReading.{balanced_at}
use Rattle.parser_base.specs.RepeatReading.{repeat_at}

-- an attribute after its number sign
unfoldable pub attribute_at : Span → List Token → Read Attribute
attribute_at span ts = option_and_then (λ inside. option_map (λ r. (record { span = span; tokens = r.0 }, r.1)) (balanced_at RightBracket inside)) (after_sign LeftBracket ts)

abbrev pub placed_attribute_at : Span × List Token → Read Attribute
placed_attribute_at p = attribute_at p.0 p.1

-- any number of attributes
unfoldable pub attributes_at : List Token → Read (List Attribute)
attributes_at ts = repeat_at (sign_span_at NumberSign) placed_attribute_at (length ts) ts
