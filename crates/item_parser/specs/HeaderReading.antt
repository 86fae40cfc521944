-- The reader of the parts of a function before its name and after its inputs.
use Rattle.std.specs.Prelude.{List, Option, Some, None, option_and_then, codes}
use Rattle.std.specs.Option.{option_map, option_map_or}
use Rattle.base.specs.declared.span.Span.{Span}
use Rattle.tokens.specs.declared.token.Token.{Token}
use Rattle.tokens.specs.declared.token.Punctuation.TheVariants.{Colon, LeftParenthesis, RightParenthesis, LeftBrace}
use Rattle.syntax_tree.specs.TypeTreeData.{SourceTypeData}
use Rattle.syntax_tree.specs.declared.member.Visibility.{Visibility}
use Rattle.syntax_tree.specs.declared.member.Visibility.TheVariants.{Module as in_module, Public, Friends}
use Rattle.syntax_tree.specs.MemberData.{PathsData}
use Rattle.parser_base.specs.TokenReading.{Read, after_sign, before_sign, after_word, word_span_at}
use Rattle.parser_base.specs.ListReading.{some_items_at}
use Rattle.parser_base.specs.PathReading.{path_at}

-- `friend` after its parenthesis, for a `public` here
unfoldable pub friends_at : Span → List Token → Read Visibility
friends_at span ts = option_and_then (λ rest. option_map (λ behind. (Friends span, behind)) (after_sign RightParenthesis rest)) (after_word (codes "friend") ts)

-- the visibility of a `public`, by what follows it
unfoldable pub public_at : Span → List Token → Read Visibility
public_at span ts = option_map_or (λ inside. friends_at span inside) (after_sign LeftParenthesis ts) (Some (Public span, ts))

unfoldable pub visibility_at : List Token → Read Visibility
visibility_at ts = option_map_or (λ p. public_at p.0 p.1) (word_span_at (codes "public") ts) (Some (in_module, ts))

-- the span of `entry`, if it is here
unfoldable pub entry_at : List Token → Option Span × List Token
entry_at ts = option_map_or (λ p. (Some p.0, p.1)) (word_span_at (codes "entry") ts) (None, ts)

-- paths up to the brace of a function
unfoldable pub listed_paths_at : List Token → Read PathsData
listed_paths_at ts = option_map (λ items. (record { items = items.0.0; last_comma = items.0.1 }, items.1)) (some_items_at (before_sign LeftBrace) path_at ts)

unfoldable pub acquires_at : List Token → Read (Option PathsData)
acquires_at ts = option_map_or (λ rest. option_map (λ p. (Some p.0, p.1)) (listed_paths_at rest)) (after_word (codes "acquires") ts) (Some (None, ts))
