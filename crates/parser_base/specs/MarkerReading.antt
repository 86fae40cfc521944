-- The search for markers. Markers defines what they are.
use Rattle.std.specs.Prelude.{ℕ, suc, Bool, true, false, not, ◌&&◌, ◌||◌, ◌+◌, if◌then◌else◌, List, [], ◌∷◌, Option, Some, None, is_some, codes}
use Rattle.std.specs.Option.{option_map}
use Rattle.tokens.specs.declared.token.Token.{Token}
use Rattle.tokens.specs.declared.token.TokenKind.{TokenKind}
use Rattle.tokens.specs.declared.token.TokenKind.TheVariants.{Word, Number, ByteString, Punctuation}
use Rattle.tokens.specs.declared.token.NumberSuffix.{NumberSuffix}
use Rattle.tokens.specs.declared.token.NumberSuffix.TheVariants.{U256}
use Rattle.tokens.specs.declared.token.Punctuation.TheVariants.{Exclaim}
use Rattle.parser_base.specs.TokenReading.{after_sign}
use Rattle.base.specs.Names.{is_one_of, same_name}
use Rattle.parser_base.specs.Markers.{marker_words}

abbrev pub is_wide : NumberSuffix → Bool
is_wide U256 = true
is_wide _ = false

unfoldable pub is_marker : TokenKind → List Token → Bool
is_marker (Word word) behind = is_one_of marker_words word || (same_name word (codes "assert") && not (is_some (after_sign Exclaim behind)))
is_marker (Number literal) behind = is_wide literal.suffix
is_marker (ByteString text) behind = true
is_marker (Punctuation sign) behind = false

-- an index found after `count` tokens
abbrev pub further : ℕ → Option ℕ → Option ℕ
further count found = option_map (λ index. count + index) found

abbrev pub one_further : Option ℕ → Option ℕ
one_further found = option_map (λ index. suc index) found

unfoldable pub first_of : List Token → Option ℕ
first_of [] = None
first_of (t ∷ ts) = if is_marker t.kind ts then Some 0 else one_further (first_of ts)
