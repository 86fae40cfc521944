-- The reader of tokens with balanced brackets, up to the sign that closes them.
use Rattle.std.specs.Prelude.{◌≡◌, ◌-◌, Bool, true, false, if◌then◌else◌, List, [], ◌∷◌, Option, Some, None, option_and_then, length, take}
use Rattle.std.specs.Option.{option_map}
use Rattle.tokens.specs.declared.token.Token.{Token}
use Rattle.tokens.specs.declared.token.TokenKind.{TokenKind}
use Rattle.tokens.specs.declared.token.Punctuation.{Punctuation as Sign}
use Rattle.syntax_tree.specs.Balance.{expected_after}
use Rattle.parser_base.specs.TokenReading.{Read, is_sign}

-- decides whether the token closes the whole: no bracket is open
abbrev pub ends_here : Sign → List Sign → TokenKind → Bool
ends_here close [] kind = is_sign close kind
ends_here close (w ∷ ws) kind = false

-- the tokens after the sign that closes the whole, where these brackets are open
unfoldable pub balanced_end : Sign → List Sign → List Token → Option (List Token)
balanced_end close wanted [] = None
balanced_end close wanted (t ∷ ts) =
    if ends_here close wanted t.kind then Some ts
    else option_and_then (λ more. balanced_end close more ts) (expected_after (Some wanted) t.kind)

-- the tokens before the sign, and those after it
unfoldable pub balanced_at : Sign → List Token → Read (List Token)
balanced_at close ts = option_map (λ rest. (take (length ts - length rest - 1) ts, rest)) (balanced_end close [] ts)

-- the brackets expected after a token, or none if the token does not fit
abbrev pub Follows : Bool → Option (List Sign) → List Sign → Type 0
Follows true wanted found = wanted ≡ Some found
Follows false wanted found = wanted ≡ None
