-- Tokens with balanced brackets, each closed by one of its own kind. A file tree keeps the content of an attribute and
-- of a spec block as such tokens.
use Rattle.std.specs.Prelude.{◌≡◌, List, [], ◌∷◌, Option, Some, None}
use Rattle.tokens.specs.declared.token.Token.{Token}
use Rattle.tokens.specs.declared.token.TokenKind.{TokenKind}
use Rattle.tokens.specs.declared.token.TokenKind.TheVariants.{Punctuation}
use Rattle.tokens.specs.declared.token.Punctuation.{Punctuation as Sign}
use Rattle.tokens.specs.declared.token.Punctuation.TheVariants.{LeftParenthesis, RightParenthesis, LeftBrace, RightBrace, LeftBracket, RightBracket}

-- the closing brackets that are still expected, the next one first, after a closing bracket
abbrev pub closed : Sign → List Sign → Option (List Sign)
closed RightParenthesis (RightParenthesis ∷ wanted) = Some wanted
closed RightBrace (RightBrace ∷ wanted) = Some wanted
closed RightBracket (RightBracket ∷ wanted) = Some wanted
closed _ _ = None

-- the same after a token; none where brackets do not match
abbrev pub expected_after : Option (List Sign) → TokenKind → Option (List Sign)
expected_after None kind = None
expected_after (Some wanted) (Punctuation LeftParenthesis) = Some (RightParenthesis ∷ wanted)
expected_after (Some wanted) (Punctuation LeftBrace) = Some (RightBrace ∷ wanted)
expected_after (Some wanted) (Punctuation LeftBracket) = Some (RightBracket ∷ wanted)
expected_after (Some wanted) (Punctuation RightParenthesis) = closed RightParenthesis wanted
expected_after (Some wanted) (Punctuation RightBrace) = closed RightBrace wanted
expected_after (Some wanted) (Punctuation RightBracket) = closed RightBracket wanted
expected_after (Some wanted) kind = Some wanted

abbrev pub wanted_after : Option (List Sign) → List Token → Option (List Sign)
wanted_after wanted [] = wanted
wanted_after wanted (token ∷ tokens) = wanted_after (expected_after wanted token.kind) tokens

abbrev pub IsBalanced : List Token → Type 0
IsBalanced tokens = wanted_after (Some []) tokens ≡ Some []
