-- The weight of a token list: the nesting of its brackets, with the operators of each level. It is an upper bound of
-- the depth of each tree with these tokens, and is this project's own measure.
use Rattle.std.specs.Prelude.{ℕ, ◌+◌, max, Bool, nat_le, nat_eq, if◌then◌else◌, List, [], ◌∷◌, length, sum, codes}
use Rattle.std.specs.List.{list_any}
use Rattle.std.specs.Cmp.Lexicographic.{pointwise}
use Rattle.tokens.specs.declared.token.Punctuation.{Punctuation}
use Rattle.tokens.specs.declared.token.Punctuation.TheVariants.{LeftParenthesis, RightParenthesis, LeftBrace, RightBrace, LeftBracket, RightBracket, Comma, Semicolon, Colon, ColonColon, Period, PeriodPeriod, Equal, EqualEqual, EqualEqualGreater, ExclaimEqual, Exclaim, Less, LessEqual, LessEqualEqualGreater, LessLess, Greater, GreaterEqual, Plus, Minus, Star, Slash, Percent, Ampersand, AmpersandAmpersand, Pipe, PipePipe, Caret, AtSign, NumberSign}
use Rattle.tokens.specs.declared.token.TokenKind.{TokenKind}
use Rattle.tokens.specs.declared.token.TokenKind.TheVariants.{Word, Number, ByteString, Punctuation as punctuation}
use Rattle.tokens.specs.declared.token.Token.{Token}

-- The open levels: the count of the innermost, and the counts of those around it, outwards. The last is the level of
-- the file, and each other one is an open bracket.
pub record Levels : Type 0 where
  pub innermost : ℕ
  pub outer : List ℕ

-- the levels at the start of a file
abbrev pub file_level : Levels
file_level = record { innermost = 0; outer = [] }

-- the sum of the counts, plus the number of open brackets
abbrev pub weight_of : Levels → ℕ
weight_of levels = levels.innermost + sum levels.outer + length levels.outer

-- an opening bracket adds a level
abbrev pub opened : Levels → Levels
opened levels = record { innermost = 0; outer = levels.innermost ∷ levels.outer }

-- the count of the innermost level, increased by one
abbrev pub counted : Levels → Levels
counted levels = record { innermost = levels.innermost + 1; outer = levels.outer }

-- the count of the innermost level, set to 0
abbrev pub restarted : Levels → Levels
restarted levels = record { innermost = 0; outer = levels.outer }

-- the levels around the innermost, whose counts are these; the level of the file remains
abbrev pub surrounding : Levels → List ℕ → Levels
surrounding levels [] = levels
surrounding levels (count ∷ rest) = record { innermost = count; outer = rest }

-- a closing bracket, of any kind, closes the innermost level, and changes nothing at the level of the file
abbrev pub closed : Levels → Levels
closed levels = surrounding levels levels.outer

-- `}` closes the innermost level, and sets the count to 0 where the level around it is that of the file or of a bracket
-- in the file: it ends an item of the file or of a module
abbrev pub surrounding_item : Levels → List ℕ → Levels
surrounding_item levels [] = levels
surrounding_item levels (count ∷ rest) = record { innermost = if nat_le (length rest) 1 then 0 else count; outer = rest }

abbrev pub closed_by_brace : Levels → Levels
closed_by_brace levels = surrounding_item levels levels.outer

-- decides whether the word counts
abbrev pub is_counted_word : List ℕ → Bool
is_counted_word text =
    list_any (λ word. pointwise nat_eq word text)
    (codes "if" ∷ codes "else" ∷ codes "while" ∷ codes "loop" ∷ codes "return" ∷ codes "abort" ∷ codes "as" ∷ codes "forall" ∷ codes "exists" ∷ [])

-- the levels after a sign
abbrev pub after_sign : Punctuation → Levels → Levels
after_sign LeftParenthesis levels = opened levels
after_sign LeftBrace levels = opened levels
after_sign LeftBracket levels = opened (counted levels)
after_sign RightParenthesis levels = closed levels
after_sign RightBracket levels = closed levels
after_sign RightBrace levels = closed_by_brace levels
after_sign Semicolon levels = restarted levels
after_sign Exclaim levels = counted levels
after_sign Star levels = counted levels
after_sign Slash levels = counted levels
after_sign Percent levels = counted levels
after_sign Plus levels = counted levels
after_sign Minus levels = counted levels
after_sign LessLess levels = counted levels
after_sign Less levels = counted levels
after_sign Greater levels = counted levels
after_sign LessEqual levels = counted levels
after_sign GreaterEqual levels = counted levels
after_sign EqualEqual levels = counted levels
after_sign ExclaimEqual levels = counted levels
after_sign AmpersandAmpersand levels = counted levels
after_sign PipePipe levels = counted levels
after_sign Ampersand levels = counted levels
after_sign Caret levels = counted levels
after_sign Pipe levels = counted levels
after_sign PeriodPeriod levels = counted levels
after_sign EqualEqualGreater levels = counted levels
after_sign LessEqualEqualGreater levels = counted levels
after_sign Equal levels = counted levels
after_sign Period levels = counted levels
after_sign Comma levels = levels
after_sign Colon levels = levels
after_sign ColonColon levels = levels
after_sign AtSign levels = levels
after_sign NumberSign levels = levels

-- the levels after a token
abbrev pub after_token : TokenKind → Levels → Levels
after_token (punctuation sign) levels = after_sign sign levels
after_token (Word text) levels = if is_counted_word text then counted levels else levels
after_token (Number number) levels = levels
after_token (ByteString text) levels = levels

-- the weight after each token
abbrev pub weights : Levels → List Token → List ℕ
weights levels [] = []
weights levels (token ∷ rest) = weight_of (after_token token.kind levels) ∷ weights (after_token token.kind levels) rest

abbrev pub greatest : List ℕ → ℕ
greatest [] = 0
greatest (weight ∷ rest) = max weight (greatest rest)

-- the greatest weight after a token of a file; 0 without tokens
abbrev pub greatest_weight : List Token → ℕ
greatest_weight tokens = greatest (weights file_level tokens)
