-- The piece at the front of bytes, and its end. These functions are the scanner's own; Spelling.antt defines what the
-- pieces mean.
use Rattle.std.specs.Prelude.{ℕ, ◌+◌, ◌*◌, ◌-◌, ◌^◌, Bool, true, false, not, ◌&&◌, ◌||◌, ◌==◌, nat_eq, nat_lt, if◌then◌else◌, Option, Some, None, List, [], ◌∷◌, take, drop, length, slice_index, codes}
use Rattle.std.specs.List.{prefix_len}
use Rattle.std.specs.Option.{option_map}
use Rattle.std.specs.Cmp.Lexicographic.{pointwise}
use Rattle.std.specs.Char.{is_ascii_digit, is_ascii_hexdigit, digit_value}
use Rattle.tokens.specs.declared.token.Punctuation.{Punctuation}
use Rattle.tokens.specs.declared.token.Punctuation.TheVariants.{LeftParenthesis, RightParenthesis, LeftBrace, RightBrace, LeftBracket, RightBracket, Comma, Semicolon, Colon, ColonColon, Period, PeriodPeriod, Equal, EqualEqual, EqualEqualGreater, ExclaimEqual, Exclaim, Less, LessEqual, LessEqualEqualGreater, LessLess, Greater, GreaterEqual, Plus, Minus, Star, Slash, Percent, Ampersand, AmpersandAmpersand, Pipe, PipePipe, Caret, AtSign, NumberSign}
use Rattle.tokens.specs.declared.token.NumberSuffix.{NumberSuffix}
use Rattle.tokens.specs.declared.token.NumberSuffix.TheVariants.{Absent, U8, U16, U32, U64, U128, U256}
use Rattle.tokens.specs.declared.token.TokenKind.{TokenKind}
use Rattle.tokens.specs.declared.token.TokenKind.TheVariants.{Word as word_kind, Number as number_kind, ByteString as byte_string_kind, Punctuation as sign_kind}
use Rattle.tokens.specs.declared.piece.Class.{Class}
use Rattle.tokens.specs.declared.piece.Class.TheVariants.{Space, Token}
use Rattle.tokens.specs.declared.piece.TokenClass.{TokenClass}
use Rattle.tokens.specs.declared.piece.TokenClass.TheVariants.{Word, Number, ByteString, Sign}
use Rattle.tokens.specs.declared.piece.Found.{Found}
use Rattle.tokens.specs.Signs.{sign_text}
use Rattle.tokens.specs.Characters.{is_blank, begins_word, continues_word}

-- the sign with this text in a table of signs of one byte
abbrev pub lookup : ℕ → List (ℕ × Punctuation) → Option Punctuation
lookup b [] = None
lookup b ((text, sign) ∷ rest) = if b == text then Some sign else lookup b rest

-- the signs that begin no other sign
abbrev pub lone_signs : List (ℕ × Punctuation)
lone_signs =
    (40, LeftParenthesis) ∷ (41, RightParenthesis) ∷ (123, LeftBrace) ∷ (125, RightBrace) ∷ (91, LeftBracket) ∷ (93, RightBracket)
    ∷ (44, Comma) ∷ (59, Semicolon) ∷ (43, Plus) ∷ (45, Minus) ∷ (42, Star) ∷ (47, Slash) ∷ (37, Percent) ∷ (94, Caret)
    ∷ (64, AtSign) ∷ (35, NumberSign) ∷ []

abbrev pub less_at : ℕ → ℕ → ℕ → Punctuation
less_at b c d =
    if b == 60 then LessLess
    else (if b == 61 then (if c == 61 && d == 62 then LessEqualEqualGreater else LessEqual)
    else Less)

abbrev pub equal_at : ℕ → ℕ → Punctuation
equal_at b c = if b == 61 then (if c == 62 then EqualEqualGreater else EqualEqual) else Equal

-- the longest sign at the front of these four bytes, of which those past the end are 0
unfoldable pub sign_at : ℕ → ℕ → ℕ → ℕ → Option Punctuation
sign_at a b c d =
    if a == 60 then Some (less_at b c d)
    else (if a == 61 then Some (equal_at b c)
    else (if a == 58 then Some (if b == 58 then ColonColon else Colon)
    else (if a == 46 then Some (if b == 46 then PeriodPeriod else Period)
    else (if a == 33 then Some (if b == 61 then ExclaimEqual else Exclaim)
    else (if a == 62 then Some (if b == 61 then GreaterEqual else Greater)
    else (if a == 38 then Some (if b == 38 then AmpersandAmpersand else Ampersand)
    else (if a == 124 then Some (if b == 124 then PipePipe else Pipe)
    else lookup a lone_signs)))))))

-- decides whether a numeral in the base goes on with the byte
unfoldable pub continues_numeral : ℕ → ℕ → Bool
continues_numeral base b = (if base == 16 then is_ascii_hexdigit b else is_ascii_digit b) || (b == 95)

-- the number that `before` and one more byte spell
unfoldable pub more_number : ℕ → ℕ → ℕ → ℕ
more_number base before b = if b == 95 then before else before * base + digit_value b

-- the number and the length of the numeral at the front of the bytes, after `count` bytes that spell `before`
abbrev pub numeral_at : ℕ → ℕ → ℕ → List ℕ → Option (ℕ × ℕ)
numeral_at base before count [] = Some (before, count)
numeral_at base before count (b ∷ rest) =
    if continues_numeral base b
    then (if nat_lt (more_number base before b) (2 ^ 128) then numeral_at base (more_number base before b) (count + 1) rest else None)
    else Some (before, count)

unfoldable pub suffix_of : List ℕ → Option NumberSuffix
suffix_of text =
    if pointwise nat_eq (codes "") text then Some Absent
    else (if pointwise nat_eq (codes "u8") text then Some U8
    else (if pointwise nat_eq (codes "u16") text then Some U16
    else (if pointwise nat_eq (codes "u32") text then Some U32
    else (if pointwise nat_eq (codes "u64") text then Some U64
    else (if pointwise nat_eq (codes "u128") text then Some U128
    else (if pointwise nat_eq (codes "u256") text then Some U256
    else None))))))

-- the number that a numeral and the suffix after it spell
abbrev pub suffixed : List ℕ → Option (ℕ × ℕ) → Option (ℕ × NumberSuffix)
suffixed digits None = None
suffixed digits (Some numeral) = option_map (λ suffix. (numeral.0, suffix)) (suffix_of (drop numeral.1 digits))

-- decides whether the run begins with `0x` and a hexadecimal digit
unfoldable pub is_hexadecimal : List ℕ → Bool
is_hexadecimal run = (slice_index run 0 == 48) && (slice_index run 1 == 120) && is_ascii_hexdigit (slice_index run 2)

-- the number that a run of letters, digits and `_` spells
unfoldable pub number_of : List ℕ → Option (ℕ × NumberSuffix)
number_of run =
    if is_hexadecimal run then suffixed (drop 2 run) (numeral_at 16 0 0 (drop 2 run))
    else suffixed run (numeral_at 10 0 0 run)

-- the length up to and including the closing quote, after `count` bytes; `escaped` says whether the last of them is an
-- escaping `\`
abbrev pub quoted_end : Bool → ℕ → List ℕ → Option ℕ
quoted_end escaped count [] = None
quoted_end true count (b ∷ rest) = if b == 10 then None else quoted_end false (count + 1) rest
quoted_end false count (b ∷ rest) =
    if b == 10 then None
    else (if b == 34 then Some (count + 1)
    else quoted_end (b == 92) (count + 1) rest)

-- the length up to and including the `*/` that closes `depth` and one more block comments, after `count` bytes, where
-- `last` is the last of them, or 0 if it belongs to an earlier `/*` or `*/`
abbrev pub comment_end : ℕ → ℕ → ℕ → List ℕ → Option ℕ
comment_end depth last count [] = None
comment_end depth last count (b ∷ rest) =
    if (last == 47) && (b == 42) then comment_end (depth + 1) 0 (count + 1) rest
    else (if (last == 42) && (b == 47) then (if depth == 0 then Some (count + 1) else comment_end (depth - 1) 0 (count + 1) rest)
    else comment_end depth b (count + 1) rest)

-- the classes of pieces that are tokens
abbrev pub word_class : Class
word_class = Token Word

abbrev pub number_class : ℕ → NumberSuffix → Class
number_class value suffix = Token (Number value suffix)

abbrev pub string_class : Class
string_class = Token ByteString

abbrev pub sign_class : Punctuation → Class
sign_class s = Token (Sign s)

-- the token of a class with this text
abbrev pub kind_of : TokenClass → List ℕ → TokenKind
kind_of Word text = word_kind text
kind_of (Number value suffix) text = number_kind (record { text = text; value = value; suffix = suffix })
kind_of ByteString text = byte_string_kind text
kind_of (Sign s) text = sign_kind s

abbrev pub found : Class → ℕ → Found
found class count = record { class = class; length = count }

-- the comment or the sign at a `/`, which these bytes follow
unfoldable pub slash_at : List ℕ → Option Found
slash_at rest =
    if slice_index rest 0 == 47 then Some (found Space (2 + prefix_len (λ b. not (b == 10)) (drop 1 rest)))
    else (if slice_index rest 0 == 42 then option_map (λ count. found Space count) (comment_end 0 0 2 (drop 1 rest))
    else Some (found (sign_class Slash) 1))

-- the byte string with this end, or else the word
abbrev pub string_or_word : Option ℕ → ℕ → Found
string_or_word None count = found word_class count
string_or_word (Some end) count = found string_class end

-- the word or byte string at a letter or `_`, which these bytes follow
unfoldable pub word_at : ℕ → List ℕ → Found
word_at b rest =
    string_or_word
    (if ((b == 98) || (b == 120)) && (slice_index rest 0 == 34) then quoted_end false 2 (drop 1 rest) else None)
    (1 + prefix_len continues_word rest)

-- the number at a digit, if the run of letters, digits and `_` is one
unfoldable pub number_at : List ℕ → Option Found
number_at bytes =
    option_map (λ n. found (number_class n.0 n.1) (prefix_len continues_word bytes))
    (number_of (take (prefix_len continues_word bytes) bytes))

abbrev pub sign_found : Option Punctuation → Option Found
sign_found o = option_map (λ s. found (sign_class s) (length (sign_text s))) o

-- the piece at the front of the bytes: its class and its length
unfoldable pub found_at : List ℕ → Option Found
found_at [] = None
found_at (b ∷ rest) =
    if is_blank b then Some (found Space 1)
    else (if b == 47 then slash_at rest
    else (if begins_word b then Some (word_at b rest)
    else (if is_ascii_digit b then number_at (b ∷ rest)
    else sign_found (sign_at b (slice_index rest 0) (slice_index rest 1) (slice_index rest 2)))))
