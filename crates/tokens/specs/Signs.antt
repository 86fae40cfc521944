-- The spelling of each sign and of each suffix of a number. Source: the tokens of Move's compiler; `==>`, `<==>` and
-- `..` are signs of the Move Specification Language.
use Rattle.std.specs.Prelude.{ℕ, List, codes}
use Rattle.tokens.specs.declared.token.Punctuation.{Punctuation}
use Rattle.tokens.specs.declared.token.Punctuation.TheVariants.{LeftParenthesis, RightParenthesis, LeftBrace, RightBrace, LeftBracket, RightBracket, Comma, Semicolon, Colon, ColonColon, Period, PeriodPeriod, Equal, EqualEqual, EqualEqualGreater, ExclaimEqual, Exclaim, Less, LessEqual, LessEqualEqualGreater, LessLess, Greater, GreaterEqual, Plus, Minus, Star, Slash, Percent, Ampersand, AmpersandAmpersand, Pipe, PipePipe, Caret, AtSign, NumberSign}
use Rattle.tokens.specs.declared.token.NumberSuffix.{NumberSuffix}
use Rattle.tokens.specs.declared.token.NumberSuffix.TheVariants.{Absent, U8, U16, U32, U64, U128, U256}

abbrev pub sign_text : Punctuation → List ℕ
sign_text LeftParenthesis = codes "("
sign_text RightParenthesis = codes ")"
sign_text LeftBrace = codes "{"
sign_text RightBrace = codes "}"
sign_text LeftBracket = codes "["
sign_text RightBracket = codes "]"
sign_text Comma = codes ","
sign_text Semicolon = codes ";"
sign_text Colon = codes ":"
sign_text ColonColon = codes "::"
sign_text Period = codes "."
sign_text PeriodPeriod = codes ".."
sign_text Equal = codes "="
sign_text EqualEqual = codes "=="
sign_text EqualEqualGreater = codes "==>"
sign_text ExclaimEqual = codes "!="
sign_text Exclaim = codes "!"
sign_text Less = codes "<"
sign_text LessEqual = codes "<="
sign_text LessEqualEqualGreater = codes "<==>"
sign_text LessLess = codes "<<"
sign_text Greater = codes ">"
sign_text GreaterEqual = codes ">="
sign_text Plus = codes "+"
sign_text Minus = codes "-"
sign_text Star = codes "*"
sign_text Slash = codes "/"
sign_text Percent = codes "%"
sign_text Ampersand = codes "&"
sign_text AmpersandAmpersand = codes "&&"
sign_text Pipe = codes "|"
sign_text PipePipe = codes "||"
sign_text Caret = codes "^"
sign_text AtSign = codes "@"
sign_text NumberSign = codes "#"

abbrev pub suffix_text : NumberSuffix → List ℕ
suffix_text Absent = codes ""
suffix_text U8 = codes "u8"
suffix_text U16 = codes "u16"
suffix_text U32 = codes "u32"
suffix_text U64 = codes "u64"
suffix_text U128 = codes "u128"
suffix_text U256 = codes "u256"
