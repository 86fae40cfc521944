-- The codes by which the logic stores the tokens that a tree keeps.
use base.Stored.{Gv, gnil, gnum, gcons, num}
use Rattle.std.specs.Prelude.{◌≡◌, List, [], ◌∷◌, refl, Option, Some, None}
use Rattle.base.specs.Codes.{pick, numbers_code, numbers_back, numbers_back-code}
use Rattle.tokens.specs.declared.token.Token.{Token}
use Rattle.tokens.specs.declared.token.TokenKind.{TokenKind}
use Rattle.tokens.specs.declared.token.TokenKind.TheVariants.{Word, Number, ByteString, Punctuation}
use Rattle.tokens.specs.declared.token.Punctuation.{Punctuation as Sign}
use Rattle.tokens.specs.declared.token.Punctuation.TheVariants.{LeftParenthesis, RightParenthesis, LeftBrace, RightBrace, LeftBracket, RightBracket, Comma, Semicolon, Colon, ColonColon, Period, PeriodPeriod, Equal, EqualEqual, EqualEqualGreater, ExclaimEqual, Exclaim, Less, LessEqual, LessEqualEqualGreater, LessLess, Greater, GreaterEqual, Plus, Minus, Star, Slash, Percent, Ampersand, AmpersandAmpersand, Pipe, PipePipe, Caret, AtSign, NumberSign}
use Rattle.syntax_tree.specs.declared.spec_tokens.KeptSpec.{KeptSpec}
use Rattle.syntax_tree.specs.LeafCodes.{head, tail, bool_code, bool_back, bool_back-code, span_code, span_back, number_literal_code, number_literal_back, number_literal_back-code}
use Rattle.syntax_tree.specs.TypeTreeData.{SourceTypeData}
use Rattle.syntax_tree.specs.TypeTreeCodes.{source_type_code, source_type_back, source_type_back-code}

abbrev pub sign_code : Sign → Gv
sign_code LeftParenthesis = gnum 0
sign_code RightParenthesis = gnum 1
sign_code LeftBrace = gnum 2
sign_code RightBrace = gnum 3
sign_code LeftBracket = gnum 4
sign_code RightBracket = gnum 5
sign_code Comma = gnum 6
sign_code Semicolon = gnum 7
sign_code Colon = gnum 8
sign_code ColonColon = gnum 9
sign_code Period = gnum 10
sign_code PeriodPeriod = gnum 11
sign_code Equal = gnum 12
sign_code EqualEqual = gnum 13
sign_code EqualEqualGreater = gnum 14
sign_code ExclaimEqual = gnum 15
sign_code Exclaim = gnum 16
sign_code Less = gnum 17
sign_code LessEqual = gnum 18
sign_code LessEqualEqualGreater = gnum 19
sign_code LessLess = gnum 20
sign_code Greater = gnum 21
sign_code GreaterEqual = gnum 22
sign_code Plus = gnum 23
sign_code Minus = gnum 24
sign_code Star = gnum 25
sign_code Slash = gnum 26
sign_code Percent = gnum 27
sign_code Ampersand = gnum 28
sign_code AmpersandAmpersand = gnum 29
sign_code Pipe = gnum 30
sign_code PipePipe = gnum 31
sign_code Caret = gnum 32
sign_code AtSign = gnum 33
sign_code NumberSign = gnum 34

abbrev pub sign_back : Gv → Sign
sign_back g = pick (num g) LeftParenthesis (LeftParenthesis ∷ RightParenthesis ∷ LeftBrace ∷ RightBrace ∷ LeftBracket ∷ RightBracket ∷ Comma ∷ Semicolon ∷ Colon ∷ ColonColon ∷ Period ∷ PeriodPeriod ∷ Equal ∷ EqualEqual ∷ EqualEqualGreater ∷ ExclaimEqual ∷ Exclaim ∷ Less ∷ LessEqual ∷ LessEqualEqualGreater ∷ LessLess ∷ Greater ∷ GreaterEqual ∷ Plus ∷ Minus ∷ Star ∷ Slash ∷ Percent ∷ Ampersand ∷ AmpersandAmpersand ∷ Pipe ∷ PipePipe ∷ Caret ∷ AtSign ∷ NumberSign ∷ [])

pub sign_back-code : (x : Sign) → sign_back (sign_code x) ≡ x
sign_back-code LeftParenthesis = refl
sign_back-code RightParenthesis = refl
sign_back-code LeftBrace = refl
sign_back-code RightBrace = refl
sign_back-code LeftBracket = refl
sign_back-code RightBracket = refl
sign_back-code Comma = refl
sign_back-code Semicolon = refl
sign_back-code Colon = refl
sign_back-code ColonColon = refl
sign_back-code Period = refl
sign_back-code PeriodPeriod = refl
sign_back-code Equal = refl
sign_back-code EqualEqual = refl
sign_back-code EqualEqualGreater = refl
sign_back-code ExclaimEqual = refl
sign_back-code Exclaim = refl
sign_back-code Less = refl
sign_back-code LessEqual = refl
sign_back-code LessEqualEqualGreater = refl
sign_back-code LessLess = refl
sign_back-code Greater = refl
sign_back-code GreaterEqual = refl
sign_back-code Plus = refl
sign_back-code Minus = refl
sign_back-code Star = refl
sign_back-code Slash = refl
sign_back-code Percent = refl
sign_back-code Ampersand = refl
sign_back-code AmpersandAmpersand = refl
sign_back-code Pipe = refl
sign_back-code PipePipe = refl
sign_back-code Caret = refl
sign_back-code AtSign = refl
sign_back-code NumberSign = refl

abbrev pub kind_code : TokenKind → Gv
kind_code (Word text) = gcons (gnum 0) (numbers_code text)
kind_code (Number n) = gcons (gnum 1) (number_literal_code n)
kind_code (ByteString text) = gcons (gnum 2) (numbers_code text)
kind_code (Punctuation s) = gcons (gnum 3) (sign_code s)

abbrev pub kind_back : Gv → TokenKind
kind_back g =
    pick (num (head g)) (Word []) (Word (numbers_back (tail g)) ∷ Number (number_literal_back (tail g)) ∷ ByteString (numbers_back (tail g)) ∷ Punctuation (sign_back (tail g)) ∷ [])

pub kind_back-code : (x : TokenKind) → kind_back (kind_code x) ≡ x
kind_back-code (Word text) = λ i. Word (numbers_back-code text i)
kind_back-code (Number n) = λ i. Number (number_literal_back-code n i)
kind_back-code (ByteString text) = λ i. ByteString (numbers_back-code text i)
kind_back-code (Punctuation s) = λ i. Punctuation (sign_back-code s i)

abbrev pub token_code : Token → Gv
token_code t = gcons (kind_code t.kind) (gcons (span_code t.span) (bool_code t.glued))

abbrev pub token_back : Gv → Token
token_back g = record { kind = kind_back (head g); span = span_back (head (tail g)); glued = bool_back (tail (tail g)) }

pub token_back-code : (x : Token) → token_back (token_code x) ≡ x
token_back-code x = λ i. record { kind = kind_back-code x.kind i; span = x.span; glued = bool_back-code x.glued i }

abbrev pub tokens_code : List Token → Gv
tokens_code [] = gnil
tokens_code (x ∷ xs) = gcons (token_code x) (tokens_code xs)

abbrev pub tokens_back : Gv → List Token
tokens_back gnil = []
tokens_back (gnum n) = []
tokens_back (gcons a b) = token_back a ∷ tokens_back b

pub tokens_back-code : (xs : List Token) → tokens_back (tokens_code xs) ≡ xs
tokens_back-code [] = refl
tokens_back-code (x ∷ xs) = λ i. token_back-code x i ∷ tokens_back-code xs i

abbrev pub kept_spec_code : KeptSpec → Gv
kept_spec_code s = tokens_code s.tokens

abbrev pub kept_spec_back : Gv → KeptSpec
kept_spec_back g = record { tokens = tokens_back g }

pub kept_spec_back-code : (x : KeptSpec) → kept_spec_back (kept_spec_code x) ≡ x
kept_spec_back-code x = λ i. record { tokens = tokens_back-code x.tokens i }

abbrev pub maybe_kept_spec_code : Option KeptSpec → Gv
maybe_kept_spec_code None = gnil
maybe_kept_spec_code (Some x) = gcons gnil (kept_spec_code x)

abbrev pub maybe_kept_spec_back : Gv → Option KeptSpec
maybe_kept_spec_back (gcons a b) = Some (kept_spec_back b)
maybe_kept_spec_back _ = None

pub maybe_kept_spec_back-code : (x : Option KeptSpec) → maybe_kept_spec_back (maybe_kept_spec_code x) ≡ x
maybe_kept_spec_back-code None = refl
maybe_kept_spec_back-code (Some x) = λ i. Some (kept_spec_back-code x i)

abbrev pub maybe_source_type_code : Option SourceTypeData → Gv
maybe_source_type_code None = gnil
maybe_source_type_code (Some x) = gcons gnil (source_type_code x)

abbrev pub maybe_source_type_back : Gv → Option SourceTypeData
maybe_source_type_back (gcons a b) = Some (source_type_back b)
maybe_source_type_back _ = None

pub maybe_source_type_back-code : (x : Option SourceTypeData) → maybe_source_type_back (maybe_source_type_code x) ≡ x
maybe_source_type_back-code None = refl
maybe_source_type_back-code (Some x) = λ i. Some (source_type_back-code x i)
