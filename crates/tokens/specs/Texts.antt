-- The texts of tokens. Source: The Move Book, "Integers" and "Vector", on literals, and the lexer of Move's compiler. A
-- number is below 2^128, since u128 is the widest integer type of this project.
use Rattle.std.specs.Prelude.{◌≡◌, ℕ, ◌+◌, ◌*◌, ◌<◌, ◌^◌, Bool, IsTrue, ◌||◌, ◌==◌, ◌≢◌, ◌⊎◌, if◌then◌else◌, List, [], ◌∷◌, ◌++◌, codes}
use Rattle.std.specs.List.{list_all, concat, AllByRecursion}
use Rattle.std.specs.Char.{is_ascii_digit, is_ascii_hexdigit, digit_value}
use Rattle.tokens.specs.declared.token.TokenKind.{TokenKind}
use Rattle.tokens.specs.declared.token.TokenKind.TheVariants.{Word, Number, ByteString, Punctuation}
use Rattle.tokens.specs.declared.token.NumberLiteral.{NumberLiteral}
use Rattle.tokens.specs.Characters.{begins_word, continues_word}
use Rattle.tokens.specs.Signs.{sign_text, suffix_text}

-- a letter or `_`, then letters, digits and `_`
abbrev pub IsWord : List ℕ → Type 0
IsWord [] = ⊥
IsWord (b ∷ rest) = IsTrue (begins_word b) × IsTrue (list_all continues_word rest)

-- a digit, then digits and `_`
abbrev pub IsDigits : (ℕ → Bool) → List ℕ → Type 0
IsDigits is_digit [] = ⊥
IsDigits is_digit (b ∷ rest) = IsTrue (is_digit b) × IsTrue (list_all (λ c. is_digit c || (c == 95)) rest)

-- the number that `before` and then the digits spell in the base; `_` is ignored
abbrev pub number_from : ℕ → ℕ → List ℕ → ℕ
number_from base before [] = before
number_from base before (b ∷ rest) = number_from base (if b == 95 then before else before * base + digit_value b) rest

-- decimal digits, or `0x` and hexadecimal digits, with the number that they spell
abbrev pub IsNumeral : List ℕ → ℕ → Type 0
IsNumeral text value =
    (IsDigits is_ascii_digit text × (value ≡ number_from 10 0 text))
    ⊎ ((digits : List ℕ) × (text ≡ codes "0x" ++ digits) × IsDigits is_ascii_hexdigit digits × (value ≡ number_from 16 0 digits))

-- a numeral below 2^128 and a suffix, whether or not the number fits the type that the suffix names
pub record IsNumber (number : NumberLiteral) : Type 0 where
  pub numeral : List ℕ
  pub spelled : number.text ≡ numeral ++ suffix_text number.suffix
  pub valued : IsNumeral numeral number.value
  pub bounded : number.value < 2 ^ 128

-- a unit of a byte string: a byte other than `"`, `\` and LF, or `\` and a byte other than LF
abbrev pub IsUnit : List ℕ → Type 0
IsUnit [] = ⊥
IsUnit (b ∷ []) = (b ≢ 34) × (b ≢ 92) × (b ≢ 10)
IsUnit (b ∷ c ∷ []) = (b ≡ 92) × (c ≢ 10)
IsUnit (b ∷ c ∷ d ∷ rest) = ⊥

-- `b"` or `x"`, units, and `"`
pub record IsByteString (text : List ℕ) : Type 0 where
  pub letter : ℕ
  pub units : List (List ℕ)
  pub spelled : text ≡ letter ∷ 34 ∷ (concat units ++ 34 ∷ [])
  pub letter_is : (letter ≡ 98) ⊎ (letter ≡ 120)
  pub units_are : AllByRecursion IsUnit units

-- the bytes that spell a token
abbrev pub text_of : TokenKind → List ℕ
text_of (Word text) = text
text_of (Number number) = number.text
text_of (ByteString text) = text
text_of (Punctuation sign) = sign_text sign

-- the text of the token is one of its kind
abbrev pub IsTokenKind : TokenKind → Type 0
IsTokenKind (Word text) = IsWord text
IsTokenKind (Number number) = IsNumber number
IsTokenKind (ByteString text) = IsByteString text
IsTokenKind (Punctuation sign) = Unit {0}
