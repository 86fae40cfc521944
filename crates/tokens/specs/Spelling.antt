-- The tokens that spell a text: the text is a sequence of pieces, which are tokens, blanks and comments. Source: the
-- lexer of Move's compiler, which takes the longest token at each position.
use Rattle.std.specs.Prelude.{◌≡◌, ℕ, ◌+◌, ◌≤◌, Bool, true, false, ◌⊎◌, ◌≢◌, List, [], ◌∷◌, ◌++◌, length, codes, Result, Err}
use Rattle.tokens.specs.declared.token.TokenKind.{TokenKind}
use Rattle.tokens.specs.declared.token.TokenKind.TheVariants.{Word, Number, ByteString, Punctuation}
use Rattle.tokens.specs.declared.token.Token.{Token}
use Rattle.tokens.specs.declared.token.TokenFault.{TokenFault}
use Rattle.tokens.specs.declared.token.TokenFault.TheVariants.{BadToken, NoMemory}
use Rattle.tokens.specs.Characters.{continues_word}
use Rattle.tokens.specs.Texts.{text_of, IsTokenKind}
use Rattle.tokens.specs.Comments.{IsSpace}

-- a piece of a text: a blank, a comment or a token
pub data Piece : Type 0 where
  space : List ℕ → Piece
  lexeme : TokenKind → Piece

abbrev pub piece_text : Piece → List ℕ
piece_text (space text) = text
piece_text (lexeme kind) = text_of kind

-- no letter, digit or `_` follows
abbrev pub EndsRun : List ℕ → Type 0
EndsRun [] = Unit {0}
EndsRun (b ∷ rest) = continues_word b ≡ false

-- a number is a whole run of letters, digits and `_`
abbrev pub IsWhole : TokenKind → List ℕ → Type 0
IsWhole (Number number) after = EndsRun after
IsWhole (Word text) after = Unit {0}
IsWhole (ByteString text) after = Unit {0}
IsWhole (Punctuation sign) after = Unit {0}

-- a token of this kind, which `after` follows
pub record IsLexeme (kind : TokenKind) (after : List ℕ) : Type 0 where
  pub spelled : IsTokenKind kind
  pub whole : IsWhole kind after
  pub longest : (other : TokenKind) (rest : List ℕ) → IsTokenKind other → text_of kind ++ after ≡ text_of other ++ rest → length (text_of other) ≤ length (text_of kind)
  pub no_line_comment : (rest : List ℕ) → text_of kind ++ after ≡ codes "//" ++ rest → ⊥
  pub no_block_comment : (rest : List ℕ) → text_of kind ++ after ≡ codes "/*" ++ rest → ⊥

-- the piece can be followed by `after`
abbrev pub Stands : Piece → List ℕ → Type 0
Stands (space text) after = IsSpace text after
Stands (lexeme kind) after = IsLexeme kind after

-- the bytes are these pieces, one after another, followed by `rest`
abbrev pub AreLaid : List Piece → List ℕ → List ℕ → Type 0
AreLaid [] bytes rest = bytes ≡ rest
AreLaid (p ∷ ps) bytes rest = (after : List ℕ) × (bytes ≡ piece_text p ++ after) × Stands p after × AreLaid ps after rest

-- the tokens among pieces that begin at the byte `at` of the file; `touching` says whether a token ends there
abbrev pub tokens_of : ℕ → ℕ → Bool → List Piece → List Token
tokens_of file at touching [] = []
tokens_of file at touching (space text ∷ ps) = tokens_of file (at + length text) false ps
tokens_of file at touching (lexeme kind ∷ ps) =
    record { kind = kind; span = record { file = file; start = at; end = at + length (text_of kind) }; glued = touching }
    ∷ tokens_of file (at + length (text_of kind)) true ps

-- the tokens spell the bytes of the file with this number
pub record Spells (file : ℕ) (tokens : List Token) (bytes : List ℕ) : Type 0 where
  pub pieces : List Piece
  pub laid : AreLaid pieces bytes []
  pub in_order : tokens ≡ tokens_of file 0 false pieces

-- the rest is not empty, and no piece begins it
pub record IsStuck (rest : List ℕ) : Type 0 where
  pub left : rest ≢ []
  pub blocked : (p : Piece) (after : List ℕ) → rest ≡ piece_text p ++ after → Stands p after → ⊥

-- after whole pieces, no piece begins at this byte: an impossible token, or an unclosed block comment
pub record IsBadAt (offset : ℕ) (bytes : List ℕ) : Type 0 where
  pub pieces : List Piece
  pub rest : List ℕ
  pub laid : AreLaid pieces bytes rest
  pub stuck : IsStuck rest
  pub placed : offset + length rest ≡ length bytes

-- no tokens spell the bytes
abbrev pub IsUnspelled : ℕ → List ℕ → Type 0
IsUnspelled file bytes = (tokens : List Token) → Spells file tokens bytes → ⊥

-- the answer is this one, or there is not enough memory
abbrev pub Gives : Result (List Token) TokenFault → Result (List Token) TokenFault → Type 0
Gives answer wanted = (answer ≡ wanted) ⊎ (answer ≡ Err NoMemory)

-- the answer is some bad token, or there is not enough memory
abbrev pub GivesBadToken : Result (List Token) TokenFault → Type 0
GivesBadToken answer = ((offset : ℕ) × (answer ≡ Err (BadToken offset))) ⊎ (answer ≡ Err NoMemory)
