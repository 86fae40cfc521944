-- The first tokens of a tree.
use Rattle.std.proofs.Common.{◌≡◌, ℕ, false, List, [], ◌∷◌, ◌++◌, None}
use Rattle.tokens.specs.declared.token.Token.{Token}
use Rattle.tokens.specs.declared.token.TokenKind.{TokenKind}
use Rattle.tokens.specs.declared.token.Punctuation.{Punctuation as Sign}
use Rattle.syntax_tree.specs.declared.lexeme.Lexeme.{Lexeme}
use Rattle.parser_base.specs.Beginnings.{Begins}
use Rattle.parser_base.specs.TokenReading.{is_sign, is_word, after_sign, sign_span_at, after_word, word_span_at, name_of, identifier_at}
use Rattle.parser_base.proofs.TokenLemmas.{after_sign-other, sign_span_at-other, after_word-other, word_span_at-other, identifier_at-other}

-- there is a first token, and it satisfies the condition
abbrev pub First : (TokenKind → Type 0) → List Lexeme → Type 0
First P [] = ⊥
First P (l ∷ ls) = P l.kind

pub First-append : (P : TokenKind → Type 0) (ls ms : List Lexeme) → First P ls → First P (ls ++ ms)
First-append P [] ms f = absurd f
First-append P (l ∷ ls) ms f = f

pub First-weaker : (P Q : TokenKind → Type 0) → ((k : TokenKind) → P k → Q k) → (ls : List Lexeme) → First P ls → First Q ls
First-weaker P Q h [] f = f
First-weaker P Q h (l ∷ ls) f = h l.kind f

pub First-some : (P : TokenKind → Type 0) (ls : List Lexeme) (rest : List Token) → First P ls → Begins ls [] rest → ⊥
First-some P [] rest f b = f
First-some P (l ∷ ls) rest f b = b

pub after_sign-first : (s : Sign) (ls : List Lexeme) (ts rest : List Token) → First (λ k. is_sign s k ≡ false) ls → Begins ls ts rest → after_sign s ts ≡ None
after_sign-first s [] ts rest f b = absurd f
after_sign-first s (l ∷ ls) ts rest f b = after_sign-other s l ls ts rest f b

pub sign_span_at-first : (s : Sign) (ls : List Lexeme) (ts rest : List Token) → First (λ k. is_sign s k ≡ false) ls → Begins ls ts rest → sign_span_at s ts ≡ None
sign_span_at-first s [] ts rest f b = absurd f
sign_span_at-first s (l ∷ ls) ts rest f b = sign_span_at-other s l ls ts rest f b

pub after_word-first : (w : List ℕ) (ls : List Lexeme) (ts rest : List Token) → First (λ k. is_word w k ≡ false) ls → Begins ls ts rest → after_word w ts ≡ None
after_word-first w [] ts rest f b = absurd f
after_word-first w (l ∷ ls) ts rest f b = after_word-other w l ls ts rest f b

pub word_span_at-first : (w : List ℕ) (ls : List Lexeme) (ts rest : List Token) → First (λ k. is_word w k ≡ false) ls → Begins ls ts rest → word_span_at w ts ≡ None
word_span_at-first w [] ts rest f b = absurd f
word_span_at-first w (l ∷ ls) ts rest f b = word_span_at-other w l ls ts rest f b

pub identifier_at-first : (ls : List Lexeme) (ts rest : List Token) → First (λ k. name_of k ≡ None) ls → Begins ls ts rest → identifier_at ts ≡ None
identifier_at-first [] ts rest f b = absurd f
identifier_at-first (l ∷ ls) ts rest f b = identifier_at-other l ls ts rest f b
