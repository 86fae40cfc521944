-- Readers of single tokens, from left to right. The spelling of the trees defines what the tokens mean.
use Rattle.std.specs.Prelude.{ℕ, Bool, false, ◌&&◌, ◌||◌, ◌==◌, nat_le, if◌then◌else◌, List, [], ◌∷◌, Option, Some, None, is_some}
use Rattle.std.specs.Option.{option_map}
use Rattle.std.specs.List.{list_any}
use Rattle.base.specs.Names.{same_name}
use Rattle.base.specs.declared.span.Span.{Span}
use Rattle.tokens.specs.declared.token.Token.{Token}
use Rattle.tokens.specs.declared.token.TokenKind.{TokenKind}
use Rattle.tokens.specs.declared.token.TokenKind.TheVariants.{Word, Number, ByteString, Punctuation}
use Rattle.tokens.specs.declared.token.Punctuation.{Punctuation as Sign}
use Rattle.tokens.specs.contracts.token.Punctuation.{the_type}
use denote.Enum.Bare.{sameb}
use Rattle.syntax_tree.specs.declared.lexeme.Identifier.{Identifier}
use Rattle.syntax_tree.specs.NameRules.{keywords}

-- the result of a reader, and the remaining tokens
abbrev pub Read : Type 0 → Type 0
Read X = Option (X × List Token)

-- decides whether two signs are equal, by their tags
abbrev pub same_sign : Sign → Sign → Bool
same_sign = sameb the_type

abbrev pub is_sign : Sign → TokenKind → Bool
is_sign sign (Punctuation found) = same_sign found sign
is_sign sign (Word name) = false
is_sign sign (Number number) = false
is_sign sign (ByteString text) = false

abbrev pub is_word : List ℕ → TokenKind → Bool
is_word word (Word name) = same_name name word
is_word word (Number number) = false
is_word word (ByteString text) = false
is_word word (Punctuation sign) = false

unfoldable pub is_keyword : List ℕ → Bool
is_keyword word = list_any (same_name word) keywords

-- the tokens after this sign
unfoldable pub after_sign : Sign → List Token → Option (List Token)
after_sign sign [] = None
after_sign sign (t ∷ ts) = if is_sign sign t.kind then Some ts else None

-- the span of this sign
unfoldable pub sign_span_at : Sign → List Token → Read Span
sign_span_at sign [] = None
sign_span_at sign (t ∷ ts) = if is_sign sign t.kind then Some (t.span, ts) else None

-- the same tokens, if they begin with this sign
unfoldable pub before_sign : Sign → List Token → Option (List Token)
before_sign sign ts = if is_some (after_sign sign ts) then Some ts else None

-- the tokens after this word
unfoldable pub after_word : List ℕ → List Token → Option (List Token)
after_word word [] = None
after_word word (t ∷ ts) = if is_word word t.kind then Some ts else None

-- the span of this word
unfoldable pub word_span_at : List ℕ → List Token → Read Span
word_span_at word [] = None
word_span_at word (t ∷ ts) = if is_word word t.kind then Some (t.span, ts) else None

abbrev pub name_of : TokenKind → Option (List ℕ)
name_of (Word name) = if is_keyword name then None else Some name
name_of (Number number) = None
name_of (ByteString text) = None
name_of (Punctuation sign) = None

-- a name with its span
unfoldable pub identifier_at : List Token → Read Identifier
identifier_at [] = None
identifier_at (t ∷ ts) = option_map (λ name. (record { text = name; span = t.span }, ts)) (name_of t.kind)

-- how names of each kind begin
abbrev pub begins_capital : List ℕ → Bool
begins_capital [] = false
begins_capital (b ∷ bs) = nat_le 65 b && nat_le b 90

abbrev pub begins_small : List ℕ → Bool
begins_small [] = false
begins_small (b ∷ bs) = (nat_le 97 b && nat_le b 122) || (b == 95)
