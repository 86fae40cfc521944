-- The markers of the forms that are left out: which tokens they are, how they are printed, and which one is the first
-- in a token list.
use Rattle.std.specs.Prelude.{◌≡◌, ◌≢◌, ◌⊎◌, ℕ, zero, suc, true, List, [], ◌∷◌, take, slice_get, Option, Some, None, codes}
use Rattle.std.specs.Option.{option_map_or}
use Rattle.tokens.specs.declared.token.Token.{Token}
use Rattle.tokens.specs.declared.token.TokenKind.{TokenKind}
use Rattle.tokens.specs.declared.token.TokenKind.TheVariants.{Word, Number, ByteString, Punctuation}
use Rattle.tokens.specs.declared.token.NumberSuffix.TheVariants.{U256}
use Rattle.tokens.specs.declared.token.Punctuation.TheVariants.{Exclaim}
use Rattle.base.specs.Names.{is_one_of}

-- the words that are markers whatever follows them
abbrev pub marker_words : List (List ℕ)
marker_words =
    codes "inline" ∷ codes "script" ∷ codes "enum" ∷ codes "match" ∷ codes "native" ∷ codes "assume" ∷ codes "axiom" ∷ codes "choose"
    ∷ codes "emits" ∷ codes "apply" ∷ codes "aborts_with" ∷ codes "TRACE" ∷ codes "where" ∷ codes "package" ∷ codes "with"
    ∷ codes "u256" ∷ []

-- the kind of the next token
abbrev pub next_kind : List Token → Option TokenKind
next_kind [] = None
next_kind (t ∷ ts) = Some t.kind

-- a token of this kind, followed by the next one, is a marker
abbrev pub IsMarker : TokenKind → Option TokenKind → Type 0
IsMarker (Word word) next = (is_one_of marker_words word ≡ true) ⊎ ((word ≡ codes "assert") × (next ≢ Some (Punctuation Exclaim)))
IsMarker (Number literal) next = literal.suffix ≡ U256
IsMarker (ByteString text) next = Unit {0}
IsMarker (Punctuation sign) next = ⊥

-- the text printed for a marker: its bytes, or the first letter of a byte string
abbrev pub marker_text : TokenKind → List ℕ
marker_text (Word word) = word
marker_text (Number literal) = literal.text
marker_text (ByteString text) = take 1 text
marker_text (Punctuation sign) = []

-- the text printed for the marker with this index
abbrev pub marker_at : List Token → ℕ → List ℕ
marker_at tokens index = option_map_or (λ t. marker_text t.kind) (slice_get tokens index) []

-- the tokens hold no marker
abbrev pub HoldNone : List Token → Type 0
HoldNone [] = Unit {0}
HoldNone (t ∷ ts) = (¬ IsMarker t.kind (next_kind ts)) × HoldNone ts

-- the token with this index is a marker, and no token before it is one
abbrev pub IsFirstMarker : List Token → ℕ → Type 0
IsFirstMarker [] index = ⊥
IsFirstMarker (t ∷ ts) zero = IsMarker t.kind (next_kind ts)
IsFirstMarker (t ∷ ts) (suc index) = (¬ IsMarker t.kind (next_kind ts)) × IsFirstMarker ts index

-- the index of the first marker among the tokens, or none if they hold none
abbrev pub Finds : List Token → Option ℕ → Type 0
Finds tokens None = HoldNone tokens
Finds tokens (Some index) = IsFirstMarker tokens index
