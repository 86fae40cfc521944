-- The slot of a block, from the tokens after its word and a test for the names of functions.
use Rattle.std.specs.Prelude.{ℕ, Bool, false, not, ◌&&◌, if◌then◌else◌, List, [], ◌∷◌, Option, Some, None, is_some, codes}
use Rattle.std.specs.Option.{option_map_or}
use Rattle.tokens.specs.declared.token.Token.{Token}
use Rattle.tokens.specs.declared.token.TokenKind.{TokenKind}
use Rattle.tokens.specs.declared.token.TokenKind.TheVariants.{Word, Number, ByteString, Punctuation}
use Rattle.syntax_tree.specs.declared.slot.Slot.{Slot}
use Rattle.syntax_tree.specs.declared.slot.Slot.TheVariants.{Function, Struct, Module, Schema, SpecFunction}
use Rattle.parser_base.specs.TokenReading.{after_word, begins_capital}

abbrev pub word_of_kind : TokenKind → Option (List ℕ)
word_of_kind (Word w) = Some w
word_of_kind (Number n) = None
word_of_kind (ByteString text) = None
word_of_kind (Punctuation sign) = None

-- the first token, if it is a word
abbrev pub first_word : List Token → Option (List ℕ)
first_word [] = None
first_word (t ∷ ts) = word_of_kind t.kind

-- a schema has a name after the word `schema`; otherwise this word is a name itself
abbrev pub is_schema : List Token → Bool
is_schema ts = option_map_or (λ rest. is_some (first_word rest)) (after_word (codes "schema") ts) false

abbrev pub names_struct : (List ℕ → Bool) → List Token → Bool
names_struct is_function ts = option_map_or (λ w. begins_capital w && not (is_function w)) (first_word ts) false

unfoldable pub slot_at : (List ℕ → Bool) → List Token → Slot
slot_at is_function ts =
    if is_some (after_word (codes "module") ts) then Module
    else (if is_some (after_word (codes "fun") ts) then SpecFunction
    else (if is_schema ts then Schema
    else (if names_struct is_function ts then Struct else Function)))
