-- Each spelling of a tree has tokens that agree with it.
use Rattle.std.proofs.Common.{false, List, [], ◌∷◌, Option, Some, None, refl}
use Rattle.tokens.specs.declared.token.Token.{Token}
use Rattle.syntax_tree.specs.declared.lexeme.Lexeme.{Lexeme}
use Rattle.syntax_tree.specs.Lexemes.{Says, AreTokens}

-- the determined value, or a default if there is none
said_or : {A : Type 0} → A → Option A → A
said_or x None = x
said_or x (Some y) = y

says : {A : Type 0} (x : A) (o : Option A) → Says o (said_or x o)
unfolding said_or
says x None = tt
says x (Some y) = refl

token_for : Lexeme → Token
token_for l = record { kind = l.kind; span = said_or (record { file = 0; start = 0; end = 0 }) l.span; glued = said_or false l.glued }

pub tokens_for : List Lexeme → List Token
tokens_for [] = []
tokens_for (l ∷ ls) = token_for l ∷ tokens_for ls

pub are_tokens_for : (ls : List Lexeme) → AreTokens (tokens_for ls) ls
unfolding tokens_for token_for
are_tokens_for [] = tt
are_tokens_for (l ∷ ls) = (record { kind = refl; placed = says (record { file = 0; start = 0; end = 0 }) l.span; glued = says false l.glued }, are_tokens_for ls)
