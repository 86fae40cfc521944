-- What a tree determines of each token that spells it, and the tokens that agree with it.
use Rattle.std.specs.Prelude.{◌≡◌, ℕ, Bool, true, false, List, [], ◌∷◌, ◌++◌, Option, Some, None}
use Rattle.base.specs.declared.span.Span.{Span}
use Rattle.tokens.specs.declared.token.Token.{Token}
use Rattle.tokens.specs.declared.token.TokenKind.{TokenKind}
use Rattle.tokens.specs.declared.token.TokenKind.TheVariants.{Word, Number, Punctuation}
use Rattle.tokens.specs.declared.token.Punctuation.{Punctuation as Sign}
use Rattle.tokens.specs.declared.token.Punctuation.TheVariants.{Comma}
use Rattle.syntax_tree.specs.declared.lexeme.Lexeme.{Lexeme}
use Rattle.syntax_tree.specs.declared.lexeme.Identifier.{Identifier}
use Rattle.syntax_tree.specs.declared.lexeme.Numeral.{Numeral}

abbrev pub lexeme : TokenKind → Option Span → Option Bool → Lexeme
lexeme kind span glued = record { kind = kind; span = span; glued = glued }

-- ---- the tokens of a tree

abbrev pub word : List ℕ → Option Span → Lexeme
word text span = lexeme (Word text) span None

abbrev pub sign : Sign → Lexeme
sign s = lexeme (Punctuation s) None None

abbrev pub sign_at : Span → Sign → Lexeme
sign_at span s = lexeme (Punctuation s) (Some span) None

abbrev pub identifier : Identifier → Lexeme
identifier i = word i.text (Some i.span)

abbrev pub numeral : Numeral → Lexeme
numeral n = lexeme (Number n.literal) (Some n.span) None

-- sequences of lexemes, each after a comma
abbrev pub after_commas : List (List Lexeme) → List Lexeme
after_commas [] = []
after_commas (one ∷ more) = sign Comma ∷ one ++ after_commas more

-- the comma after the last item, if there is one
abbrev pub last_comma : Bool → List Lexeme
last_comma false = []
last_comma true = sign Comma ∷ []

abbrev pub comma_list : List (List Lexeme) → Bool → List Lexeme
comma_list [] last = last_comma last
comma_list (one ∷ more) last = one ++ after_commas more ++ last_comma last

-- ---- tokens of a text

-- the value is the given one, if one is given
abbrev pub Says : {A : Type 0} → Option A → A → Type 0
Says None x = Unit {0}
Says (Some y) x = x ≡ y

pub record IsToken (token : Token) (said : Lexeme) : Type 0 where
  pub kind : token.kind ≡ said.kind
  pub placed : Says said.span token.span
  pub glued : Says said.glued token.glued

-- the tokens agree with the lexemes, one by one
abbrev pub AreTokens : List Token → List Lexeme → Type 0
AreTokens [] [] = Unit {0}
AreTokens [] (said ∷ more) = ⊥
AreTokens (token ∷ tokens) [] = ⊥
AreTokens (token ∷ tokens) (said ∷ more) = IsToken token said × AreTokens tokens more
