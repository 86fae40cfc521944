-- The spec blocks of the grammar, as far as a file tree parses them. Source: the Move Specification Language reference,
-- "Spec Blocks and Conditions".
--     of a member  "spec" tokens with balanced brackets, no brace among them, "{" tokens with balanced brackets "}"
--     of a loop    "spec" "{" tokens with balanced brackets "}"
use Rattle.std.specs.Prelude.{◌≢◌, List, [], ◌∷◌, ◌++◌, None, codes, map}
use Rattle.std.specs.List.{AllByRecursion}
use Rattle.tokens.specs.declared.token.Token.{Token}
use Rattle.tokens.specs.declared.token.TokenKind.TheVariants.{Punctuation}
use Rattle.tokens.specs.declared.token.Punctuation.TheVariants.{LeftBrace, RightBrace}
use Rattle.syntax_tree.specs.declared.lexeme.Lexeme.{Lexeme}
use Rattle.syntax_tree.specs.declared.spec_tokens.KeptSpec.{KeptSpec}
use Rattle.syntax_tree.specs.Lexemes.{AreTokens, word, sign}
use Rattle.syntax_tree.specs.SpecTokenSpelling.{kept}
use Rattle.syntax_tree.specs.Balance.{IsBalanced}

-- the word, the tokens before the first brace, and the tokens between the braces
abbrev pub block_form : List Token → List Token → List Lexeme
block_form head body = word (codes "spec") None ∷ (map kept head ++ sign LeftBrace ∷ []) ++ (map kept body ++ sign RightBrace ∷ [])

-- the first brace after `spec` opens the block
abbrev pub IsNoBrace : Token → Type 0
IsNoBrace t = t.kind ≢ Punctuation LeftBrace

pub record IsMemberSpec (spec : KeptSpec) : Type 0 where
  pub head : List Token
  pub body : List Token
  pub tokens : AreTokens spec.tokens (block_form head body)
  pub head_balanced : IsBalanced head
  pub head_no_brace : AllByRecursion IsNoBrace head
  pub body_balanced : IsBalanced body

pub record IsLoopSpec (spec : KeptSpec) : Type 0 where
  pub body : List Token
  pub tokens : AreTokens spec.tokens (block_form [] body)
  pub body_balanced : IsBalanced body
