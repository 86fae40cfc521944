-- The spelling of a spec block that a file tree keeps as tokens: these tokens.
use Rattle.std.specs.Prelude.{List, Some, map}
use Rattle.tokens.specs.declared.token.Token.{Token}
use Rattle.syntax_tree.specs.declared.lexeme.Lexeme.{Lexeme}
use Rattle.syntax_tree.specs.declared.spec_tokens.KeptSpec.{KeptSpec}
use Rattle.syntax_tree.specs.Lexemes.{lexeme}

-- a token that the tree keeps
abbrev pub kept : Token → Lexeme
kept t = lexeme t.kind (Some t.span) (Some t.glued)

abbrev pub kept_spelling : KeptSpec → List Lexeme
kept_spelling spec = map kept spec.tokens
