-- A pragma after a comma, as in a list after the first.
use Rattle.std.specs.Prelude.{List, ◌∷◌}
use Rattle.tokens.specs.declared.token.Punctuation.TheVariants.{Comma}
use Rattle.syntax_tree.specs.declared.lexeme.Lexeme.{Lexeme}
use Rattle.syntax_tree.specs.Lexemes.{sign}
use Rattle.syntax_tree.specs.declared.clause.Pragma.{Pragma}
use Rattle.syntax_tree.specs.ClauseSpelling.{pragma_spelling}

abbrev pub pragma_after_comma : Pragma → List Lexeme
pragma_after_comma one = sign Comma ∷ pragma_spelling one
