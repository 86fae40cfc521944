-- Token lists that begin with the tokens of a tree.
use Rattle.std.specs.Prelude.{◌≡◌, List, [], ◌∷◌}
use Rattle.tokens.specs.declared.token.Token.{Token}
use Rattle.syntax_tree.specs.declared.lexeme.Lexeme.{Lexeme}
use Rattle.syntax_tree.specs.Lexemes.{IsToken}

-- the tokens begin with those of a tree, and `rest` remains after them
abbrev pub Begins : List Lexeme → List Token → List Token → Type 0
Begins [] ts rest = ts ≡ rest
Begins (said ∷ more) [] rest = ⊥
Begins (said ∷ more) (t ∷ ts) rest = IsToken t said × Begins more ts rest
