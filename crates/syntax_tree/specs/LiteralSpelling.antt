-- How literals are spelled. Source: The Move Book, "Integers", "Bool" and "Address".
--     Number | "true" | "false" | "@" Addr
use Rattle.std.specs.Prelude.{true, false, List, [], ◌∷◌, Some, codes}
use Rattle.tokens.specs.declared.token.Punctuation.TheVariants.{AtSign}
use Rattle.syntax_tree.specs.declared.lexeme.Lexeme.{Lexeme}
use Rattle.syntax_tree.specs.declared.literal.Literal.{Literal}
use Rattle.syntax_tree.specs.declared.literal.Literal.TheVariants.{Number, Truth, Address}
use Rattle.syntax_tree.specs.Lexemes.{word, numeral, sign_at}
use Rattle.syntax_tree.specs.PathSpelling.{address_spelling}

abbrev pub literal_spelling : Literal → List Lexeme
literal_spelling (Number n) = numeral n ∷ []
literal_spelling (Truth span true) = word (codes "true") (Some span) ∷ []
literal_spelling (Truth span false) = word (codes "false") (Some span) ∷ []
literal_spelling (Address span address) = sign_at span AtSign ∷ address_spelling address
