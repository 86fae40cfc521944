-- How addresses, names of modules and paths are spelled. Source: The Move Book, "Modules and Scripts" and "Uses and
-- Aliases".
--     Addr = Number | Word
--     Path = Word | Word "::" Word | Addr "::" Word "::" Word
use Rattle.std.specs.Prelude.{List, [], ◌∷◌, ◌++◌}
use Rattle.tokens.specs.declared.token.Punctuation.TheVariants.{ColonColon}
use Rattle.syntax_tree.specs.declared.lexeme.Lexeme.{Lexeme}
use Rattle.syntax_tree.specs.declared.path.Address.{Address}
use Rattle.syntax_tree.specs.declared.path.Address.TheVariants.{Number as number_address, Name as name_address}
use Rattle.syntax_tree.specs.declared.path.ModuleName.{ModuleName}
use Rattle.syntax_tree.specs.declared.path.Path.{Path}
use Rattle.syntax_tree.specs.declared.path.Path.TheVariants.{Name as name_path, Member as member_path, Full as full_path}
use Rattle.syntax_tree.specs.Lexemes.{identifier, numeral, sign}

abbrev pub address_spelling : Address → List Lexeme
address_spelling (number_address n) = numeral n ∷ []
address_spelling (name_address n) = identifier n ∷ []

abbrev pub module_spelling : ModuleName → List Lexeme
module_spelling m = address_spelling m.address ++ sign ColonColon ∷ identifier m.name ∷ []

abbrev pub path_spelling : Path → List Lexeme
path_spelling (name_path name) = identifier name ∷ []
path_spelling (member_path owner name) = identifier owner ∷ sign ColonColon ∷ identifier name ∷ []
path_spelling (full_path owner name) = module_spelling owner ++ sign ColonColon ∷ identifier name ∷ []
