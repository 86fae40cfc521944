-- The parts of members, each after a comma, as in a list after the first.
use Rattle.std.specs.Prelude.{List, ◌∷◌}
use Rattle.tokens.specs.declared.token.Punctuation.TheVariants.{Comma}
use Rattle.syntax_tree.specs.declared.lexeme.Lexeme.{Lexeme}
use Rattle.syntax_tree.specs.declared.path.Path.{Path}
use Rattle.syntax_tree.specs.declared.member.Import.{Import}
use Rattle.syntax_tree.specs.declared.member.Ability.{Ability}
use Rattle.syntax_tree.specs.declared.member.TypedName.{TypedName}
use Rattle.syntax_tree.specs.MemberData.{TypeParameterData}
use Rattle.syntax_tree.specs.Lexemes.{sign}
use Rattle.syntax_tree.specs.PathSpelling.{path_spelling}
use Rattle.syntax_tree.specs.MemberSpelling.{import_spelling, ability_spelling, parameter_spelling, typed_name_spelling}

abbrev pub import_after_comma : Import → List Lexeme
import_after_comma one = sign Comma ∷ import_spelling one

abbrev pub ability_after_comma : Ability → List Lexeme
ability_after_comma one = sign Comma ∷ ability_spelling one

abbrev pub parameter_after_comma : TypeParameterData → List Lexeme
parameter_after_comma one = sign Comma ∷ parameter_spelling one

abbrev pub typed_name_after_comma : TypedName → List Lexeme
typed_name_after_comma one = sign Comma ∷ typed_name_spelling one

abbrev pub path_after_comma : Path → List Lexeme
path_after_comma one = sign Comma ∷ path_spelling one
