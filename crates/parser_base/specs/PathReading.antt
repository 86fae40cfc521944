-- The reader of addresses, module names and paths. PathSpelling defines which tokens spell a path.
use Rattle.std.specs.Prelude.{ℕ, Bool, false, List, [], ◌∷◌, Option, Some, None, option_and_then}
use Rattle.std.specs.Option.{option_map, option_map_or}
use Rattle.tokens.specs.declared.token.Token.{Token}
use Rattle.tokens.specs.declared.token.TokenKind.{TokenKind}
use Rattle.tokens.specs.declared.token.TokenKind.TheVariants.{Word, Number, ByteString, Punctuation}
use Rattle.tokens.specs.declared.token.NumberLiteral.{NumberLiteral}
use Rattle.tokens.specs.declared.token.NumberSuffix.{NumberSuffix}
use Rattle.tokens.specs.declared.token.NumberSuffix.TheVariants.{Absent}
use Rattle.tokens.specs.declared.token.Punctuation.TheVariants.{ColonColon}
use Rattle.syntax_tree.specs.declared.lexeme.Identifier.{Identifier}
use Rattle.syntax_tree.specs.declared.lexeme.Numeral.{Numeral}
use Rattle.syntax_tree.specs.declared.path.Address.{Address}
use Rattle.syntax_tree.specs.declared.path.Address.TheVariants.{Number as number_address, Name as name_address}
use Rattle.syntax_tree.specs.declared.path.ModuleName.{ModuleName}
use Rattle.syntax_tree.specs.declared.path.Path.{Path}
use Rattle.syntax_tree.specs.declared.path.Path.TheVariants.{Name as name_path, Member as member_path, Full as full_path}
use Rattle.parser_base.specs.TokenReading.{Read, after_sign, identifier_at}
use Rattle.base.specs.Names.{same_name}

-- a number without a suffix
abbrev pub unsuffixed : NumberLiteral → NumberSuffix → Option NumberLiteral
unsuffixed literal Absent = Some literal
unsuffixed literal _ = None

abbrev pub address_number_of : TokenKind → Option NumberLiteral
address_number_of (Number literal) = unsuffixed literal literal.suffix
address_number_of (Word name) = None
address_number_of (ByteString text) = None
address_number_of (Punctuation sign) = None

unfoldable pub address_number_at : List Token → Read Numeral
address_number_at [] = None
address_number_at (t ∷ ts) = option_map (λ literal. (record { literal = literal; span = t.span }, ts)) (address_number_of t.kind)

unfoldable pub address_at : List Token → Read Address
address_at ts = option_map_or (λ n. Some (number_address n.0, n.1)) (address_number_at ts) (option_map (λ i. (name_address i.0, i.1)) (identifier_at ts))

unfoldable pub module_name_at : List Token → Read ModuleName
module_name_at ts =
    option_and_then (λ address.
    option_and_then (λ rest.
    option_map (λ name. (record { address = address.0; name = name.0 }, name.1))
    (identifier_at rest)) (after_sign ColonColon address.1)) (address_at ts)

-- the last name of a path, after its module
unfoldable pub member_at : ModuleName → List Token → Read Path
member_at owner ts = option_map (λ name. (full_path owner name.0, name.1)) (identifier_at ts)

unfoldable pub path_behind_number : Numeral → List Token → Read Path
path_behind_number number ts =
    option_and_then (λ rest.
    option_and_then (λ name.
    option_and_then (λ behind. member_at (record { address = number_address number; name = name.0 }) behind)
    (after_sign ColonColon name.1)) (identifier_at rest)) (after_sign ColonColon ts)

-- a path after two names
unfoldable pub path_behind_names : Identifier → Identifier → List Token → Read Path
path_behind_names first second ts =
    option_map_or (λ behind. member_at (record { address = name_address first; name = second }) behind) (after_sign ColonColon ts) (Some (member_path first second, ts))

unfoldable pub path_behind_name : Identifier → List Token → Read Path
path_behind_name first ts =
    option_map_or (λ rest. option_and_then (λ second. path_behind_names first second.0 second.1) (identifier_at rest)) (after_sign ColonColon ts) (Some (name_path first, ts))

unfoldable pub path_at : List Token → Read Path
path_at ts =
    option_map_or (λ n. path_behind_number n.0 n.1) (address_number_at ts)
    (option_and_then (λ i. path_behind_name i.0 i.1) (identifier_at ts))

-- decides whether a path is this single word
abbrev pub is_single : List ℕ → Path → Bool
is_single word (name_path n) = same_name n.text word
is_single word (member_path m n) = false
is_single word (full_path m n) = false
