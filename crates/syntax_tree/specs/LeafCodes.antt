-- The codes by which the logic stores the parts of a tree without subtrees: spans, names, numbers, paths.
use base.Stored.{Gv, gnil, gnum, gcons, num}
use Rattle.std.specs.Prelude.{◌≡◌, Bool, true, false, [], ◌∷◌, refl}
use Rattle.base.specs.Codes.{pick, numbers_code, numbers_back, numbers_back-code}
use Rattle.base.specs.declared.span.Span.{Span}
use Rattle.tokens.specs.declared.token.NumberLiteral.{NumberLiteral}
use Rattle.tokens.specs.declared.token.NumberSuffix.{NumberSuffix}
use Rattle.tokens.specs.declared.token.NumberSuffix.TheVariants.{Absent, U8, U16, U32, U64, U128, U256}
use Rattle.syntax_tree.specs.declared.lexeme.Identifier.{Identifier}
use Rattle.syntax_tree.specs.declared.lexeme.Numeral.{Numeral}
use Rattle.syntax_tree.specs.declared.path.Address.{Address}
use Rattle.syntax_tree.specs.declared.path.Address.TheVariants.{Number as number_address, Name as name_address}
use Rattle.syntax_tree.specs.declared.path.ModuleName.{ModuleName}
use Rattle.syntax_tree.specs.declared.path.Path.{Path}
use Rattle.syntax_tree.specs.declared.path.Path.TheVariants.{Name as name_path, Member as member_path, Full as full_path}

abbrev pub head : Gv → Gv
head gnil = gnil
head (gnum n) = gnil
head (gcons a b) = a

abbrev pub tail : Gv → Gv
tail gnil = gnil
tail (gnum n) = gnil
tail (gcons a b) = b

abbrev pub bool_code : Bool → Gv
bool_code false = gnum 0
bool_code true = gnum 1

abbrev pub bool_back : Gv → Bool
bool_back g = pick (num g) false (false ∷ true ∷ [])

pub bool_back-code : (b : Bool) → bool_back (bool_code b) ≡ b
bool_back-code false = refl
bool_back-code true = refl

abbrev pub span_code : Span → Gv
span_code s = gcons (gnum s.file) (gcons (gnum s.start) (gnum s.end))

abbrev pub span_back : Gv → Span
span_back g = record { file = num (head g); start = num (head (tail g)); end = num (tail (tail g)) }

pub span_back-code : (s : Span) → span_back (span_code s) ≡ s
span_back-code s = refl

abbrev pub identifier_code : Identifier → Gv
identifier_code i = gcons (numbers_code i.text) (span_code i.span)

abbrev pub identifier_back : Gv → Identifier
identifier_back g = record { text = numbers_back (head g); span = span_back (tail g) }

pub identifier_back-code : (x : Identifier) → identifier_back (identifier_code x) ≡ x
identifier_back-code x = λ i. record { text = numbers_back-code x.text i; span = x.span }

abbrev suffix_code : NumberSuffix → Gv
suffix_code Absent = gnum 0
suffix_code U8 = gnum 1
suffix_code U16 = gnum 2
suffix_code U32 = gnum 3
suffix_code U64 = gnum 4
suffix_code U128 = gnum 5
suffix_code U256 = gnum 6

abbrev suffix_back : Gv → NumberSuffix
suffix_back g = pick (num g) Absent (Absent ∷ U8 ∷ U16 ∷ U32 ∷ U64 ∷ U128 ∷ U256 ∷ [])

suffix_back-code : (s : NumberSuffix) → suffix_back (suffix_code s) ≡ s
suffix_back-code Absent = refl
suffix_back-code U8 = refl
suffix_back-code U16 = refl
suffix_back-code U32 = refl
suffix_back-code U64 = refl
suffix_back-code U128 = refl
suffix_back-code U256 = refl

abbrev pub number_literal_code : NumberLiteral → Gv
number_literal_code n = gcons (numbers_code n.text) (gcons (gnum n.value) (suffix_code n.suffix))

abbrev pub number_literal_back : Gv → NumberLiteral
number_literal_back g = record { text = numbers_back (head g); value = num (head (tail g)); suffix = suffix_back (tail (tail g)) }

pub number_literal_back-code : (x : NumberLiteral) → number_literal_back (number_literal_code x) ≡ x
number_literal_back-code x = λ i. record { text = numbers_back-code x.text i; value = x.value; suffix = suffix_back-code x.suffix i }

abbrev pub numeral_code : Numeral → Gv
numeral_code n = gcons (number_literal_code n.literal) (span_code n.span)

abbrev pub numeral_back : Gv → Numeral
numeral_back g = record { literal = number_literal_back (head g); span = span_back (tail g) }

pub numeral_back-code : (x : Numeral) → numeral_back (numeral_code x) ≡ x
numeral_back-code x = λ i. record { literal = number_literal_back-code x.literal i; span = x.span }

abbrev pub address_code : Address → Gv
address_code (number_address n) = gcons (gnum 0) (numeral_code n)
address_code (name_address n) = gcons (gnum 1) (identifier_code n)

abbrev pub address_back : Gv → Address
address_back g = pick (num (head g)) (name_address (identifier_back gnil)) (number_address (numeral_back (tail g)) ∷ name_address (identifier_back (tail g)) ∷ [])

pub address_back-code : (x : Address) → address_back (address_code x) ≡ x
address_back-code (number_address n) = λ i. number_address (numeral_back-code n i)
address_back-code (name_address n) = λ i. name_address (identifier_back-code n i)

abbrev pub module_name_code : ModuleName → Gv
module_name_code m = gcons (address_code m.address) (identifier_code m.name)

abbrev pub module_name_back : Gv → ModuleName
module_name_back g = record { address = address_back (head g); name = identifier_back (tail g) }

pub module_name_back-code : (x : ModuleName) → module_name_back (module_name_code x) ≡ x
module_name_back-code x = λ i. record { address = address_back-code x.address i; name = identifier_back-code x.name i }

abbrev pub path_code : Path → Gv
path_code (name_path n) = gcons (gnum 0) (identifier_code n)
path_code (member_path m n) = gcons (gnum 1) (gcons (identifier_code m) (identifier_code n))
path_code (full_path m n) = gcons (gnum 2) (gcons (module_name_code m) (identifier_code n))

abbrev pub path_back : Gv → Path
path_back g =
    pick (num (head g)) (name_path (identifier_back gnil)) (name_path (identifier_back (tail g)) ∷ member_path (identifier_back (head (tail g))) (identifier_back (tail (tail g))) ∷ full_path (module_name_back (head (tail g))) (identifier_back (tail (tail g))) ∷ [])

pub path_back-code : (x : Path) → path_back (path_code x) ≡ x
path_back-code (name_path n) = λ i. name_path (identifier_back-code n i)
path_back-code (member_path m n) = λ i. member_path (identifier_back-code m i) (identifier_back-code n i)
path_back-code (full_path m n) = λ i. full_path (module_name_back-code m i) (identifier_back-code n i)
