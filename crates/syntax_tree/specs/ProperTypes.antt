-- Proper paths and types: those of the grammar. Beside the spelling, the grammar has rules on names, last commas and
-- numbers. Source: The Move Book, "Uses and Aliases", "References", "Tuples and Unit" and "Generics".
use Rattle.std.specs.Prelude.{◌≡◌, ◌≢◌, ℕ, true, List, codes}
use Rattle.tokens.specs.declared.token.NumberSuffix.TheVariants.{Absent, U256}
use Rattle.syntax_tree.specs.declared.lexeme.Numeral.{Numeral}
use Rattle.syntax_tree.specs.declared.path.Address.{Address}
use Rattle.syntax_tree.specs.declared.path.Address.TheVariants.{Number as number_address, Name as name_address}
use Rattle.syntax_tree.specs.declared.path.ModuleName.{ModuleName}
use Rattle.syntax_tree.specs.declared.path.Path.{Path}
use Rattle.syntax_tree.specs.declared.path.Path.TheVariants.{Name as name_path, Member as member_path, Full as full_path}
use Rattle.syntax_tree.specs.NameRules.{IsName}
use Rattle.syntax_tree.specs.TypeTreeData.{SourceTypeData, SharedSourceType, MutableSourceType, NamedSourceType, TupleSourceType, ArgumentsData, Arguments, MaybeArgumentsData, NoArguments, SomeArguments, SourceTypesData, NoSourceTypes, MoreSourceTypes}

-- the widest integer type is u128
abbrev pub IsProperNumeral : Numeral → Type 0
IsProperNumeral n = n.literal.suffix ≢ U256

-- an address that is a number has no suffix
abbrev pub IsProperAddress : Address → Type 0
IsProperAddress (number_address n) = n.literal.suffix ≡ Absent
IsProperAddress (name_address n) = IsName n.text

abbrev pub IsProperModuleName : ModuleName → Type 0
IsProperModuleName m = IsProperAddress m.address × IsName m.name.text

abbrev pub IsProperPath : Path → Type 0
IsProperPath (name_path n) = IsName n.text
IsProperPath (member_path m n) = IsName m.text × IsName n.text
IsProperPath (full_path m n) = IsProperModuleName m × IsName n.text

-- the last name of a path
abbrev pub last_name : Path → List ℕ
last_name (name_path n) = n.text
last_name (member_path m n) = n.text
last_name (full_path m n) = n.text

-- the path is not this word alone
abbrev pub IsOther : List ℕ → Path → Type 0
IsOther word (name_path n) = n.text ≢ word
IsOther word (member_path m n) = Unit {0}
IsOther word (full_path m n) = Unit {0}

abbrev pub AreSome : SourceTypesData → Type 0
AreSome NoSourceTypes = ⊥
AreSome (MoreSourceTypes one more) = Unit {0}

abbrev mutual
  pub IsProperType : SourceTypeData → Type 0
  IsProperType (SharedSourceType span target) = IsProperType target
  IsProperType (MutableSourceType span target) = IsProperType target
  IsProperType (NamedSourceType path arguments) = IsProperPath path × IsOther (codes "u256") path × AreProperMaybeArguments arguments
  IsProperType (TupleSourceType span items last) = AreProperTypes items × (last ≡ true → AreSome items)

  pub AreProperArguments : ArgumentsData → Type 0
  AreProperArguments (Arguments items last) = AreProperTypes items × AreSome items

  pub AreProperMaybeArguments : MaybeArgumentsData → Type 0
  AreProperMaybeArguments NoArguments = Unit {0}
  AreProperMaybeArguments (SomeArguments arguments) = AreProperArguments arguments

  pub AreProperTypes : SourceTypesData → Type 0
  AreProperTypes NoSourceTypes = Unit {0}
  AreProperTypes (MoreSourceTypes one more) = IsProperType one × AreProperTypes more
