-- The parts of members that contain lists, as pure data that contracts see.
use Rattle.std.specs.Prelude.{Bool, List}
use Rattle.syntax_tree.specs.declared.lexeme.Identifier.{Identifier}
use Rattle.syntax_tree.specs.declared.path.Path.{Path}
use Rattle.syntax_tree.specs.declared.member.Import.{Import}
use Rattle.syntax_tree.specs.declared.member.Ability.{Ability}
use Rattle.syntax_tree.specs.declared.member.TypedName.{TypedName}

pub record ImportsData : Type 0 where
  pub items : List Import
  pub last_comma : Bool

pub record AbilitiesData : Type 0 where
  pub items : List Ability
  pub last_comma : Bool

pub record TypeParameterData : Type 0 where
  pub is_phantom : Bool
  pub name : Identifier
  pub abilities : List Ability

pub record TypeParametersData : Type 0 where
  pub items : List TypeParameterData
  pub last_comma : Bool

pub record TypedNamesData : Type 0 where
  pub items : List TypedName
  pub last_comma : Bool

pub record PathsData : Type 0 where
  pub items : List Path
  pub last_comma : Bool
