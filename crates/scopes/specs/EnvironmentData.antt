-- The meaning of names in a module, as contracts see it. Source: The Move Book, "Modules and Scripts", and "Uses and
-- Aliases".
use Rattle.std.specs.Prelude.{ℕ, List, []}
use Rattle.program.specs.declared.program.ModuleId.{ModuleId}
use Rattle.scopes.specs.NamedAddresses.{Numbers}
use Rattle.scopes.specs.declared.member.MemberId.{MemberId}
use Rattle.scopes.specs.declared.member.Declaration.{Declaration}
use Rattle.scopes.specs.declared.member.NameOfKind.{NameOfKind}

pub record EnvironmentData : Type 0 where
  -- the named addresses
  pub addresses : Numbers
  -- the declarations of all modules, including the builtin ones
  pub declared : List Declaration
  -- the module itself
  pub own : ModuleId
  -- the modules that its `use`s import, by their names here
  pub modules : List (List ℕ × ModuleId)
  -- the members that it declares or its `use`s import, by their names here
  pub names : List (NameOfKind × MemberId)

abbrev pub with_declared : EnvironmentData → List Declaration → EnvironmentData
with_declared e declared = record { addresses = e.addresses; declared = declared; own = e.own; modules = e.modules; names = e.names }

abbrev pub with_modules : EnvironmentData → List (List ℕ × ModuleId) → EnvironmentData
with_modules e modules = record { addresses = e.addresses; declared = e.declared; own = e.own; modules = modules; names = e.names }

abbrev pub with_names : EnvironmentData → List (NameOfKind × MemberId) → EnvironmentData
with_names e names = record { addresses = e.addresses; declared = e.declared; own = e.own; modules = e.modules; names = names }

-- the environment of a module in which no name has a meaning yet
abbrev pub entered : EnvironmentData → ModuleId → EnvironmentData
entered e own = record { addresses = e.addresses; declared = e.declared; own = own; modules = []; names = [] }
