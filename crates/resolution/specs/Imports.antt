-- The `use`s and friends that name something. Source: The Move Book, "Uses and Aliases" and "Friends".
use Rattle.std.specs.Prelude.{ℕ, Bool, true, false, ◌&&◌, ◌||◌, List, codes, is_some, Option, Some, None}
use Rattle.std.specs.List.{list_all}
use Rattle.base.specs.Names.{same_name}
use Rattle.syntax_tree.specs.declared.member.Import.{Import}
use Rattle.syntax_tree.specs.declared.member.Imported.{Imported}
use Rattle.syntax_tree.specs.declared.member.Imported.TheVariants.{Module, One, Several}
use Rattle.syntax_tree.specs.declared.member.Use.{Use as UseTree}
use Rattle.program.specs.declared.program.ModuleId.{ModuleId}
use Rattle.scopes.specs.declared.member.MemberKind.{MemberKind}
use Rattle.scopes.specs.declared.member.MemberKind.TheVariants.{Struct, Constant, Function, SpecFunction, Schema}
use Rattle.scopes.specs.EnvironmentData.{EnvironmentData}
use Rattle.scopes.specs.Meanings.{module_meaning, declared_meaning}
use Rattle.scopes.specs.Program.{is_among}

-- the module declares this name with this kind
abbrev pub declares : EnvironmentData → ModuleId → List ℕ → MemberKind → Bool
declares env owner name kind = is_some (declared_meaning env kind owner name)

-- the module declares this name with any kind
abbrev pub declares_any : EnvironmentData → ModuleId → List ℕ → Bool
declares_any env owner name =
    declares env owner name Struct
    || (declares env owner name Constant
    || (declares env owner name Function || (declares env owner name SpecFunction || declares env owner name Schema)))

-- an import names the module itself or one of its declarations
abbrev pub import_is_known : EnvironmentData → ModuleId → Import → Bool
import_is_known env owner import = same_name import.name.text (codes "Self") || declares_any env owner import.name.text

abbrev pub imports_are_known : EnvironmentData → ModuleId → Imported → Bool
imports_are_known env owner (Module alias) = true
imports_are_known env owner (One import) = import_is_known env owner import
imports_are_known env owner (Several imports) = list_all (import_is_known env owner) imports.items

abbrev pub known_in : EnvironmentData → List ModuleId → Option ModuleId → Imported → Bool
known_in env modules None imported = false
known_in env modules (Some owner) imported = is_among modules (Some owner) && imports_are_known env owner imported

-- a `use` names one of these modules, and each import names something in it
abbrev pub use_is_known : EnvironmentData → List ModuleId → UseTree → Bool
use_is_known env modules u = known_in env modules (module_meaning env u.owner) u.imported

abbrev pub if_among : Bool → ModuleId → Option ModuleId
if_among true owner = Some owner
if_among false owner = None

-- the module that a friend names, if it is among these
abbrev pub among_these : List ModuleId → Option ModuleId → Option ModuleId
among_these modules None = None
among_these modules (Some owner) = if_among (is_among modules (Some owner)) owner
