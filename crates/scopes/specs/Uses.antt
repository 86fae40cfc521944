-- The modules that the `use`s of modules name. Source: The Move Book, "Uses and Aliases".
use Rattle.std.specs.Prelude.{List, [], ◌∷◌, map, Option, Some, None}
use Rattle.std.specs.List.{flat_map}
use Rattle.std.specs.Map.{lookup}
use Rattle.syntax_tree.specs.SourceData.{SourceMemberData}
use Rattle.syntax_tree.specs.SourceModuleData.{SourceModuleData}
use Rattle.syntax_tree.specs.declared.source.SourceForm.{SourceForm}
use Rattle.syntax_tree.specs.declared.source.SourceForm.TheVariants.{Use}
use Rattle.program.specs.declared.program.ModuleId.{ModuleId}
use Rattle.program.specs.declared.program.Program.{Program}
use Rattle.scopes.specs.EnvironmentData.{EnvironmentData}
use Rattle.scopes.specs.MemberNames.{same_module}
use Rattle.scopes.specs.Meanings.{module_meaning}
use Rattle.scopes.specs.Brings.{firsts}
use Rattle.scopes.specs.Declares.{listed}
use Rattle.scopes.specs.Program.{language}

-- modules with the modules that their `use`s name
abbrev pub Uses : Type 0
Uses = List (ModuleId × List ModuleId)

-- the module that a `use` names, if its address is known
abbrev pub form_uses : EnvironmentData → SourceForm → List ModuleId
form_uses env (Use u) = listed (module_meaning env u.owner)
form_uses env _ = []

abbrev pub member_uses : EnvironmentData → SourceMemberData → List ModuleId
member_uses env m = form_uses env m.form

abbrev pub with_uses : Option ModuleId → List ModuleId → Uses
with_uses None names = []
with_uses (Some own) names = (own, names) ∷ []

-- a module with the modules that its `use`s name, if its address is known
abbrev pub tree_uses : EnvironmentData → SourceModuleData → Uses
tree_uses env m = with_uses (module_meaning env m.name) (flat_map (member_uses env) m.members)

abbrev pub source_uses : EnvironmentData → List SourceModuleData → Uses
source_uses env source = flat_map (tree_uses env) source

-- if two modules have the same name, the first one counts
abbrev pub all_uses : EnvironmentData → List (List SourceModuleData) → Uses
all_uses env sources = firsts same_module [] (flat_map (source_uses env) sources)

abbrev pub names_or_none : Option (List ModuleId) → List ModuleId
names_or_none None = []
names_or_none (Some names) = names

abbrev pub uses_among : Uses → ModuleId → List ModuleId
uses_among uses own = names_or_none (lookup (same_module own) uses)

-- the modules that the `use`s of the modules of a program name, in the order of these modules
abbrev pub uses_in_order : Uses → Program → List (List ModuleId)
uses_in_order uses program = map (λ m. uses_among uses m.0) program.modules

abbrev pub uses_of : List (List SourceModuleData) → Program → List (List ModuleId)
uses_of sources program = uses_in_order (all_uses language sources) program
