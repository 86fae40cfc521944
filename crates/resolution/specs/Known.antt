-- The declarations of all modules that the meaning of names depends on. Source: The Move Book, "Modules and Scripts"
-- and "Uses and Aliases"; the Move Specification Language reference, "Schemas".
use Rattle.std.specs.Prelude.{ℕ, List, [], ◌∷◌}
use Rattle.std.specs.List.{flat_map}
use Rattle.indexmap.specs.IndexSet.{insert_all}
use Rattle.syntax_tree.specs.declared.clause.Spec.{Spec as SpecTree}
use Rattle.syntax_tree.specs.declared.clause.Spec.TheVariants.{Module as module_spec, Named as named_spec, Schema as schema_spec, Function as function_spec, Loop as loop_spec}
use Rattle.syntax_tree.specs.SourceData.{SourceMemberData}
use Rattle.syntax_tree.specs.SourceModuleData.{SourceModuleData}
use Rattle.syntax_tree.specs.declared.source.SourceForm.{SourceForm}
use Rattle.syntax_tree.specs.declared.source.SourceForm.TheVariants.{Spec}
use Rattle.program.specs.declared.program.ModuleId.{ModuleId}
use Rattle.program.specs.declared.program.SchemaId.{SchemaId}
use Rattle.scopes.specs.MemberNames.{same_module}
use Rattle.scopes.specs.EnvironmentData.{EnvironmentData, entered}
use Rattle.scopes.specs.Meanings.{schema_of}
use Rattle.scopes.specs.Brings.{environment_of, firsts}
use Rattle.scopes.specs.Program.{builtin_modules, declaring, module_of, modules_of}
use Rattle.resolution.specs.Setting.{same_schema}
use Rattle.resolution.specs.SpecDeclarations.{schema_variables}

-- the variables of schemas, in order
abbrev pub Schemas : Type 0
Schemas = List (SchemaId × List (List ℕ))

pub record KnownData : Type 0 where
  -- the declarations of all modules
  pub environment : EnvironmentData
  -- all modules, including the builtin ones
  pub modules : List ModuleId
  pub schemas : Schemas

-- ---- schemas

abbrev pub schema_of_spec : ModuleId → SpecTree → Schemas
schema_of_spec own (module_spec span clauses) = []
schema_of_spec own (named_spec span name clauses) = []
schema_of_spec own (schema_spec s) = (schema_of (record { owner = own; name = s.name.text }), schema_variables s.clauses) ∷ []
schema_of_spec own (function_spec f) = []
schema_of_spec own (loop_spec span clauses) = []

abbrev pub schema_of_form : ModuleId → SourceForm → Schemas
schema_of_form own (Spec s) = schema_of_spec own s
schema_of_form own _ = []

abbrev pub schema_of_member : ModuleId → SourceMemberData → Schemas
schema_of_member own m = schema_of_form own m.form

abbrev pub schemas_among : List ModuleId → List SourceMemberData → Schemas
schemas_among [] members = []
schemas_among (own ∷ others) members = flat_map (schema_of_member own) members

-- the schemas of a module, if its address is known
abbrev pub schemas_of_module : EnvironmentData → SourceModuleData → Schemas
schemas_of_module env m = schemas_among (module_of env m) m.members

abbrev pub schemas_of : EnvironmentData → List SourceModuleData → Schemas
schemas_of env source = flat_map (schemas_of_module env) source

-- ---- all files

-- each module once
abbrev pub all_modules : EnvironmentData → List (List SourceModuleData) → List ModuleId
all_modules env sources = insert_all same_module builtin_modules (flat_map (modules_of env) sources)

-- of two schemas with the same name, the first counts
abbrev pub all_schemas : EnvironmentData → List (List SourceModuleData) → Schemas
all_schemas env sources = firsts same_schema [] (flat_map (schemas_of env) sources)

abbrev pub known_in : EnvironmentData → List (List SourceModuleData) → KnownData
known_in env sources = record { environment = env; modules = all_modules env sources; schemas = all_schemas env sources }

abbrev pub known_of : List (List SourceModuleData) → KnownData
known_of sources = known_in (declaring sources) sources

-- the meaning of names in a module with this address and name and these members
abbrev pub inside : KnownData → ModuleId → List SourceMemberData → EnvironmentData
inside known own members = environment_of (entered known.environment own) members
