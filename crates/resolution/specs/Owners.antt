-- The owners of the spec blocks of a module: the clauses of an owner are those of all its blocks, in source order.
-- Source: the Move Specification Language reference, "Spec Blocks and Conditions" and "Let Bindings".
use Rattle.std.specs.Prelude.{ℕ, ◌+◌, ◌==◌, List, [], ◌∷◌, ◌++◌, length, map, Option, Some, None, if◌then◌else◌}
use Rattle.std.specs.List.{flat_map}
use Rattle.std.specs.Map.{lookup}
use Rattle.std.specs.Option.{option_or}
use Rattle.base.specs.TypeData.{TypeData, TupleType, NoTypes}
use Rattle.syntax_tree.specs.MemberData.{TypeParametersData}
use Rattle.syntax_tree.specs.declared.member.Function.{Function as FunctionTree}
use Rattle.syntax_tree.specs.declared.clause.Clause.{Clause as ClauseTree}
use Rattle.syntax_tree.specs.declared.clause.Spec.{Spec as SpecTree}
use Rattle.syntax_tree.specs.declared.clause.Spec.TheVariants.{Module as module_spec, Named as named_spec, Schema as schema_spec, Function as function_spec, Loop as loop_spec}
use Rattle.syntax_tree.specs.SourceData.{SourceMemberData}
use Rattle.syntax_tree.specs.Spans.{spec_span}
use Rattle.syntax_tree.specs.declared.source.SourceForm.{SourceForm}
use Rattle.syntax_tree.specs.declared.source.SourceForm.TheVariants.{Use, Friend, Struct, Constant, Function, Spec}
use Rattle.scopes.specs.declared.member.MemberKind.{MemberKind}
use Rattle.scopes.specs.declared.member.MemberKind.TheVariants.{Struct as a_struct, Function as a_function}
use Rattle.scopes.specs.declared.member.NameOfKind.{NameOfKind}
use Rattle.scopes.specs.MemberNames.{same_name_of_kind}
use Rattle.scopes.specs.EnvironmentData.{EnvironmentData}
use Rattle.scopes.specs.TypeMeanings.{or_type}
use Rattle.scopes.specs.Declares.{form_declares, listed}
use Rattle.scopes.specs.Brings.{firsts}
use Rattle.resolution.specs.Parameters.{among}
use Rattle.resolution.specs.Declarations.{result_meaning}
use Rattle.body_names.specs.declared.spec.outer.OuterName.{OuterName}
use Rattle.resolution.specs.Around.{around_function, around_struct}
use Rattle.resolution.specs.Clauses.{PlacedClause, lets_from, placed, HasUnknownAmong}
use Rattle.resolution.specs.Pragmas.{pragmas_in, settings_of}
use Rattle.resolution.specs.Setting.{ClauseScope}
use Rattle.resolution.specs.SpecDeclarations.{spec_types}
use Rattle.resolution.specs.declared.clauses.pragmas.Settings.{Settings}
use Rattle.resolution.specs.Known.{Schemas}

-- ---- by index: a member by its own, and the module itself by the number of its members

abbrev pub with_number : ℕ → NameOfKind → NameOfKind × ℕ
with_number n name = (name, n)

-- the names that members declare, each with the index of its member, the first of which is n
abbrev pub numbered_names : ℕ → List SourceMemberData → List (NameOfKind × ℕ)
numbered_names n [] = []
numbered_names n (m ∷ ms) = map (with_number n) (listed (form_declares m.form)) ++ numbered_names (n + 1) ms

-- of two members with the same name, the first counts
abbrev pub member_numbers : List SourceMemberData → List (NameOfKind × ℕ)
member_numbers members = firsts same_name_of_kind [] (numbered_names 0 members)

abbrev pub numbered_as : List (NameOfKind × ℕ) → MemberKind → List ℕ → Option ℕ
numbered_as numbers kind name = lookup (same_name_of_kind (record { kind = kind; name = name })) numbers

-- the function of this name, or else the struct
abbrev pub owner_named : List (NameOfKind × ℕ) → List ℕ → Option ℕ
owner_named numbers name = option_or (numbered_as numbers a_function name) (numbered_as numbers a_struct name)

-- the owner of a spec block, given the indices and the number of the members
abbrev pub owner_of : List (NameOfKind × ℕ) → ℕ → SpecTree → Option ℕ
owner_of numbers count (module_spec span clauses) = Some count
owner_of numbers count (named_spec span name clauses) = owner_named numbers name.text
owner_of numbers count (schema_spec s) = None
owner_of numbers count (function_spec f) = None
owner_of numbers count (loop_spec span clauses) = None

-- ---- the blocks of an owner

abbrev pub clauses_of_spec : SpecTree → List ClauseTree
clauses_of_spec (module_spec span clauses) = clauses
clauses_of_spec (named_spec span name clauses) = clauses
clauses_of_spec (schema_spec s) = s.clauses
clauses_of_spec (function_spec f) = []
clauses_of_spec (loop_spec span clauses) = clauses

abbrev pub if_number : ℕ → Option ℕ → SpecTree → List SpecTree
if_number n None s = []
if_number n (Some m) s = if n == m then s ∷ [] else []

-- the spec block that a member is, if it belongs to the owner with index n
abbrev pub block_of : List (NameOfKind × ℕ) → ℕ → ℕ → SourceForm → List SpecTree
block_of numbers count n (Spec s) = if_number n (owner_of numbers count s) s
block_of numbers count n _ = []

-- among the first members
abbrev pub blocks_among : List (NameOfKind × ℕ) → ℕ → ℕ → List SourceMemberData → List SpecTree
blocks_among numbers count n first = flat_map (λ m. block_of numbers count n m.form) first

-- all blocks of an owner
abbrev pub blocks_of : List SourceMemberData → ℕ → List SpecTree
blocks_of members n = blocks_among (member_numbers members) (length members) n members

abbrev pub placed_in : SpecTree → List PlacedClause
placed_in s = placed (spec_span s) (clauses_of_spec s)

-- the clauses in blocks, with the spans of the blocks
abbrev pub sources_in : List SpecTree → List PlacedClause
sources_in blocks = flat_map placed_in blocks

-- the settings of the pragmas in blocks
abbrev pub settings_in : List SpecTree → Settings
settings_in blocks = settings_of (flat_map (λ s. pragmas_in (clauses_of_spec s)) blocks)

-- ---- the contexts of the clauses of an owner

pub record OwnerScope : Type 0 where
  pub scope : ClauseScope
  -- the names around its first clause
  pub around : List OuterName

abbrev pub type_parameters_of_form : SourceForm → Option TypeParametersData
type_parameters_of_form (Use u) = None
type_parameters_of_form (Friend f) = None
type_parameters_of_form (Struct s) = s.parameters
type_parameters_of_form (Constant c) = None
type_parameters_of_form (Function f) = f.parameters
type_parameters_of_form (Spec s) = None

-- The type of a function's result. If it has no meaning, the function has none either, and its blocks have no result in
-- scope.
abbrev pub outcome_of : EnvironmentData → FunctionTree → TypeData
outcome_of env f = or_type (result_meaning (among env f.parameters) f.result) (TupleType NoTypes)

abbrev pub around_form : EnvironmentData → SourceForm → List OuterName
around_form env (Use u) = []
around_form env (Friend f) = []
around_form env (Struct s) = around_struct s.fields.items
around_form env (Constant c) = []
around_form env (Function f) = around_function (outcome_of env f) f.inputs.items
around_form env (Spec s) = []

abbrev pub clause_scope : EnvironmentData → Schemas → Option TypeParametersData → ClauseScope
clause_scope env schemas parameters = record { types = spec_types env parameters; schemas = schemas }

abbrev pub owner_scope : EnvironmentData → Schemas → SourceForm → OwnerScope
owner_scope env schemas form = record { scope = clause_scope env schemas (type_parameters_of_form form); around = around_form env form }

abbrev pub member_scope : EnvironmentData → Schemas → SourceMemberData → OwnerScope
member_scope env schemas m = owner_scope env schemas m.form

abbrev pub module_scope : EnvironmentData → Schemas → OwnerScope
module_scope env schemas = record { scope = clause_scope env schemas None; around = [] }

-- the contexts of each member, and of the module itself
abbrev pub owner_scopes : EnvironmentData → Schemas → List SourceMemberData → List OwnerScope
owner_scopes env schemas members = map (member_scope env schemas) members ++ module_scope env schemas ∷ []

-- some use in a block, after the other blocks of its owner, has no meaning
abbrev pub HasUnknownInBlock : OwnerScope → List SpecTree → SpecTree → Type 0
HasUnknownInBlock w before block =
    HasUnknownAmong w.scope (w.around ++ lets_from 0 (sources_in before)) (length (sources_in before)) (placed_in block)
