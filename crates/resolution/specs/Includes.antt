-- The values of the variables of an included schema. Source: the Move Specification Language reference, "Schemas": a
-- variable without a binding has the meaning of its name where the schema is included.
use Rattle.std.specs.Prelude.{◌≡◌, ◌⊎◌, ℕ, Bool, List, [], ◌∷◌, ◌++◌, map, slice_get, Option, Some, None, option_and_then, is_none, is_some, if◌then◌else◌}
use Rattle.std.specs.List.{list_all}
use Rattle.base.specs.declared.span.Span.{Span}
use Rattle.base.specs.TypeData.{TypesData}
use Rattle.syntax_tree.specs.TypeTreeData.{maybe_arguments_of}
use Rattle.syntax_tree.specs.SpecExpressionData.{SpecFieldData, ShortSpecField, spec_fields_of}
use Rattle.syntax_tree.specs.ClauseData.{BindingsData}
use Rattle.syntax_tree.specs.declared.clause.Include.{Include as IncludeTree}
use Rattle.program.specs.Listed.{AreSound, nodes_from_all, indices}
use Rattle.program.specs.declared.program.SchemaId.{SchemaId}
use Rattle.program.specs.declared.clause.ClauseForm.{ClauseForm}
use Rattle.program.specs.declared.clause.ClauseForm.TheVariants.{Include}
use Rattle.scopes.specs.Meanings.{each, schema_meaning}
use Rattle.scopes.specs.TypeMeanings.{arguments_meaning}
use Rattle.body_names.specs.declared.spec.outer.OuterName.{OuterName}
use Rattle.body_names.specs.SpecForms.{SpecScope, SpecTrees}
use Rattle.body_names.specs.NameLists.{last_index}
use Rattle.body_names.specs.SpecResolved.{binding_trees}
use Rattle.body_names.specs.SpecSpans.{spans_of_fields}
use Rattle.body_names.specs.SpecTrees.{field_of_value}
use Rattle.resolution.specs.declared.clauses.include.Given.{Given}
use Rattle.resolution.specs.Setting.{ClauseScope, around, variables_of_schema}

-- ---- bindings, written and implied

-- the written bindings
abbrev pub bindings_of : Option BindingsData → List SpecFieldData
bindings_of None = []
bindings_of (Some bindings) = bindings.items

-- the names that are bound
abbrev pub given_names : List SpecFieldData → List (List ℕ)
given_names bindings = map field_of_value bindings

-- the variables that are not among these names, each once
abbrev pub missing : List (List ℕ) → List (List ℕ) → List (List ℕ)
missing names [] = []
missing names (one ∷ more) =
    if is_none (last_index names one) then one ∷ missing (names ++ one ∷ []) more else missing names more

-- the binding of an unbound variable, as if its name were written at this span
abbrev pub implied_binding : Span → List ℕ → SpecFieldData
implied_binding span name = ShortSpecField (record { text = name; span = span })

abbrev pub implied_bindings : Span → List (List ℕ) → List SpecFieldData → List SpecFieldData
implied_bindings span variables bindings = map (implied_binding span) (missing (given_names bindings) variables)

-- the names that are bound, and after them those that are implied
abbrev pub all_names : List (List ℕ) → List SpecFieldData → List (List ℕ)
all_names variables bindings = given_names bindings ++ missing (given_names bindings) variables

-- the trees of the written values, and after them those of the implied ones
abbrev pub given_trees : SpecScope → Span → List (List ℕ) → List SpecFieldData → SpecTrees
given_trees w span variables bindings =
    binding_trees w (spec_fields_of bindings) (spec_fields_of (implied_bindings span variables bindings))

abbrev pub given_spans : Span → List (List ℕ) → List SpecFieldData → List Span
given_spans span variables bindings =
    spans_of_fields (spec_fields_of bindings) ++ spans_of_fields (spec_fields_of (implied_bindings span variables bindings))

-- ---- the value of each variable

-- each name is one of these variables
abbrev pub are_variables : List (List ℕ) → List (List ℕ) → Bool
are_variables variables names = list_all (λ name. is_some (last_index variables name)) names

-- the index of the last expression with this name, among expressions with these names
abbrev pub index_of : List (List ℕ) → List ℕ → List ℕ → Option ℕ
index_of names roots name = option_and_then (slice_get roots) (last_index names name)

-- the index of the value of each variable, if each bound name is a variable
abbrev pub given_indices : List (List ℕ) → List SpecFieldData → List ℕ → Option (List ℕ)
given_indices variables bindings roots =
    if are_variables variables (given_names bindings) then each (index_of (all_names variables bindings) roots) variables else None

-- ---- an include

-- the names of the variables of the included schema
abbrev pub included_variables : ClauseScope → IncludeTree → Option (List (List ℕ))
included_variables w i = option_and_then (variables_of_schema w) (schema_meaning w.types.environment i.schema)

abbrev pub names_or_none : Option (List (List ℕ)) → List (List ℕ)
names_or_none None = []
names_or_none (Some names) = names

abbrev pub include_trees : ClauseScope → List OuterName → IncludeTree → SpecTrees
include_trees w outer i =
    given_trees (around w outer) i.span (names_or_none (included_variables w i)) (bindings_of i.bindings)

abbrev pub include_spans : ClauseScope → IncludeTree → List Span
include_spans w i = given_spans i.span (names_or_none (included_variables w i)) (bindings_of i.bindings)

-- an include of these, if all of them have a meaning
abbrev pub include_of : Option SchemaId → Option TypesData → Option (List ℕ) → Option ClauseForm
include_of None types given = None
include_of (Some schema) None given = None
include_of (Some schema) (Some types) None = None
include_of (Some schema) (Some types) (Some given) = Some (Include schema types given)

-- the form of an include, given the indices of its expressions
abbrev pub include_form : ClauseScope → IncludeTree → List ℕ → Option ClauseForm
include_form w i roots =
    include_of (schema_meaning w.types.environment i.schema) (arguments_meaning w.types (maybe_arguments_of i.arguments))
    (option_and_then (λ variables. given_indices variables (bindings_of i.bindings) roots) (included_variables w i))

-- ---- the values, apart from the schema

-- the trees of the values, which are sound, and the index of the value of each variable
pub record IsGiven (w : SpecScope) (span : Span) (variables : List (List ℕ)) (bindings : List SpecFieldData) (given : Given) : Type 0 where
  pub sound : AreSound (given_trees w span variables bindings)
  pub indices_are : given_indices variables bindings (indices 0 (given_trees w span variables bindings)) ≡ Some given.indices
  pub nodes : given.body.nodes ≡ nodes_from_all 0 (given_trees w span variables bindings)
  pub spans_are : given.body.spans ≡ given_spans span variables bindings

abbrev pub GivesNothing : SpecScope → Span → List (List ℕ) → List SpecFieldData → Type 0
GivesNothing w span variables bindings =
    (AreSound (given_trees w span variables bindings) → ⊥)
    ⊎ (given_indices variables bindings (indices 0 (given_trees w span variables bindings)) ≡ None)
