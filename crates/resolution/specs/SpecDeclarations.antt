-- Resolved schemas and spec functions. Source: the Move Specification Language reference, "Schemas" and "Helper
-- Functions".
use Rattle.std.specs.Prelude.{◌≡◌, ◌⊎◌, ℕ, true, List, [], ◌∷◌, Option, Some, None}
use Rattle.std.specs.List.{flat_map}
use Rattle.syntax_tree.specs.MemberData.{TypeParametersData}
use Rattle.syntax_tree.specs.declared.member.TypedName.{TypedName as TypedNameTree}
use Rattle.syntax_tree.specs.declared.clause.Clause.{Clause as ClauseTree}
use Rattle.syntax_tree.specs.declared.clause.Clause.TheVariants.{Pragma as pragma_clause, Requires as requires_clause, Ensures as ensures_clause, AbortsIf as aborts_if_clause, Modifies as modifies_clause, Invariant as invariant_clause, Let as let_clause, Include as include_clause, Variable as variable_clause}
use Rattle.syntax_tree.specs.declared.clause.Schema.{Schema as SchemaTree}
use Rattle.syntax_tree.specs.declared.clause.SpecFunction.{SpecFunction as SpecFunctionTree}
use Rattle.program.specs.Listed.{IsSound, nodes_of}
use Rattle.program.specs.declared.program.SchemaId.{SchemaId}
use Rattle.program.specs.declared.declaration.Schema.{Schema}
use Rattle.program.specs.declared.declaration.SpecFunction.{SpecFunction}
use Rattle.scopes.specs.EnvironmentData.{EnvironmentData}
use Rattle.scopes.specs.TypeMeanings.{TypeScope, type_meaning}
use Rattle.body_names.specs.SpecForms.{SpecTree}
use Rattle.body_names.specs.SpecResolved.{expression_tree}
use Rattle.body_names.specs.SpecSpans.{spans_of}
use Rattle.resolution.specs.Parameters.{type_names_of, type_parameters_of, typed_names}
use Rattle.resolution.specs.Around.{around_schema, around_spec_function, names_of}
use Rattle.resolution.specs.Setting.{ClauseScope}
use Rattle.resolution.specs.Clauses.{AreClausesOf, HasUnknownAmong, placed}

-- in a specification, with these type parameters in scope
abbrev pub spec_types : EnvironmentData → Option TypeParametersData → TypeScope
spec_types env parameters = record { environment = env; parameters = type_names_of parameters; is_spec = true }

-- ---- schemas

abbrev pub variables_of_clause : ClauseTree → List TypedNameTree
variables_of_clause (pragma_clause span pragmas) = []
variables_of_clause (requires_clause span e) = []
variables_of_clause (ensures_clause span e) = []
variables_of_clause (aborts_if_clause span e code) = []
variables_of_clause (modifies_clause span targets) = []
variables_of_clause (invariant_clause span is_update e) = []
variables_of_clause (let_clause span is_post name e) = []
variables_of_clause (include_clause i) = []
variables_of_clause (variable_clause n) = n ∷ []

-- the variables that a schema declares anywhere in its block
abbrev pub variables_in : List ClauseTree → List TypedNameTree
variables_in clauses = flat_map variables_of_clause clauses

abbrev pub schema_variables : List ClauseTree → List (List ℕ)
schema_variables clauses = names_of (variables_in clauses)

-- the context of the clauses of a schema, given the variables of all schemas
abbrev pub schema_scope : EnvironmentData → List (SchemaId × List (List ℕ)) → SchemaTree → ClauseScope
schema_scope env schemas tree = record { types = spec_types env tree.parameters; schemas = schemas }

-- the schema of this source: its variables are in scope in its clauses, and so are the `let`s before each clause
pub record IsSchemaOf (env : EnvironmentData) (schemas : List (SchemaId × List (List ℕ))) (tree : SchemaTree) (resolved : Schema) : Type 0 where
  pub span : resolved.span ≡ tree.span
  pub type_parameters : resolved.type_parameters ≡ type_parameters_of tree.parameters
  pub variables : typed_names (spec_types env tree.parameters) (variables_in tree.clauses) ≡ Some resolved.variables
  pub clauses : AreClausesOf (schema_scope env schemas tree) (around_schema (schema_variables tree.clauses)) 0 (placed tree.span tree.clauses) resolved.clauses

abbrev pub HasUnknownInSchema : EnvironmentData → List (SchemaId × List (List ℕ)) → SchemaTree → Type 0
HasUnknownInSchema env schemas tree =
    (typed_names (spec_types env tree.parameters) (variables_in tree.clauses) ≡ None)
    ⊎ HasUnknownAmong (schema_scope env schemas tree) (around_schema (schema_variables tree.clauses)) 0 (placed tree.span tree.clauses)

-- ---- spec functions

abbrev pub function_tree : EnvironmentData → SpecFunctionTree → SpecTree
function_tree env f = expression_tree (record { types = spec_types env f.parameters; outer = around_spec_function f.inputs.items }) f.body

-- the spec function of this source: its parameters are in scope in its body
pub record IsSpecFunctionOf (env : EnvironmentData) (tree : SpecFunctionTree) (resolved : SpecFunction) : Type 0 where
  pub span : resolved.span ≡ tree.span
  pub type_parameters : resolved.type_parameters ≡ type_parameters_of tree.parameters
  pub parameters : typed_names (spec_types env tree.parameters) tree.inputs.items ≡ Some resolved.parameters
  pub result_is : type_meaning (spec_types env tree.parameters) tree.result ≡ Some resolved.result
  pub sound : IsSound (function_tree env tree)
  pub nodes : resolved.body.nodes ≡ nodes_of (function_tree env tree)
  pub spans : resolved.body.spans ≡ spans_of tree.body

abbrev pub HasUnknownInSpecFunction : EnvironmentData → SpecFunctionTree → Type 0
HasUnknownInSpecFunction env tree =
    (typed_names (spec_types env tree.parameters) tree.inputs.items ≡ None)
    ⊎ (type_meaning (spec_types env tree.parameters) tree.result ≡ None)
    ⊎ (IsSound (function_tree env tree) → ⊥)
