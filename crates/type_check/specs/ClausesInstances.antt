-- Included schemas, and their clauses there. Source: the Move Specification Language reference, "Schemas".
use Rattle.std.specs.Prelude.{◌≡◌, ℕ, ◌+◌, List, length, take, Option, Some, slice_get}
use Rattle.std.specs.Map.{lookup}
use Rattle.base.specs.TypeData.{TypeData, TypesData, list_of_types}
use Rattle.base.specs.declared.span.Span.{Span}
use Rattle.program.specs.declared.clause.ClauseForm.TheVariants.{Include}
use Rattle.program.specs.declared.declaration.Schema.{Schema}
use Rattle.program.specs.declared.program.Program.{Program}
use Rattle.program.specs.declared.program.SchemaId.{SchemaId}
use Rattle.program.specs.Same.{same_schema}
use Rattle.typing_rules.specs.Answers.{HasType}
use Rattle.typing_rules.specs.SpecConstraints.{spec_variable_count}
use Rattle.typing_rules.specs.Clauses.{Block, LetType, AreLets, clause_setting, clause_system, schema_arity, schema_names}
use Rattle.typing_rules.specs.Faults.{Stated, stated_system}

-- a schema, with the types substituted for its type parameters, in a block of this kind
pub record Instance : Type 0 where
  pub schema : SchemaId
  pub types : TypesData
  pub block : Block

-- a clause includes the instance, with the types of the type arguments given there
pub record Includes (program : Program) (from : Stated) (i : Instance) : Type 0 where
  pub types : TypesData
  pub given : List ℕ
  pub form_is : from.clause.form ≡ Include i.schema types given
  pub declared : Schema
  pub lookup_is : lookup (same_schema i.schema) program.schemas ≡ Some declared
  pub same_length : schema_arity (Some declared) ≡ length (list_of_types i.types)
  pub arguments : (k : ℕ) (of : TypeData) → slice_get (list_of_types i.types) k ≡ Some of
      → HasType (stated_system program from) (spec_variable_count (clause_setting program from.names from.block from.types from.clause) + k) of
  pub block_is : i.block ≡ from.block

-- a clause of the instance, with the span of its block
pub record IsOfInstance (program : Program) (i : Instance) (span : Span) (c : Stated) : Type 0 where
  pub declared : Schema
  pub lookup_is : lookup (same_schema i.schema) program.schemas ≡ Some declared
  pub lets : List (Option LetType)
  pub are_lets : AreLets (λ before. clause_system program (schema_names declared i.types before) i.block i.types) declared.clauses lets
  pub number : ℕ
  pub one : slice_get declared.clauses number ≡ Some c.clause
  pub names_are : c.names ≡ schema_names declared i.types (take number lets)
  pub block_is : c.block ≡ i.block
  pub types_are : c.types ≡ i.types
  pub span_is : c.span ≡ span
