-- The constraints of an `include` on its type arguments and on what it gives for variables.
use Rattle.std.specs.Prelude.{ℕ, List, ◌++◌}
use Rattle.std.specs.Map.{lookup}
use Rattle.base.specs.TypeData.{TypeData}
use Rattle.program.specs.declared.program.SchemaId.{SchemaId}
use Rattle.program.specs.Same.{same_schema}
use Rattle.typing_rules.specs.Clauses.{given_to, schema_arity}
use Rattle.typing_rules.specs.Constraint.{Constraint}
use Rattle.typing_rules.specs.SpecConstraints.{SpecSetting, spec_argument_constraints}

abbrev pub include_constraints : SpecSetting → ℕ → SchemaId → List TypeData → List ℕ → List Constraint
include_constraints s first schema types given =
    let d = lookup (same_schema schema) s.program.schemas in
    spec_argument_constraints s first (schema_arity d) types ++ given_to first d given
