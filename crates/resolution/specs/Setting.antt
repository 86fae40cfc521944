-- The context of the clauses of specifications.
use Rattle.std.specs.Prelude.{ℕ, Bool, List, ◌&&◌, ◌==◌, Option}
use Rattle.std.specs.Map.{lookup}
use Rattle.base.specs.Names.{same_name}
use Rattle.program.specs.declared.program.SchemaId.{SchemaId}
use Rattle.scopes.specs.TypeMeanings.{TypeScope}
use Rattle.body_names.specs.SpecForms.{SpecScope}
use Rattle.body_names.specs.declared.spec.outer.OuterName.{OuterName}
use Rattle.resolution.specs.declared.clauses.context.ClauseContext.{ClauseContext}

-- the context for the meaning of types, and the names of the variables of each schema, in order
pub record ClauseScope : Type 0 where
  pub types : TypeScope
  pub schemas : List (SchemaId × List (List ℕ))

abbrev pub scope_of : ClauseContext → ClauseScope
scope_of p = record {
  types = record { environment = p.types.environment.now; parameters = p.types.parameters.now; is_spec = p.types.is_spec };
  schemas = p.schemas.now;
}

-- the context of an expression with these names around it
abbrev pub around : ClauseScope → List OuterName → SpecScope
around w outer = record { types = w.types; outer = outer }

abbrev pub same_schema : SchemaId → SchemaId → Bool
same_schema x y = (x.address == y.address) && (same_name x.«module» y.«module» && same_name x.name y.name)

abbrev pub variables_of_schema : ClauseScope → SchemaId → Option (List (List ℕ))
variables_of_schema w schema = lookup (same_schema schema) w.schemas
