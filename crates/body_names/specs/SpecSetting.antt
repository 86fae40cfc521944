-- The context of a spec expression.
use Rattle.body_names.specs.SpecForms.{SpecScope}
use Rattle.body_names.specs.declared.spec.context.Context.{Context}

-- the context for the meaning of types, and the names around the expression
abbrev pub setting : Context → SpecScope
setting c = record {
  types = record { environment = c.types.environment.now; parameters = c.types.parameters.now; is_spec = c.types.is_spec };
  outer = c.outer.now;
}
