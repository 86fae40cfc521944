-- The context of a body.
use Rattle.scopes.specs.TypeMeanings.{TypeScope}
use Rattle.body_names.specs.declared.code.context.Context.{Context}

-- the context for the meaning of types
abbrev pub setting : Context → TypeScope
setting c = record { environment = c.types.environment.now; parameters = c.types.parameters.now; is_spec = c.types.is_spec }
