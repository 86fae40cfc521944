-- The invariant of the loop over the modules of a program.
use Rattle.std.specs.Prelude.{◌≡◌}
use Rattle.scopes.specs.EnvironmentData.{EnvironmentData}
use Rattle.resolution.specs.declared.known.Known.{Known}
use Rattle.resolution.specs.Known.{KnownData}

-- the environment is in some module of the program, or in none yet
pub record IsWithin (known : KnownData) (env : EnvironmentData) : Type 0 where
  pub addresses : env.addresses ≡ known.environment.addresses
  pub declared : env.declared ≡ known.environment.declared

pub record IsKnown (known : KnownData) (code : Known) : Type 0 where
  pub modules : code.modules.keys ≡ known.modules
  pub schemas : code.schemas ≡ known.schemas
