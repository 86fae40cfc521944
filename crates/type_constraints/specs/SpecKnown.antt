-- Tables of the type variables of type arguments.
use Rattle.std.specs.Prelude.{◌≡◌, ◌<◌, ℕ, List, length, slice_index_or}
use Rattle.typing_rules.specs.SpecConstraints.{SpecSetting, spec_first_argument}

-- the type variables of the first type arguments of the first nodes
pub record AreVariables (s : SpecSetting) (variables : List ℕ) : Type 0 where
  pub each : (n : ℕ) → n < length variables → slice_index_or variables n 0 ≡ spec_first_argument s n
