-- What sets and effects of the 64 locals from a number on mean for code.
use Rattle.std.specs.Prelude.{◌≡◌, ℕ, ◌+◌, ◌<◌, List}
use Rattle.typing_rules.specs.Flows.{Flow}
use Rattle.definite_assignment.specs.declared.sets.LocalSet.{LocalSet}
use Rattle.definite_assignment.specs.declared.effects.Effects.{Effects}
use Rattle.definite_assignment.specs.LocalEffects.{is_among, effect_of}
use Rattle.definite_assignment.specs.Sets.{has}
use Rattle.definite_assignment.specs.Views.{view}

-- the effects are those of this flow
pub record Shows (base : ℕ) (effects : Effects) (flow : Flow) : Type 0 where
  pub shown : (i : ℕ) → i < 64 → view effects i ≡ effect_of (base + i) flow

-- the set consists of these locals
pub record Means (base : ℕ) (set : LocalSet) (locals : List ℕ) : Type 0 where
  pub meant : (i : ℕ) → i < 64 → has set i ≡ is_among (base + i) locals
