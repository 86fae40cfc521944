-- The states of the locals of functions.
use Rattle.std.specs.Prelude.{◌≡◌, ℕ, List, length, Some, slice_get}
use Rattle.base.specs.declared.types.FunctionId.{FunctionId}
use Rattle.program.specs.declared.declaration.AbilitySet.{AbilitySet}
use Rattle.program.specs.declared.declaration.Function.{Function}
use Rattle.program.specs.declared.program.Program.{Program}
use Rattle.ability_rules.specs.Locals.{AreLocalAbilities}
use Rattle.definite_assignment.specs.declared.points.states.LocalStates.{LocalStates}
use Rattle.definite_assignment.specs.PointsStates.{AreStates}
use Rattle.definite_assignment.specs.Flow.{body_of}

-- these are the states of the function's locals, with the abilities of the types that they have
pub record HasStates (program : Program) (f : Function) (states : LocalStates) : Type 0 where
  pub sets : List AbilitySet
  pub are : AreLocalAbilities program f sets
  pub tells : AreStates (body_of f sets) states

-- the states for each function of the program, in their order
pub record HaveStates (program : Program) (states : List LocalStates) : Type 0 where
  pub same_length : length states ≡ length program.functions
  pub each : (n : ℕ) (of : LocalStates) → slice_get states n ≡ Some of → (id : FunctionId) (f : Function) → slice_get program.functions n ≡ Some (id, f) → HasStates program f of
