-- The abilities of the types of a function's locals.
use Rattle.std.specs.Prelude.{◌≡◌, ℕ, ◌<◌, List, length, Some, slice_get}
use Rattle.base.specs.TypeData.{TypeData}
use Rattle.program.specs.declared.declaration.AbilitySet.{AbilitySet}
use Rattle.program.specs.declared.declaration.Function.{Function}
use Rattle.program.specs.declared.program.Program.{Program}
use Rattle.typing_rules.specs.Answers.{HasType}
use Rattle.typing_rules.specs.CodeSystems.{function_setting, function_system}
use Rattle.typing_rules.specs.Settings.{variable_of_local}
use Rattle.typing_rules.specs.Required.{abilities_in}

-- each local has a type, and these are the abilities of the types of the locals, by their numbers
pub record AreLocalAbilities (program : Program) (f : Function) (sets : List AbilitySet) : Type 0 where
  pub same_length : length sets ≡ length f.locals
  pub typed : (l : ℕ) → l < length f.locals → (of : TypeData) × HasType (function_system program f) (variable_of_local (function_setting program f) l) of
  pub each : (l : ℕ) (of : TypeData) → l < length f.locals → HasType (function_system program f) (variable_of_local (function_setting program f) l) of → slice_get sets l ≡ Some (abilities_in program f of)
