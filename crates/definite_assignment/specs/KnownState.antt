-- The types of a typed function's type variables.
use Rattle.std.specs.Prelude.{◌≡◌, ℕ, ◌<◌, List, length, map, All, Some, slice_get}
use Rattle.base.specs.declared.types.FunctionId.{FunctionId}
use Rattle.program.specs.declared.declaration.Function.{Function}
use Rattle.program.specs.declared.program.Program.{Program}
use Rattle.typing_rules.specs.Answers.{IsTyped}
use Rattle.typing_rules.specs.CodeSystems.{function_system}
use Rattle.typing_rules.specs.Pools.{type_at, types}
use Rattle.definite_assignment.specs.declared.whole_program.known.FunctionTypes.{FunctionTypes}

-- the function is typed, and these are the numbers of the types of its type variables
pub record IsTypedBy (program : Program) (f : Function) (t : FunctionTypes) : Type 0 where
  pub typed : IsTyped (function_system program f) (map (type_at (types t.pool.now)) t.types.now)
  pub within : All (λ n. n < length t.pool.now) t.types.now

-- for each function of the program, in their order
pub record AreTypedBy (program : Program) (known : List FunctionTypes) : Type 0 where
  pub same_length : length known ≡ length program.functions
  pub each : (n : ℕ) (t : FunctionTypes) → slice_get known n ≡ Some t → (id : FunctionId) (f : Function) → slice_get program.functions n ≡ Some (id, f) → IsTypedBy program f t
