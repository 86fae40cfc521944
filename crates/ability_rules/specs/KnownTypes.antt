-- What is known of the types of a function's type variables.
use Rattle.std.specs.Prelude.{◌≡◌, ◌↔◌, ℕ, ◌<◌, List, length, Some, None, slice_get}
use Rattle.base.specs.TypeData.{TypeData}
use Rattle.base.specs.declared.types.FunctionId.{FunctionId}
use Rattle.program.specs.declared.declaration.Function.{Function}
use Rattle.program.specs.declared.program.Program.{Program}
use Rattle.typing_rules.specs.Settings.{variable_count}
use Rattle.typing_rules.specs.Answers.{HasType, HasTyping, NodeIsRead}
use Rattle.typing_rules.specs.CodeSystems.{function_setting, function_system}
use Rattle.typing_rules.specs.Pools.{type_at, types}
use Rattle.ability_rules.specs.declared.polymorphic_recursion.known.VariableTypes.{VariableTypes}

-- each type variable has the type with its number, or no type if it has no number; and if there are typings, exactly
-- the first so many nodes are read
pub record IsListed (program : Program) (f : Function) (p : VariableTypes) : Type 0 where
  pub variables : length p.types.now ≡ variable_count (function_setting program f)
  pub within : (q n : ℕ) → slice_get p.types.now q ≡ Some (Some n) → n < length p.pool.now
  pub has : (q n : ℕ) → slice_get p.types.now q ≡ Some (Some n) → HasType (function_system program f) q (type_at (types p.pool.now) n)
  pub lacks : (q : ℕ) (of : TypeData) → slice_get p.types.now q ≡ Some None → HasType (function_system program f) q of → ⊥
  pub read : HasTyping (function_system program f) → (n : ℕ) → n < length f.body.nodes → (n < p.read) ↔ NodeIsRead (function_system program f) n

-- for each function of the program, in their order
pub record AreKnown (program : Program) (known : List VariableTypes) : Type 0 where
  pub same_length : length known ≡ length program.functions
  pub each : (n : ℕ) (p : VariableTypes) → slice_get known n ≡ Some p → (id : FunctionId) (f : Function) → slice_get program.functions n ≡ Some (id, f) → IsListed program f p
