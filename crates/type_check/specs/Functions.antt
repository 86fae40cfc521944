-- The typings of all functions.
use Rattle.std.specs.Prelude.{◌≡◌, ℕ, List, length, map, replicate, Option, Some, None, slice_get}
use Rattle.base.specs.declared.types.FunctionId.{FunctionId}
use Rattle.program.specs.declared.declaration.Function.{Function}
use Rattle.program.specs.declared.program.Program.{Program}
use Rattle.typing_rules.specs.Settings.{variable_count}
use Rattle.typing_rules.specs.CodeSystems.{function_setting, function_system}
use Rattle.body_types.specs.CodeTyped.{TypingSays}
use Rattle.body_types.specs.declared.code.typing.CodeTyping.{CodeTyping}
use Rattle.body_types.specs.declared.code.typing.CodeTyping.TheVariants.{Untypable, Ambiguous, Typed}
use Rattle.type_check.specs.declared.code.functions.FunctionTyping.{FunctionTyping}

-- the numbers that the typing of a function gives its so many type variables
abbrev pub variables_of : ℕ → CodeTyping → List (Option ℕ)
variables_of count Untypable = replicate count None
variables_of count (Ambiguous numbers judged) = numbers.items
variables_of count (Typed numbers judged) = map Some numbers

abbrev pub read_of : CodeTyping → ℕ
read_of Untypable = 0
read_of (Ambiguous numbers judged) = judged.read
read_of (Typed numbers judged) = judged.read

-- it is the typing of the function, in a pool of its own
pub record IsTypingOf (program : Program) (f : Function) (t : FunctionTyping) : Type 0 where
  pub says : TypingSays (function_system program f) f.body.nodes t.pool t.typing
  pub variables_are : t.variables.items ≡ variables_of (variable_count (function_setting program f)) t.typing
  pub read_is : t.read ≡ read_of t.typing

-- for each function of the program, in their order
pub record AreTypings (program : Program) (typings : List FunctionTyping) : Type 0 where
  pub same_length : length typings ≡ length program.functions
  pub each : (n : ℕ) (t : FunctionTyping) → slice_get typings n ≡ Some t → (id : FunctionId) (f : Function) → slice_get program.functions n ≡ Some (id, f) → IsTypingOf program f t
