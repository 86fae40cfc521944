-- Functions that are not typed.
use Rattle.std.specs.Prelude.{◌⊎◌, Contains}
use Rattle.base.specs.declared.types.FunctionId.{FunctionId}
use Rattle.program.specs.declared.declaration.Function.{Function}
use Rattle.program.specs.declared.program.Program.{Program}
use Rattle.typing_rules.specs.Answers.{IsUntypable, IsAmbiguous}
use Rattle.typing_rules.specs.CodeSystems.{function_system}

-- the function has no typing, or is ambiguous
abbrev pub IsUntyped : Program → Function → Type 0
IsUntyped program f = IsUntypable (function_system program f) ⊎ IsAmbiguous (function_system program f)

pub record HasUntyped (program : Program) : Type 0 where
  pub id : FunctionId
  pub function : Function
  pub declared : Contains program.functions (id, function)
  pub untyped : IsUntyped program function
