-- Which of the first functions of a program visibility forbids an access in.
use Rattle.std.specs.Prelude.{◌≡◌, ℕ, ◌<◌, Some, slice_get}
use Rattle.base.specs.declared.span.Span.{Span}
use Rattle.base.specs.declared.types.FunctionId.{FunctionId}
use Rattle.program.specs.declared.declaration.Function.{Function}
use Rattle.program.specs.declared.program.Program.{Program}
use Rattle.program.specs.Homes.{function_home}
use Rattle.typing_rules.specs.FieldBars.{BarsUse}

-- the function with this number, with this span
pub record FunctionBreaks (program : Program) (number : ℕ) (span : Span) : Type 0 where
  pub id : FunctionId
  pub function : Function
  pub stands : slice_get program.functions number ≡ Some (id, function)
  pub span_is : function.span ≡ span
  pub bars : BarsUse program (function_home id) function

-- one of the first so many functions, with this span
abbrev pub FirstsBreak : Program → ℕ → Span → Type 0
FirstsBreak program n variable = (k : ℕ) × ((k < n) × FunctionBreaks program k variable)
