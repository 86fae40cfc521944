use Rattle.std.proofs.Common.{◌≡◌, ℕ, Some, length}
use Rattle.std.specs.Prelude.{slice_get}
use Rattle.base.specs.declared.types.FunctionId.{FunctionId}
use Rattle.program.specs.declared.declaration.Function.{Function}
use Rattle.type_check.specs.Functions.{IsTypingOf}
use Rattle.type_check.specs.declared.code.functions.FunctionTyping.{FunctionTyping}
use Rattle.type_check.proofs.code.functions.type_functions.Given as goal

abbrev pub invariant-loop-number : goal.invariant-loop-number
invariant-loop-number l = record {
  count : length l.typings.items ≡ l.number;
  each : (n : ℕ) (t : FunctionTyping) → slice_get l.typings.items n ≡ Some t → (id : FunctionId) (f : Function) → slice_get l.program.functions n ≡ Some (id, f) → IsTypingOf l.program f t;
}
