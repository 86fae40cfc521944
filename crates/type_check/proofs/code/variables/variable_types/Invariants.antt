use Rattle.std.proofs.Common.{◌≡◌, ℕ, Some, length}
use Rattle.std.specs.Prelude.{slice_get}
use Rattle.program.specs.declared.declaration.Function.{Function}
use Rattle.program.specs.declared.program.Program.{Program}
use Rattle.ability_rules.specs.KnownTypes.{IsListed}
use Rattle.ability_rules.specs.declared.polymorphic_recursion.known.VariableTypes.{VariableTypes}
use Rattle.type_check.specs.Functions.{IsTypingOf}
use Rattle.type_check.specs.declared.code.functions.FunctionTyping.{FunctionTyping}
use Rattle.type_check.proofs.code.variables.variable_types.Given as goal

abbrev pub invariant-loop-number : goal.invariant-loop-number
invariant-loop-number l = record {
  count : length l.known.items ≡ l.number;
  each : (n : ℕ) (p : VariableTypes) → slice_get l.known.items n ≡ Some p → (t : FunctionTyping) → slice_get l.typings n ≡ Some t
      → (program : Program) (f : Function) → IsTypingOf program f t → IsListed program f p;
}
