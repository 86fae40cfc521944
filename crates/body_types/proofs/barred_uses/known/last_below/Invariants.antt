use Rattle.std.proofs.Common.{suc, ◌<◌, ◌-◌}
use Rattle.typing_rules.specs.Answers.{HasTyping, IsUntypable}
use Rattle.typing_rules.specs.CodeSystems.{function_system}
use Rattle.typing_rules.specs.FieldBars.{first_steps}
use Rattle.body_types.proofs.barred_uses.known.last_below.Given as goal

abbrev pub invariant-loop-high : goal.invariant-loop-high
invariant-loop-high l = record {
  between : l.low < l.high;
  some : HasTyping (first_steps (function_system l.program l.function) (suc l.low));
  none : IsUntypable (first_steps (function_system l.program l.function) (suc l.high));
}

abbrev pub decreases-loop-high : goal.decreases-loop-high
decreases-loop-high l = l.high - l.low
