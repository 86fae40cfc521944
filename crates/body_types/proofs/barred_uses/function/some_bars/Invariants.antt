use Rattle.std.proofs.Common.{◌≡◌}
use Rattle.unification.specs.Slots.{Meets}
use Rattle.typing_rules.specs.CodeSystems.{function_setting}
use Rattle.typing_rules.specs.Settings.{first_argument}
use Rattle.body_types.specs.Nodes.{NoneBars}
use Rattle.body_types.proofs.barred_uses.function.some_bars.Given as goal

abbrev pub invariant-loop-index : goal.invariant-loop-index
invariant-loop-index l = record {
  first : l.first ≡ first_argument (function_setting l.program l.function) l.index;
  none : NoneBars l.program l.function l.facts.own.now l.facts.types.now (Meets l.facts.slots.now) l.index;
}
