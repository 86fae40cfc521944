use Rattle.std.proofs.Common.{◌≡◌, ◌<◌, ℕ}
use Rattle.typing_rules.specs.CodeSystems.{function_setting}
use Rattle.typing_rules.specs.Settings.{first_argument}
use Rattle.ability_rules.specs.Nodes.{NodeLacksAbility}
use Rattle.ability_rules.proofs.required.function.function_lacks_ability.Given as goal

abbrev pub invariant-loop-index : goal.invariant-loop-index
invariant-loop-index l = record {
  first : l.first ≡ first_argument (function_setting l.program l.function) l.index;
  none : (n : ℕ) → n < l.index → NodeLacksAbility l.program l.function n → ⊥;
}
