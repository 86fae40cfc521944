use Rattle.std.proofs.Common.{◌≡◌, ◌<◌, ℕ, false, get_or, length, take}
use Rattle.std.specs.List.{list_any}
use Rattle.typing_rules.specs.Required.{takes_place}
use Rattle.ability_rules.proofs.required.taken.taken_of.Given as goal

abbrev pub invariant-loop-variable : goal.invariant-loop-variable
invariant-loop-variable l = record {
  len : length l.taken.items ≡ length l.body.nodes;
  taken : (n : ℕ) → n < length l.body.nodes → get_or l.taken.items n false ≡ list_any (takes_place n) (take l.variable l.body.nodes);
}
