use Rattle.std.proofs.Common.{◌≡◌, ◌+◌, ◌<◌, ℕ, get_or, length}
use Rattle.program.specs.Sets.{no_abilities}
use Rattle.ability_rules.specs.Bodies.{judged_variable}
use Rattle.ability_rules.proofs.required.locals.local_abilities.Given as goal

abbrev pub invariant-loop-local : goal.invariant-loop-local
invariant-loop-local l = record {
  len : length l.sets.items ≡ l.local;
  each : (k : ℕ) → k < l.local → get_or l.sets.items k no_abilities ≡ (judged_variable l.judged.table.now l.judged.variables.now (length l.function.body.nodes + k)).abilities;
}
