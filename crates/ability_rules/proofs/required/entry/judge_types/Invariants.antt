use Rattle.std.proofs.Common.{◌≡◌, ◌-◌, length}
use Rattle.typing_rules.specs.Pools.{types}
use Rattle.ability_rules.specs.Entries.{TellsTypes}
use Rattle.ability_rules.proofs.required.entry.judge_types.Given as goal

abbrev pub invariant-loop-number : goal.invariant-loop-number
invariant-loop-number l = record {
  start : l.table.start ≡ l.start;
  len : length l.table.judged.items ≡ l.number - l.start;
  known : TellsTypes l.structs l.params (types l.pool) l.table;
}
