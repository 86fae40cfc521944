use Rattle.std.proofs.Common.{◌≡◌, drop}
use Rattle.program.specs.Sets.{both}
use Rattle.ability_rules.specs.Entries.{common_known, judged_at}
use Rattle.ability_rules.proofs.required.entry.common.Given as goal

abbrev pub invariant-loop-number : goal.invariant-loop-number
invariant-loop-number l =
    both l.found (common_known (judged_at l.table) l.parameters l.number (drop l.number l.parts)) ≡ common_known (judged_at l.table) l.parameters 0 l.parts
