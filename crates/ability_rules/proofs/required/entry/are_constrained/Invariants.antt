use Rattle.std.proofs.Common.{◌≡◌, ◌&&◌, drop}
use Rattle.ability_rules.specs.Entries.{are_constrained_known, judged_at}
use Rattle.ability_rules.proofs.required.entry.are_constrained.Given as goal

abbrev pub invariant-loop-number : goal.invariant-loop-number
invariant-loop-number l =
    (l.are && are_constrained_known (judged_at l.table) l.parameters l.number (drop l.number l.parts)) ≡ are_constrained_known (judged_at l.table) l.parameters 0 l.parts
