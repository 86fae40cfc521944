use Rattle.std.proofs.Common.{take}
use Rattle.ability_rules.proofs.Sets.{AreIn}
use Rattle.ability_rules.proofs.acquires.listed.has_missing.Given as goal

abbrev pub invariant-loop-id : goal.invariant-loop-id
invariant-loop-id l = AreIn l.set (take l.id-index l.structs)
