use Rattle.std.proofs.Common.{take}
use Rattle.ability_rules.specs.Missing.{IsSetOf}
use Rattle.ability_rules.proofs.acquires.listed.set_of.Given as goal

abbrev pub invariant-loop-id : goal.invariant-loop-id
invariant-loop-id l = IsSetOf l.set (take l.id-index l.structs)
