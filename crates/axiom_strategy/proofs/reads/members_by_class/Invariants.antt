use Rattle.std.proofs.Common.{take}
use Rattle.axiom_strategy.specs.Keyed.{AreListed}
use Rattle.axiom_strategy.specs.Reads.{IsMember}
use Rattle.axiom_strategy.proofs.reads.members_by_class.Given as goal

abbrev pub invariant-loop-term : goal.invariant-loop-term
invariant-loop-term l = AreListed (IsMember l.classes (take l.term-index l.terms)) l.lists
