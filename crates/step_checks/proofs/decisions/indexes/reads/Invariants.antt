use Rattle.std.proofs.Common.{take}
use Rattle.axiom_strategy.proofs.PositionLemmas.{AreSeen}
use Rattle.step_checks.proofs.decisions.indexes.reads.Given as goal

abbrev pub invariant-loop-number : goal.invariant-loop-number
invariant-loop-number l = AreSeen l.pool l.classes l.groups (take l.number-index l.terms) l.seen
