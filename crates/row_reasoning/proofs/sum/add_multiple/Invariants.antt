use Rattle.std.proofs.Common.{take}
use Rattle.row_reasoning.specs.Sums.{IsAdded}
use Rattle.row_reasoning.proofs.sum.add_multiple.Given as goal

abbrev pub invariant-loop-position : goal.invariant-loop-position
invariant-loop-position l = IsAdded l.factor l.initial.first.entries (take l.position l.second.entries) l.first.entries
