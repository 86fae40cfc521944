use Rattle.std.proofs.Common.{length, ◌-◌}
use Rattle.ematching.specs.Heads.{IsIndex}
use Rattle.ematching.proofs.heads.HeadIndex.grow.Given as goal

abbrev pub invariant-loop-node : goal.invariant-loop-node
invariant-loop-node l = IsIndex l.pool l.self

abbrev pub decreases-loop-node : goal.decreases-loop-node
decreases-loop-node l = length l.pool - length l.self.before.items
