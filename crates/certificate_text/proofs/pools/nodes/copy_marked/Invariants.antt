use Rattle.std.proofs.Common.{◌≤◌, ◌-◌, length}
use Rattle.certificate_text.specs.Nodes.{AreNumbers}
use Rattle.certificate_text.proofs.pools.nodes.copy_marked.Given as goal

abbrev pub invariant-loop-node : goal.invariant-loop-node
invariant-loop-node l = record { numbers : AreNumbers l.pool l.made l.marks l.numbers.items; within : length l.numbers.items ≤ length l.pool }

abbrev pub decreases-loop-node : goal.decreases-loop-node
decreases-loop-node l = length l.pool - length l.numbers.items
