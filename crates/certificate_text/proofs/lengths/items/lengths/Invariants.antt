use Rattle.std.proofs.Common.{◌≤◌, ◌-◌, length}
use Rattle.certificate_text.specs.Lengths.{AreFirstLengths}
use Rattle.certificate_text.proofs.lengths.items.lengths.Given as goal

abbrev pub invariant-loop-node : goal.invariant-loop-node
invariant-loop-node l = AreFirstLengths l.pool l.lens.items × (length l.lens.items ≤ length l.pool)

abbrev pub decreases-loop-node : goal.decreases-loop-node
decreases-loop-node l = length l.pool - length l.lens.items
