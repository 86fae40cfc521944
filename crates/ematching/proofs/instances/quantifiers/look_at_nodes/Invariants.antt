use Rattle.std.proofs.Common.{length, ◌-◌}
use Rattle.ematching.specs.QuantifierFree.{AreFree}
use Rattle.ematching.proofs.instances.quantifiers.look_at_nodes.Given as goal

abbrev pub invariant-loop-free : goal.invariant-loop-free
invariant-loop-free l = AreFree l.pool l.nodes.items

abbrev pub decreases-loop-free : goal.decreases-loop-free
decreases-loop-free l = length l.pool - length l.nodes.items
