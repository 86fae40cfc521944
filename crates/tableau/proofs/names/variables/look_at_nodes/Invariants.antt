use Rattle.std.proofs.Common.{length, ◌-◌}
use Rattle.tableau.specs.Variables.{AreNodesAbove}
use Rattle.tableau.proofs.names.variables.look_at_nodes.Given as goal

abbrev pub invariant-loop-above : goal.invariant-loop-above
invariant-loop-above l = AreNodesAbove l.pool l.nodes.items

abbrev pub decreases-loop-above : goal.decreases-loop-above
decreases-loop-above l = length l.pool - length l.nodes.items
