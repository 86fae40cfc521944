use Rattle.std.proofs.Common.{◌-◌, length}
use Rattle.tree_checks.specs.Walks.{AreFirstTrees}
use Rattle.tree_checks.proofs.partial.walk.read_trees.Given as goal

abbrev pub invariant-loop-entry : goal.invariant-loop-entry
invariant-loop-entry l = AreFirstTrees l.pool l.branch.entries l.trees.items

abbrev pub decreases-loop-entry : goal.decreases-loop-entry
decreases-loop-entry l = length l.branch.entries - length l.trees.items
