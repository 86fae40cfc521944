use Rattle.std.proofs.Common.{take}
use Rattle.resolution.specs.Clauses.{placed}
use Rattle.resolution.specs.Setting.{scope_of}
use Rattle.resolution.specs.LoopParts.{AddedOne}
use Rattle.resolution.proofs.functions.add_block.Given as goal

abbrev pub invariant-loop-tree : goal.invariant-loop-tree
invariant-loop-tree l = AddedOne (scope_of l.context) l.outer l.at (placed l.block (take l.tree-index l.trees)) l.initial.into l.into
