use Rattle.std.proofs.Common.{take}
use Rattle.resolution.specs.Clauses.{AddedClauses, placed}
use Rattle.resolution.specs.Setting.{scope_of}
use Rattle.resolution.proofs.clauses.resolve_block.Given as goal

abbrev pub invariant-loop-tree : goal.invariant-loop-tree
invariant-loop-tree l = AddedClauses (scope_of l.context) (placed l.block (take l.tree-index l.trees)) l.initial.into l.into
