use Rattle.std.proofs.Common.{◌≤◌, length}
use Rattle.std.specs.Vec.Iter.{into_iter_items}
use Rattle.code_tree.specs.Growing.{AddsBehind}
use Rattle.code_tree.proofs.pass.apply.add_behind.Given as goal

abbrev pub invariant-loop-op : goal.invariant-loop-op
invariant-loop-op g l = AddsBehind l.point l.initial.code.nodes l.code.nodes (into_iter_items l.fn.ops) (into_iter_items l.op-iterator) l.part l.index × (length l.code.nodes ≤ 50000)
