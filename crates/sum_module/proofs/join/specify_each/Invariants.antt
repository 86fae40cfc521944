use Rattle.std.specs.Vec.Iter.{into_iter_items}
use Rattle.sum_module.specs.ClauseTable.{entry_at}
use Rattle.sum_module.proofs.ClauseTableLemmas.{Serves}
use Rattle.sum_module.proofs.join.specify_each.Given as goal

abbrev pub invariant-loop-function : goal.invariant-loop-function
invariant-loop-function l = Serves (entry_at l.fn.table) (entry_at l.left) l.fn.functions.items (into_iter_items l.function-iterator) l.made.items
