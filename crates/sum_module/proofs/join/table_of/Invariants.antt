use Rattle.std.specs.Vec.Iter.{into_iter_items}
use Rattle.sum_module.specs.ClauseTable.{entry_at}
use Rattle.sum_module.proofs.ClauseTableLemmas.{Grows}
use Rattle.sum_module.proofs.join.table_of.Given as goal

abbrev pub invariant-loop-spec : goal.invariant-loop-spec
invariant-loop-spec l = Grows (entry_at l.table) l.fn.specs.items (into_iter_items l.spec-iterator)
