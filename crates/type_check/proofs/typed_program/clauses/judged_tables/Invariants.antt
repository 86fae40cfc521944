use Rattle.std.specs.Vec.Iter.{into_iter_items}
use Rattle.base.proofs.PairLaws.{Reading}
use Rattle.type_check.specs.Clauses.{Tells}
use Rattle.type_check.proofs.typed_program.clauses.judged_tables.Given as goal

abbrev pub invariant-loop-one : goal.invariant-loop-one
invariant-loop-one l = Reading Tells l.fn.judged.items (into_iter_items l.one-iterator) l.tables
