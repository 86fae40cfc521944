use Rattle.std.specs.Vec.Iter.{into_iter_items}
use Rattle.base.proofs.PairLaws.{Reading}
use Rattle.type_check.proofs.Included.{TellAll}
use Rattle.type_check.proofs.typed_program.instances.instance_tables.Given as goal

abbrev pub invariant-loop-one : goal.invariant-loop-one
invariant-loop-one l = Reading TellAll l.fn.instances.judged.items (into_iter_items l.one-iterator) l.clauses.items
