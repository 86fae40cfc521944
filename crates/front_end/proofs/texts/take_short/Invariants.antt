use Rattle.std.specs.Vec.Iter.{into_iter_items}
use Rattle.front_end.proofs.TextLemmas.{Taking}
use Rattle.front_end.proofs.texts.take_short.Given as goal

abbrev pub invariant-loop-number : goal.invariant-loop-number
invariant-loop-number l = Taking l.fn.texts.items (into_iter_items l.number-iterator.iter) l.number-iterator.count l.found.items
