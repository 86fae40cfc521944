use Rattle.std.specs.Prelude.{nat_eq}
use Rattle.indexmap.specs.IndexMap.{get}
use Rattle.row_reasoning.proofs.NumberLemmas.{AreFirstNumbers}
use Rattle.row_reasoning.proofs.values.numbers.number_entries.Given as goal

abbrev pub invariant-loop-number : goal.invariant-loop-number
invariant-loop-number l = AreFirstNumbers l.pool l.branch l.names l.number (get nat_eq l.found)
