use Rattle.row_reasoning.proofs.ClassNamesNameLemmas.{AreFirstNames}
use Rattle.row_reasoning.proofs.class_names.class_names.Given as goal

abbrev pub invariant-loop-number : goal.invariant-loop-number
invariant-loop-number l = AreFirstNames l.pool l.classes l.terms l.number-index l.names.items
