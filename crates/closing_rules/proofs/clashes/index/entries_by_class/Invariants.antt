use Rattle.std.proofs.Common.{nat_eq}
use Rattle.indexmap.specs.IndexMap.{get}
use Rattle.closing_rules.specs.Indexes.{AreEntriesBefore}
use Rattle.closing_rules.proofs.clashes.index.entries_by_class.Given as goal

abbrev pub invariant-loop-i : goal.invariant-loop-i
invariant-loop-i l = AreEntriesBefore l.branch l.classes l.i (get nat_eq l.by_class)
