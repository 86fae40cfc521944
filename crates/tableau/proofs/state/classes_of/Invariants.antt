use Rattle.std.proofs.Common.{◌≡◌, map, take}
use Rattle.congruence_closure.specs.Known.{IsOver, AreInEntries}
use Rattle.tableau.specs.Terms.{formula_number}
use Rattle.tableau.proofs.state.classes_of.Given as goal

abbrev pub invariant-loop-entry : goal.invariant-loop-entry
invariant-loop-entry l = IsOver l.pool l.classes × AreInEntries l.pool l.classes × (l.classes.entries ≡ map formula_number (take l.entry-index l.entries))
