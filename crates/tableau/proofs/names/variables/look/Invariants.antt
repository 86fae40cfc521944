use Rattle.std.proofs.Common.{◌≡◌, length, take, ◌-◌}
use Rattle.tableau.specs.Variables.{above_entries, AreEntriesAbove, AreNames}
use Rattle.tableau.proofs.names.variables.look.Given as goal

abbrev pub invariant-loop-entry : goal.invariant-loop-entry
invariant-loop-entry l = record {
  entries : AreEntriesAbove l.pool l.branch.entries l.entries.items;
  names : AreNames l.branch.entries (length l.entries.items) l.names;
  above : l.above ≡ above_entries l.pool (take (length l.entries.items) l.branch.entries);
}

abbrev pub decreases-loop-entry : goal.decreases-loop-entry
decreases-loop-entry l = length l.branch.entries - length l.entries.items
