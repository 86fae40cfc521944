use Rattle.std.proofs.Common.{◌≡◌, ◌-◌, length, take}
use Rattle.tableau.specs.States.{IsState}
use Rattle.tableau.proofs.state.BranchState.follow_entries.Given as goal

abbrev pub invariant-loop-entry : goal.invariant-loop-entry
invariant-loop-entry l = IsState l.pool l.self × (l.self.entries.items ≡ take (length l.self.entries.items) l.branch.entries)

abbrev pub decreases-loop-entry : goal.decreases-loop-entry
decreases-loop-entry l = length l.branch.entries - length l.self.entries.items
