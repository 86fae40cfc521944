use Rattle.std.proofs.Common.{◌≡◌, ◌-◌, length, take}
use Rattle.tableau.specs.States.{IsState}
use Rattle.tableau.proofs.state.BranchState.follow_classes.Given as goal

abbrev pub invariant-loop-entry : goal.invariant-loop-entry
invariant-loop-entry l = IsState l.pool l.self × (l.self.classed.items ≡ take (length l.self.classed.items) l.branch.entries) × (l.self.entries ≡ l.fn.self.entries)

abbrev pub decreases-loop-entry : goal.decreases-loop-entry
decreases-loop-entry l = length l.branch.entries - length l.self.classed.items
