use Rattle.std.proofs.Common.{◌≤◌, length}
use Rattle.tableau.specs.PoolBranches.{branch_in}
use Rattle.axiom_strategy.specs.Due.{AsksOfSome}
use Rattle.axiom_strategy.specs.Listing.{AddsDueSteps}
use Rattle.axiom_strategy.proofs.ListingLemmas.{only_at}
use Rattle.axiom_strategy.proofs.listing.add_due.Given as goal

abbrev pub invariant-loop-triggered : goal.invariant-loop-triggered
invariant-loop-triggered l = record {
  in_range : l.triggered-index ≤ length l.instances;
  adds : AddsDueSteps l.pool (branch_in l.pool l.branch) (AsksOfSome l.triggered-index (only_at l.pool l.instances)) l.fn.steps.items l.steps.items;
}
