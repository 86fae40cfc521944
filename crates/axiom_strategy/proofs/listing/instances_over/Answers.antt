use Rattle.tableau.specs.PoolBranches.{branch_in}
use Rattle.tableau.proofs.GraphLemmas.{ok_map}
use Rattle.axiom_strategy.proofs.NextLemmas.{askers_of}
use Rattle.axiom_strategy.proofs.ListingLemmas.{all_due}
use Rattle.axiom_strategy.proofs.listing.instances_over.Goals as goal

pub all_askers-requires-clause-typings : goal.all_askers-requires-clause-typings
all_askers-requires-clause-typings c = rw c.as_slice.ensures.value c.in_ok-found.ensures

pub due_of-requires-clause-askers : goal.due_of-requires-clause-askers
due_of-requires-clause-askers c =
    let ns = c.args.pool.now in
    rw c.as_slice-2.ensures.value (askers_of ns (branch_in ns c.args.branch.now) c.in_ok-askers.askers.items c.in_ok-askers.ensures)

pub returns-clause-due : goal.returns-clause-due
returns-clause-due c =
    let due = rw c.as_slice-2.ensures.value at c.due_of.ensures.due in
    ok_map c.due_of.result (λ steps h. all_due c.args.shapes.now c.args.pool.now c.due_of.new.pool c.args.branch.now c.requires.over c.in_ok-askers.askers.items c.in_ok-askers.ensures c.due_of.ensures.extends steps.items h) due
