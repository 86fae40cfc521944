use Rattle.tableau.proofs.EntryLemmas.{still_over}
use Rattle.tableau.proofs.GraphLemmas.{ok_then}
use Rattle.axiom_strategy.specs.Askers.{asks_of}
use Rattle.axiom_strategy.proofs.DueLemmas.{instances_of}
use Rattle.axiom_strategy.proofs.ListingLemmas.{adds_made}
use Rattle.axiom_strategy.proofs.listing.add_due_of.Goals as goal

pub add_due-requires-clause-over : goal.add_due-requires-clause-over
add_due-requires-clause-over c = still_over c.args.pool.now c.instances_of.new.pool c.instances_of.ensures.extends c.args.branch.now c.requires.over

pub add_due-requires-clause-instances : goal.add_due-requires-clause-instances
add_due-requires-clause-instances c = rw c.as_slice.ensures.value (instances_of c.in_ok-instances.ensures.all)

pub returns-clause-due : goal.returns-clause-due
returns-clause-due c =
    ok_then c.add_due.result
    (λ h. adds_made c.args.pool.now c.instances_of.new.pool c.instances_of.ensures.extends c.args.branch.now c.requires.over c.in_ok-instances.instances.items (asks_of c.args.shapes.now c.args.pool.now c.args.asker) c.args.steps.now.items c.add_due.new.steps.items c.in_ok-instances.ensures.all h)
    (rw c.as_slice.ensures.value at c.add_due.ensures)
