use Rattle.tableau.proofs.EntryLemmas.{still_over}
use Rattle.axiom_strategy.specs.Askers.{asks_of}
use Rattle.axiom_strategy.proofs.DueLemmas.{instances_of}
use Rattle.axiom_strategy.proofs.AskerLemmas.{answer_made}
use Rattle.axiom_strategy.proofs.askers.next_of.Goals as goal

pub first_due-requires-clause-over : goal.first_due-requires-clause-over
first_due-requires-clause-over c = still_over c.args.pool.now c.position_of.new.pool c.position_of.ensures.extends c.args.branch.now c.requires.over

pub first_due-requires-clause-instances : goal.first_due-requires-clause-instances
first_due-requires-clause-instances c = rw c.list.ensures (instances_of c.in_ok-position.ensures.all)

pub returns-clause-due : goal.returns-clause-due
returns-clause-due c =
    answer_made c.args.pool.now c.position_of.new.pool c.position_of.ensures.extends c.args.branch.now c.requires.over c.args.wanted (asks_of c.args.shapes.now c.args.pool.now c.args.asker) c.first_due.result c.in_ok-position.ensures.all (rw c.list.ensures at c.first_due.ensures)
