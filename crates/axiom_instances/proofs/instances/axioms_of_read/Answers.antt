use Rattle.axiom_instances.proofs.ListLemmas.{lists_all}
use Rattle.axiom_instances.proofs.PairLemmas.{reads}
use Rattle.axiom_instances.proofs.instances.axioms_of_read.Goals as goal

pub returns-clause-all : goal.returns-clause-all
returns-clause-all c = lists_all c.new.ensures.items c.in_ok-ask_read.ensures.adds (reads _ _)
