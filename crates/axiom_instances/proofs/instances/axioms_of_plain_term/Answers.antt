use Rattle.axiom_instances.proofs.ListLemmas.{lists_all}
use Rattle.axiom_instances.proofs.RowLemmas.{plain_rows}
use Rattle.axiom_instances.proofs.instances.axioms_of_plain_term.Goals as goal

pub returns-clause-all : goal.returns-clause-all
returns-clause-all c = λ shapes. lists_all c.new.ensures.items c.in_ok-ask_term.ensures.adds (plain_rows shapes _ c.requires)
