use Rattle.axiom_instances.proofs.ListLemmas.{lists_all}
use Rattle.axiom_instances.proofs.TypeLemmas.{types}
use Rattle.axiom_instances.proofs.instances.axioms_of_typed.Goals as goal

pub returns-clause-all : goal.returns-clause-all
returns-clause-all c = λ shapes. lists_all c.new.ensures.items c.in_ok-ask_typed.ensures.adds (types shapes _ _ c.requires.plain)
