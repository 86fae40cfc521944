use Rattle.axiom_instances.proofs.ListLemmas.{lists_all}
use Rattle.axiom_instances.proofs.vector_axioms.vectors.axioms_of_vectors.Goals as goal

pub returns-clause-all : goal.returns-clause-all
returns-clause-all c =
    let all = c.in_ok-ask_pair.ensures.adds in lists_all c.new.ensures.items all.adds all.exactly
