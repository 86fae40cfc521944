use Rattle.axiom_strategy.proofs.BesideLemmas.{a_vector_type, no_vector_type}
use Rattle.axiom_strategy.proofs.beside.is_vector_type.Goals as goal

pub returns-in-Some : goal.returns-in-Some
returns-in-Some c = a_vector_type c.in-Some.ensures

pub returns-in-None : goal.returns-in-None
returns-in-None c = no_vector_type c.in-None.ensures
