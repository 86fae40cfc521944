use Rattle.congruence_closure.proofs.OverLemmas.{still_over}
use Rattle.congruence_closure.proofs.branch_classes.laws.known_of_more.Goals as goal

pub returns : goal.returns
returns c = λ pool more d g over. still_over pool more d g over
