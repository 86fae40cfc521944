use Rattle.congruence_closure.proofs.OverLemmas.{part_known}
use Rattle.congruence_closure.proofs.branch_classes.laws.part_known.Goals as goal

pub returns : goal.returns
returns c = λ pool d number part n over k e o. part_known pool d number part n over k e o
