use Rattle.congruence_closure.proofs.OverLemmas.{inside_more}
use Rattle.congruence_closure.proofs.branch_classes.laws.inside_of_more.Goals as goal

pub returns : goal.returns
returns c = λ pool more d g inside. inside_more pool more d g inside
