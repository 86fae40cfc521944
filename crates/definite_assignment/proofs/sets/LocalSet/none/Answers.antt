use Rattle.definite_assignment.proofs.SetLaws.{has_none}
use Rattle.definite_assignment.proofs.sets.LocalSet.none.Goals as goal

pub returns : goal.returns
returns c = λ i. has_none i
