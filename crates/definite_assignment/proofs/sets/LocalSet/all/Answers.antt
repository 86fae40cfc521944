use Rattle.definite_assignment.proofs.SetLaws.{has_all}
use Rattle.definite_assignment.proofs.sets.LocalSet.all.Goals as goal

pub returns : goal.returns
returns c = λ i h. has_all i h
