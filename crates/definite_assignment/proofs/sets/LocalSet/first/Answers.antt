use Rattle.definite_assignment.proofs.SetLaws.{has_first}
use Rattle.definite_assignment.proofs.sets.LocalSet.first.Goals as goal

pub returns : goal.returns
returns c = λ i. has_first c.args.count i c.requires
