use Rattle.definite_assignment.proofs.SetLaws.{has_one}
use Rattle.definite_assignment.proofs.sets.LocalSet.one.Goals as goal

pub returns : goal.returns
returns c = λ i. has_one c.args.index i c.requires
