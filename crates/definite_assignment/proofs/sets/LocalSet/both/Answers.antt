use Rattle.definite_assignment.proofs.SetLaws.{has_both}
use Rattle.definite_assignment.proofs.sets.LocalSet.both.Goals as goal

pub returns : goal.returns
returns c = λ i. has_both c.args.self c.args.other i
