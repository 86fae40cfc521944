use Rattle.definite_assignment.proofs.SetLaws.{has_union}
use Rattle.definite_assignment.proofs.sets.LocalSet.union.Goals as goal

pub returns : goal.returns
returns c = λ i. has_union c.args.self c.args.other i
