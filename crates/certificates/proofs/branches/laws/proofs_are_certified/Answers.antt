use Rattle.certificates.proofs.MoveLaws.{certified}
use Rattle.certificates.proofs.branches.laws.proofs_are_certified.Goals as goal

pub returns : goal.returns
returns c = λ shapes p applications h. certified shapes p applications h
