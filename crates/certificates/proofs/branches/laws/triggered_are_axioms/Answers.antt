use Rattle.certificates.proofs.TableLaws.{triggered}
use Rattle.certificates.proofs.branches.laws.triggered_are_axioms.Goals as goal

pub returns : goal.returns
returns c = λ shapes b name ts p h. triggered shapes b h
