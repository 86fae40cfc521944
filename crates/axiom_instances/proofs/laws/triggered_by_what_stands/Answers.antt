use Rattle.axiom_instances.proofs.PresentLaws.{stands, triggered}
use Rattle.axiom_instances.proofs.laws.triggered_by_what_stands.Goals as goal

pub returns : goal.returns
returns c = λ shapes b name ts p. (stands shapes b, triggered shapes b)
