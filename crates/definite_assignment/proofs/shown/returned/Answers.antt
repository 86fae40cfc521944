use Rattle.typing_rules.specs.Flows.{Returned}
use Rattle.definite_assignment.proofs.ShownLaws.{jump_shown}
use Rattle.definite_assignment.proofs.shown.returned.Goals as goal

pub returns : goal.returns
returns c = λ base. jump_shown base c.returned.result Returned c.returned.ensures.ends (λ i had rule h. c.returned.ensures.broken i had rule)
