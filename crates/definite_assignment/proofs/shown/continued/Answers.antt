use Rattle.typing_rules.specs.Flows.{Continued}
use Rattle.definite_assignment.proofs.ShownLaws.{jump_shown}
use Rattle.definite_assignment.proofs.shown.continued.Goals as goal

pub returns : goal.returns
returns c = λ base. jump_shown base c.continued.result Continued c.continued.ensures.ends (λ i had rule h. c.continued.ensures.broken i had rule)
