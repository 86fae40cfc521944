use Rattle.typing_rules.specs.Flows.{Broken}
use Rattle.definite_assignment.proofs.ShownLaws.{jump_shown}
use Rattle.definite_assignment.proofs.shown.broken.Goals as goal

pub returns : goal.returns
returns c = λ base. jump_shown base c.broken.result Broken c.broken.ensures.ends (λ i had rule h. c.broken.ensures.broken i had rule)
