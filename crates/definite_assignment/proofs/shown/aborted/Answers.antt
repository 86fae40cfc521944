use Rattle.definite_assignment.proofs.ShownLaws.{over_shown}
use Rattle.definite_assignment.proofs.shown.aborted.Goals as goal

pub returns : goal.returns
returns c = λ base. over_shown base c.over.result (λ i had way state h. c.over.ensures.ends i had way state) (λ i had rule h. c.over.ensures.broken i had rule)
