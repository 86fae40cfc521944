use Rattle.definite_assignment.proofs.ShownLaws.{either_shown}
use Rattle.definite_assignment.proofs.shown.either.Goals as goal

pub returns : goal.returns
returns c = λ base f g p q. either_shown base c.either.result c.args.first.now c.args.second.now f g (λ i had way state h. c.either.ensures.ends i had way state) (λ i had rule h. c.either.ensures.broken i had rule) p q
