use Rattle.definite_assignment.proofs.ShownLaws.{then_shown}
use Rattle.definite_assignment.proofs.shown.then.Goals as goal

pub returns : goal.returns
returns c = λ base f g p q. then_shown base c.then.result c.args.first.now c.args.next.now f g (λ i had way state h. c.then.ensures.ends i had way state) (λ i had rule h. c.then.ensures.broken i had rule) p q
