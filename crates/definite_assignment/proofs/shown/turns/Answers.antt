use Rattle.definite_assignment.proofs.ShownLaws.{turns_shown}
use Rattle.definite_assignment.proofs.shown.turns.Goals as goal

pub returns : goal.returns
returns c = λ base f g p q. turns_shown base c.turns.result c.args.test.now c.args.body.now f g c.turns.ensures.ends c.turns.ensures.broken p q
