use Rattle.definite_assignment.proofs.ShownLaws.{scope_shown}
use Rattle.definite_assignment.proofs.shown.scope.Goals as goal

pub returns : goal.returns
returns c = λ base ls f m p. scope_shown base c.scope.result c.args.code.now c.args.locals ls f c.scope.ensures.ends c.scope.ensures.broken m p
