use Rattle.step_checks.proofs.MarkLemmas.{one_marked}
use Rattle.step_checks.proofs.closings.inside.mark.Goals as goal

pub returns : goal.returns
returns c = one_marked c.args.marks.now c.args.number c.requires
