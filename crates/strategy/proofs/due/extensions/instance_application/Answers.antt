use Rattle.std.proofs.Common.{refl}
use Rattle.strategy.proofs.GrowthLemmas.{instance_due}
use Rattle.strategy.proofs.due.extensions.instance_application.Goals as goal

pub returns : goal.returns
returns c = λ shapes ns b p number numbered due. instance_due shapes ns b _ c.args.entry c.args.term c.args.formula p refl c.in_ok-formulas.ensures number numbered due
