use Rattle.std.proofs.Common.{refl}
use Rattle.strategy.proofs.GrowthLemmas.{axiom_due}
use Rattle.strategy.proofs.due.extensions.axiom_application.Goals as goal

pub returns : goal.returns
returns c = λ shapes ns b p numbered due. axiom_due shapes ns b _ c.args.name c.args.formula p refl c.in_ok-formulas.ensures numbered due
