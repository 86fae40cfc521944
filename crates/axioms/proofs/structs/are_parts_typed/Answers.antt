use Rattle.base.proofs.TruthValues.{fails}
use Rattle.axioms.specs.Structs.{ArePartsTyped}
use Rattle.axioms.proofs.structs.are_parts_typed.Goals as goal

pub returns-in-None : goal.returns-in-None
unfolding ArePartsTyped
returns-in-None c = fails _ (λ h. c.in-None.ensures h.0 h.1 h.2)
