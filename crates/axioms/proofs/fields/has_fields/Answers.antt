use Rattle.base.proofs.TruthValues.{fails}
use Rattle.axioms.specs.Fields.{HasFields}
use Rattle.axioms.proofs.fields.has_fields.Goals as goal

pub returns-in-None : goal.returns-in-None
unfolding HasFields
returns-in-None c = fails _ (λ h. c.in-None.ensures h.0 h.1 h.2)
