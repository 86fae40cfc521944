use Rattle.axiom_instances.proofs.TypeFormLemmas.{one_plain}
use Rattle.axiom_instances.proofs.reading.one_type.Goals as goal

pub returns-in-TypeShared : goal.returns-in-TypeShared
returns-in-TypeShared c = one_plain c.requires c.in-TypeShared.is
