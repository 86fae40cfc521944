use Rattle.axiom_instances.proofs.TypeFormLemmas.{leaf_plain}
use Rattle.axiom_instances.proofs.reading.leaf_type.Goals as goal

pub returns-in-TypeNum : goal.returns-in-TypeNum
returns-in-TypeNum c = leaf_plain c.requires c.in-TypeNum.is
