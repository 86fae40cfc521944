use Rattle.axiom_instances.proofs.FormLemmas.{leaf_other}
use Rattle.axiom_instances.proofs.reading.leaf_form.Goals as goal

pub returns-in_default : goal.returns-in_default
returns-in_default c = leaf_other c.args.head c.requires c.in_default.not-Constant
