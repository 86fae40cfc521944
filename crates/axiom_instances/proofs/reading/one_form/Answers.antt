use Rattle.axiom_instances.proofs.FormLemmas.{one_other}
use Rattle.axiom_instances.proofs.reading.one_form.Goals as goal

pub returns-in_default : goal.returns-in_default
returns-in_default c = one_other c.args.head c.requires c.in_default.not-Unary
