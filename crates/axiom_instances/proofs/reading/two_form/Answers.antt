use Rattle.axiom_instances.proofs.FormLemmas.{two_other}
use Rattle.axiom_instances.proofs.reading.two_form.Goals as goal

pub returns-in_default : goal.returns-in_default
returns-in_default c = two_other c.args.head c.requires c.in_default.not-Binary c.in_default.not-Pack
