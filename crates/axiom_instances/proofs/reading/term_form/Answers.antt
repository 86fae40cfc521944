use Rattle.axiom_instances.proofs.FormLemmas.{no_term}
use Rattle.axiom_instances.proofs.reading.term_form.Goals as goal

pub returns-in-None : goal.returns-in-None
returns-in-None c = no_term c.args.pool.now c.args.term c.in-None.ensures
