use Rattle.axiom_instances.proofs.ListLemmas.{adds_nothing}
use Rattle.axiom_instances.proofs.FormLemmas.{quiet_form}
use Rattle.axiom_instances.proofs.terms.ask_term.Goals as goal

pub returns-in-Pack-clause-adds : goal.returns-in-Pack-clause-adds
returns-in-Pack-clause-adds c = adds_nothing _ _ (quiet_form c.args.pool.now c.args.term c.term_form.result c.term_form.ensures c.in-Pack.is)
