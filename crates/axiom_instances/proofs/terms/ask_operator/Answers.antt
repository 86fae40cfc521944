use Rattle.axiom_instances.specs.Numbers.{term_at}
use Rattle.axiom_instances.proofs.ListLemmas.{adds_nothing}
use Rattle.axiom_instances.proofs.FormLemmas.{quiet_operator}
use Rattle.axiom_instances.proofs.terms.ask_operator.Goals as goal

pub returns-in-Add-clause-adds : goal.returns-in-Add-clause-adds
returns-in-Add-clause-adds c = adds_nothing _ _ (quiet_operator c.args.operator (term_at c.args.pool.now c.args.left) (term_at c.args.pool.now c.args.right) c.in-Add.is)
