use Rattle.certificates.specs.Due.{trichotomy_axiom}
use Rattle.tableau.specs.Terms.{term_at}
use Rattle.step_checks.proofs.OrderLemmas.{same_made}
use Rattle.step_checks.proofs.axiom_rules.orders.is_instance.Goals as goal

pub returns-clause-exact : goal.returns-clause-exact
returns-clause-exact c =
    same_made c.args.pool.now c.instance.new.pool c.instance.ensures.extends c.one_number.ensures (trichotomy_axiom (term_at c.args.pool.now c.args.left) (term_at c.args.pool.now c.args.right)) c.in_ok-made.made c.args.formula c.in_ok-made.ensures.is c.requires.formula c.is_same.result c.is_same.ensures
