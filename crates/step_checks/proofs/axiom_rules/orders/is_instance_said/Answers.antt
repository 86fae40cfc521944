use Rattle.certificates.specs.Due.{trichotomy_axiom}
use Rattle.tableau.specs.Terms.{term_at}
use Rattle.axiom_strategy.proofs.GrownLemmas.{over_grown}
use Rattle.step_checks.proofs.DecisionsNumberLemmas.{known_before}
use Rattle.step_checks.proofs.axiom_rules.orders.is_instance_said.Goals as goal

pub stands-requires : goal.stands-requires
stands-requires c = record {
  over = over_grown c.args.pool.now c.instance.new.pool c.instance.ensures.extends c.args.branch.now c.requires.over;
  formula = c.in_ok-made.ensures.is.number;
}

pub returns-clause-exact : goal.returns-clause-exact
returns-clause-exact c =
    known_before c.args.pool.now c.instance.new.pool c.instance.ensures.extends c.args.branch.now c.requires.over (trichotomy_axiom (term_at c.args.pool.now c.args.left) (term_at c.args.pool.now c.args.right)) c.in_ok-made.made c.in_ok-made.ensures.is c.stands.result c.stands.ensures
