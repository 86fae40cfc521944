use Rattle.step_checks.proofs.ListedLemmas.{listed_so}
use Rattle.step_checks.proofs.axiom_rules.listed.is_listed.Goals as goal

pub returns-clause-exact : goal.returns-clause-exact
returns-clause-exact c =
    listed_so c.args.shapes.now c.args.pool.now c.instances_over.new.pool c.instances_over.ensures.extends c.one_number.ensures c.args.branch.now c.requires.over c.in_ok-steps.steps.items c.in_ok-steps.ensures.due c.args.sought c.requires.formula c.is_among.result (rw c.as_slice.ensures.value at c.is_among.ensures)
