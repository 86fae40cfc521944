use Rattle.tableau.specs.PoolBranches.{branch_in}
use Rattle.tableau.specs.Numbers.{formula_at}
use Rattle.step_checks.proofs.ReflexiveLemmas.{not_itself, itself_given}
use Rattle.step_checks.proofs.closings.equations.is_itself.Goals as goal

pub returns-in_default-clause-exact : goal.returns-in_default-clause-exact
returns-in_default-clause-exact c = not_itself (branch_in c.args.pool.now c.args.branch.now) (formula_at c.args.pool.now c.args.formula) c.in_default.ensures

pub returns-clause-exact : goal.returns-clause-exact
returns-clause-exact c = itself_given c.args.pool.now (branch_in c.args.pool.now c.args.branch.now) (formula_at c.args.pool.now c.args.formula) c.in-Some.term c.in-Some.ensures c.in_ok-known.known c.in_ok-known.ensures.exact
