use Rattle.tableau.specs.PoolBranches.{branch_in}
use Rattle.tableau.specs.Terms.{term_at}
use Rattle.step_checks.proofs.DecisionsNumberLemmas.{left_nowhere, right_nowhere, greatest_so}
use Rattle.step_checks.proofs.decisions.numbers.is_generation_of.Goals as goal

pub returns-in_default : goal.returns-in_default
returns-in_default c = left_nowhere (branch_in c.args.pool.now c.args.branch.now) (term_at c.args.pool.now c.args.left) (term_at c.args.pool.now c.args.right) c.args.generation c.in_default.ensures

pub returns-in_default-generation : goal.returns-in_default-generation
returns-in_default-generation c = right_nowhere (branch_in c.args.pool.now c.args.branch.now) (term_at c.args.pool.now c.args.left) (term_at c.args.pool.now c.args.right) c.args.generation c.in_default-generation.ensures

pub returns : goal.returns
returns c =
    greatest_so (branch_in c.args.pool.now c.args.branch.now) (term_at c.args.pool.now c.args.left) (term_at c.args.pool.now c.args.right) c.args.generation c.in-Some.one c.in-Some-generation.other c.in-Some.ensures c.in-Some-generation.ensures c.is_greatest.result c.is_greatest.ensures
