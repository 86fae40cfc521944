use Rattle.tableau.specs.PoolBranches.{branch_in}
use Rattle.tableau.specs.Numbers.{formula_at}
use Rattle.closing_rules.proofs.ClashLemmas.{no_equates, left_known, right_known, equates_answer}
use Rattle.closing_rules.proofs.clashes.next.equates_joined.Goals as goal

pub are_joined-requires-clause-left : goal.are_joined-requires-clause-left
are_joined-requires-clause-left c = left_known c.args.pool.now c.one_number.ensures c.args.branch.now c.requires.over c.args.classes.now c.requires.classes c.args.formula (c.in-Some.left, c.in-Some.right) c.requires.known c.in-Some.ensures

pub are_joined-requires-clause-right : goal.are_joined-requires-clause-right
are_joined-requires-clause-right c = right_known c.args.pool.now c.one_number.ensures c.args.branch.now c.requires.over c.args.classes.now c.requires.classes c.args.formula (c.in-Some.left, c.in-Some.right) c.requires.known c.in-Some.ensures

pub returns-in-Some : goal.returns-in-Some
returns-in-Some c = equates_answer c.args.pool.now c.one_number.ensures c.args.branch.now c.requires.over c.args.classes.now c.requires.classes c.args.formula (c.in-Some.left, c.in-Some.right) c.are_joined.result c.in-Some.ensures c.are_joined.ensures

pub returns-in-None : goal.returns-in-None
returns-in-None c = no_equates (branch_in c.args.pool.now c.args.branch.now) (formula_at c.args.pool.now c.args.formula) c.in-None.ensures
