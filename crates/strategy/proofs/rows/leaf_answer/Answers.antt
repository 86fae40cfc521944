use Rattle.std.proofs.Common.{subst}
use Rattle.tableau.specs.PoolBranches.{branch_in}
use Rattle.closing_rules.specs.Ends.{ShowsEnd}
use Rattle.strategy.proofs.rows.leaf_answer.Goals as goal

pub returns-in-Closes-clause-shown : goal.returns-in-Closes-clause-shown
returns-in-Closes-clause-shown c = λ shapes saturated. subst (ShowsEnd shapes c.end_of.new.pool (branch_in c.args.pool.now c.args.branch.now)) c.in-Closes.is (c.in_ok-end-in-Infeasible.ensures.shown shapes)

pub returns-in-Infeasible-clause-shown : goal.returns-in-Infeasible-clause-shown
returns-in-Infeasible-clause-shown c = λ shapes saturated. subst (ShowsEnd shapes c.end_of.new.pool (branch_in c.args.pool.now c.args.branch.now)) c.in-TooLong.is (c.in_ok-end-in-Infeasible.ensures.shown shapes)
