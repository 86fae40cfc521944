use Rattle.std.proofs.Common.{subst}
use Rattle.tableau.specs.PoolBranches.{branch_in}
use Rattle.search.specs.Decisions.{ShowsLeaf}
use Rattle.search.proofs.decisions.at_leaf.Goals as goal

pub returns-in-TooLong-clause-decided : goal.returns-in-TooLong-clause-decided
returns-in-TooLong-clause-decided g c = subst (ShowsLeaf (g.D.Deciders.shapes c.args.deciders.now) c.leaf.new.pool (branch_in c.args.pool.now c.args.branch.now)) c.in-TooLong.is c.in_ok-values.ensures.shown
