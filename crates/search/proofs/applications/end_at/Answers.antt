use Rattle.std.proofs.Common.{subst}
use Rattle.tableau.specs.PoolBranches.{branch_in}
use Rattle.search.specs.Decisions.{ShowsStop}
use Rattle.search.proofs.applications.end_at.Goals as goal

pub returns-in-Full : goal.returns-in-Full
returns-in-Full c = λ shapes claim left ns t going shown. record {
  spent = going.spent;
  sum = going.sum;
  tree = going.tree;
  shown = subst (ShowsStop shapes ns (branch_in ns t.branch)) c.in-Full.is shown;
}
