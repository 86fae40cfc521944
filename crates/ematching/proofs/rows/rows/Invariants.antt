use Rattle.tableau.specs.PoolBranches.{branch_in}
use Rattle.ematching.proofs.RowLemmas.{IsListing}
use Rattle.ematching.proofs.rows.rows.Given as goal

abbrev pub invariant-loop-pattern : goal.invariant-loop-pattern
invariant-loop-pattern l = IsListing l.pool (branch_in l.pool l.branch) l.bound l.list l.rest l.rows.items

abbrev pub decreases-loop-pattern : goal.decreases-loop-pattern
decreases-loop-pattern l = l.rest
