use Rattle.tableau.specs.PoolBranches.{branch_in}
use Rattle.ematching.specs.Listed.{AreThose}
use Rattle.tableau.specs.Terms.{IsBranchTerm}
use Rattle.ematching.proofs.ListedLemmas.{IsFirst}
use Rattle.ematching.proofs.rows.held_with_head.Given as goal

abbrev pub invariant-loop-number : goal.invariant-loop-number
invariant-loop-number l = AreThose (IsFirst (IsBranchTerm l.pool (branch_in l.pool l.branch)) l.number-items l.number-index) l.numbers.items
