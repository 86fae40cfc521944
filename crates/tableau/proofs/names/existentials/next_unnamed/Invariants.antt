use Rattle.tableau.specs.PoolBranches.{branch_in}
use Rattle.tableau.specs.Names.{NoNameBefore}
use Rattle.tableau.proofs.names.existentials.next_unnamed.Given as goal

abbrev pub invariant-loop-i : goal.invariant-loop-i
invariant-loop-i l = NoNameBefore (branch_in l.pool l.branch) l.i
