use Rattle.tableau.specs.PoolBranches.{branch_in}
use Rattle.closing_rules.specs.Clashes.{IsNotClosedBefore}
use Rattle.closing_rules.proofs.clashes.next.next_clash.Given as goal

abbrev pub invariant-loop-i : goal.invariant-loop-i
invariant-loop-i l = IsNotClosedBefore (branch_in l.pool l.branch) l.i
