use Rattle.tableau.specs.PoolBranches.{branch_in}
use Rattle.closing_rules.specs.Literal.{IsNotLiteralBefore}
use Rattle.closing_rules.proofs.clashes.literal.next_literal.Given as goal

abbrev pub invariant-loop-i : goal.invariant-loop-i
invariant-loop-i l = IsNotLiteralBefore (branch_in l.pool l.branch) l.i
