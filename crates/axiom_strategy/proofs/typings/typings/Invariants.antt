use Rattle.tableau.specs.PoolBranches.{branch_in}
use Rattle.axiom_strategy.specs.Typings.{AreTypings}
use Rattle.axiom_strategy.proofs.typings.typings.Given as goal

abbrev pub invariant-loop-i : goal.invariant-loop-i
invariant-loop-i l = AreTypings l.pool (branch_in l.pool l.branch) l.i l.typings.items
