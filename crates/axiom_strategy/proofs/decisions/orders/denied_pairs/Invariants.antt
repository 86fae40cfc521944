use Rattle.tableau.specs.PoolBranches.{branch_in}
use Rattle.axiom_strategy.proofs.OrderLemmas.{ArePairsBefore}
use Rattle.axiom_strategy.proofs.decisions.orders.denied_pairs.Given as goal

abbrev pub invariant-loop-i : goal.invariant-loop-i
invariant-loop-i l = ArePairsBefore l.pool (branch_in l.pool l.branch) l.i l.pairs.items
