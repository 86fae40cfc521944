use Rattle.tableau.specs.PoolBranches.{branch_in}
use Rattle.axiom_strategy.proofs.NumberLemmas.{AreMarkedBefore}
use Rattle.axiom_strategy.proofs.decisions.numbers.number_marks.Given as goal

abbrev pub invariant-loop-i : goal.invariant-loop-i
invariant-loop-i l = AreMarkedBefore l.pool (branch_in l.pool l.branch) l.i l.marks.items
