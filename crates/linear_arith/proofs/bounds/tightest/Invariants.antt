use Rattle.linear_arith.proofs.BoundLemmas.{IsBestBefore}
use Rattle.linear_arith.proofs.bounds.tightest.Given as goal

abbrev pub invariant-loop-bound : goal.invariant-loop-bound
invariant-loop-bound l = IsBestBefore l.side l.bounds l.bound-index l.best
