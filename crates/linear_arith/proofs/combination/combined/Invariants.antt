use Rattle.std.proofs.Common.{◌≡◌, ◌≤◌, ◌+◌, ◌-◌, ℕ, length}
use Rattle.linear_arith.specs.Combination.{number}
use Rattle.linear_arith.specs.Packed.{ahead}
use Rattle.linear_arith.proofs.CombinedLemmas.{HasCombined}
use Rattle.linear_arith.proofs.combination.combined.Given as goal

abbrev pub invariant-loop-walk : goal.invariant-loop-walk
invariant-loop-walk l = record {
  below : l.i ≤ length l.rows;
  rest : (k : ℕ) → number k (ahead l.walk.zeros l.walk.rest.now) ≡ number (k + l.i) l.multipliers;
  made : HasCombined l.width l.multipliers l.rows l.i l.totals.items l.bound;
}

abbrev pub decreases-loop-walk : goal.decreases-loop-walk
decreases-loop-walk l = length l.rows - l.i
