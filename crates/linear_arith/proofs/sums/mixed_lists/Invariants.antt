use Rattle.std.proofs.Common.{◌≡◌, ◌≤◌, ◌<◌, ◌+◌, ◌-◌, ℕ, length, pos, ◌+ℤ◌, ◌*ℤ◌}
use Rattle.linear_arith.specs.Combination.{number}
use Rattle.linear_arith.specs.Packed.{ahead}
use Rattle.linear_arith.proofs.sums.mixed_lists.Given as goal

abbrev pub invariant-loop-k : goal.invariant-loop-k
invariant-loop-k l = record {
  below : l.k ≤ l.count;
  len : length l.numbers ≡ l.k;
  made : (k : ℕ) → k < l.k → number k l.numbers ≡ (pos l.weights.first *ℤ number k l.first) +ℤ (pos l.weights.second *ℤ number k l.second);
  left : (k : ℕ) → number k (ahead l.left.zeros l.left.rest.now) ≡ number (k + l.k) l.first;
  right : (k : ℕ) → number k (ahead l.right.zeros l.right.rest.now) ≡ number (k + l.k) l.second;
}

abbrev pub decreases-loop-k : goal.decreases-loop-k
decreases-loop-k l = l.count - l.k
