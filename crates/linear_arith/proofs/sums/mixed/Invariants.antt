use Rattle.std.proofs.Common.{◌≡◌, ◌<◌, ℕ, pos, ◌+ℤ◌, ◌*ℤ◌, vec_len}
use Rattle.linear_arith.specs.Combination.{number}
use Rattle.linear_arith.proofs.sums.mixed.Given as goal

abbrev pub invariant-loop-k : goal.invariant-loop-k
invariant-loop-k l = record {
  len : vec_len l.numbers ≡ l.k;
  made : (k : ℕ) → k < l.k → number k l.numbers.items ≡ (pos l.weights.first *ℤ number k l.first) +ℤ (pos l.weights.second *ℤ number k l.second);
}
