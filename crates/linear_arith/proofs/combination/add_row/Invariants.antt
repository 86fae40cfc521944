use Rattle.std.proofs.Common.{◌≡◌, ◌<◌, ◌≤◌, ℕ, length}
use Rattle.linear_arith.specs.Combination.{number, IsAddedTo}
use Rattle.linear_arith.proofs.combination.add_row.Given as goal

abbrev pub invariant-loop-unknown : goal.invariant-loop-unknown
invariant-loop-unknown l = record {
  len : length l.totals.items ≡ length l.fn.totals.items;
  added : (u : ℕ) → u < l.unknown → IsAddedTo l.multiplier u l.row (number u l.fn.totals.items) (number u l.totals.items);
  others : (u : ℕ) → l.unknown ≤ u → number u l.totals.items ≡ number u l.fn.totals.items;
}
