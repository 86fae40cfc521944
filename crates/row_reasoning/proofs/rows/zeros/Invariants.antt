use Rattle.std.proofs.Common.{◌≡◌, ℕ, pos, length, get_or}
use Rattle.row_reasoning.proofs.rows.zeros.Given as goal

abbrev pub invariant-loop-position : goal.invariant-loop-position
invariant-loop-position l = record {
  long : length l.numbers.items ≡ l.position;
  zero : (k : ℕ) → get_or l.numbers.items k (pos 0) ≡ pos 0;
}
