use Rattle.std.proofs.Common.{◌+◌, ◌<◌, ◌≤◌, ℕ}
use Rattle.unification.specs.Ranked.{rank_at}
use Rattle.unification.proofs.walk.ranked_parts.Given as goal

abbrev pub invariant-loop-i : goal.invariant-loop-i
invariant-loop-i l = (j : ℕ) → l.known ≤ j → j < l.i → 0 < rank_at l.ranks (l.parts.first + j)
