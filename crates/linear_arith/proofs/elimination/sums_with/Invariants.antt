use Rattle.std.proofs.Common.{◌≡◌, ℕ, ◌+◌, ◌<◌, ◌≤◌, get_or, pos}
use Rattle.linear_arith.specs.Inequality.{coefficient}
use Rattle.linear_arith.specs.Stages.{IsLeft}
use Rattle.linear_arith.specs.declared.elimination.Derived.{Derived}
use Rattle.linear_arith.proofs.elimination.sums_with.Given as goal

abbrev pub invariant-loop-made : goal.invariant-loop-made
invariant-loop-made l = record {
  counted : l.upper + l.lower ≤ l.made-index;
  left : 0 < l.upper + l.lower → IsLeft l.live l.unknown;
  none : l.upper + l.lower ≡ 0 → (k : ℕ) (d : Derived) → k < l.made-index → coefficient l.unknown (get_or l.live k d).row ≡ pos 0;
}
