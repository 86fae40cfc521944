use Rattle.std.proofs.Common.{◌≡◌, ℕ, ◌+◌, ◌&&◌, not, ltb, length}
use Rattle.typing_rules.specs.Pieces.{drops}
use Rattle.definite_assignment.specs.Sets.{has}
use Rattle.definite_assignment.proofs.rules.undroppable.Given as goal

abbrev pub invariant-loop-index : goal.invariant-loop-index
invariant-loop-index l = (i : ℕ) → has l.found i ≡ (ltb i l.index && (ltb (l.base + i) (length l.types) && not (drops l.types (l.base + i))))
