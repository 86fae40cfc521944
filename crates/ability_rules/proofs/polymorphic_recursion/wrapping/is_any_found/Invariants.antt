use Rattle.std.proofs.Common.{◌+◌, ◌<◌, ℕ, false, IsTrue}
use Rattle.std.specs.Prelude.{slice_index_or}
use Rattle.ability_rules.proofs.polymorphic_recursion.wrapping.is_any_found.Given as goal

abbrev pub invariant-loop-number : goal.invariant-loop-number
invariant-loop-number l = (k : ℕ) → k < l.number → IsTrue (slice_index_or l.found (l.row.first + k) false) → ⊥
