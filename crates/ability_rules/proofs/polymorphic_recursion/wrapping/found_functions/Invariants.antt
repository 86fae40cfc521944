use Rattle.std.proofs.Common.{◌≡◌, ◌<◌, ℕ, false, length}
use Rattle.std.specs.Prelude.{slice_index_or}
use Rattle.ability_rules.specs.Rows.{FoundAt}
use Rattle.ability_rules.proofs.polymorphic_recursion.wrapping.found_functions.Given as goal

abbrev pub invariant-loop-number : goal.invariant-loop-number
invariant-loop-number l =
    (length l.known.items ≡ l.number)
    × ((n : ℕ) → n < l.number → FoundAt l.all l.found n (slice_index_or l.known.items n false))
