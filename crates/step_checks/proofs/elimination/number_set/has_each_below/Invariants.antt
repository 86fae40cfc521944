use Rattle.std.proofs.Common.{◌<◌, ℕ, List}
use Rattle.std.specs.Prelude.{Contains}
use Rattle.step_checks.specs.Sets.{IsNumberSet}
use Rattle.step_checks.proofs.elimination.number_set.has_each_below.Given as goal

abbrev pub invariant-loop-number : goal.invariant-loop-number
invariant-loop-number l = (numbers : List ℕ) → IsNumberSet numbers l.set → (n : ℕ) → n < l.number-counter → Contains numbers n
