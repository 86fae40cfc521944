-- Sets of 64 locals.
use Rattle.std.specs.Prelude.{ℕ, Bool, eqb}
use Rattle.std.specs.Int.{bit_at}
use Rattle.definite_assignment.specs.declared.sets.LocalSet.{LocalSet}

-- whether the local with this position is in the set
unfoldable pub has : LocalSet → ℕ → Bool
has s i = eqb (bit_at s.bits i) 1
