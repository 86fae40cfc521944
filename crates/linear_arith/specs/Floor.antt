-- Quotients rounded down.
use Rattle.std.specs.Prelude.{ℕ, pos, ◌+ℤ◌, ◌*ℤ◌, ◌≤ℤ◌, ◌<ℤ◌}
use Rattle.std.proofs.Common.{ℤ}

-- the greatest integer that is at most number / divisor
pub record IsFloor (number : ℤ) (divisor : ℕ) (floor : ℤ) : Type 0 where
  pub below : (pos divisor *ℤ floor) ≤ℤ number
  pub above : number <ℤ (pos divisor *ℤ (floor +ℤ pos 1))
