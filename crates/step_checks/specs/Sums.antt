-- The sum of two rows that cancels an unknown.
use Rattle.std.specs.Prelude.{◌≡◌, ℕ, ◌<◌, List, length, pos, ◌+ℤ◌, ◌*ℤ◌, Contains}
use Rattle.std.proofs.Common.{ℤ, ◌<ℤ◌}
use Rattle.linear_arith.specs.Inequality.{Inequality, coefficient}
use Rattle.linear_arith.specs.Combination.{number}
use Rattle.linear_arith.specs.Elimination.{Cancels, IsMix, MixFits}
use Rattle.linear_arith.specs.Reduction.{IsReduced}

-- x times the first list and y times the second are added within 128 bits, number by number
pub record MixesWithin (x y : ℕ) (first second : List ℤ) : Type 0 where
  pub within : (k : ℕ) → k < length first → MixFits x y (number k first) (number k second)

-- a row in which an unknown has a positive coefficient and one in which it has a negative one, added with the least
-- multipliers that cancel it, and divided by the greatest common divisor of the sum's numbers; no intermediate number
-- overflows 128 bits
pub record IsReducedSum (unknown : ℕ) (upper lower row : Inequality) : Type 0 where
  pub above : pos 0 <ℤ coefficient unknown upper
  pub below : coefficient unknown lower <ℤ pos 0
  pub x : ℕ
  pub y : ℕ
  pub cancels : Cancels (coefficient unknown upper) (coefficient unknown lower) x y
  pub sum : Inequality
  pub coefficients : IsMix x y upper.coefficients lower.coefficients sum.coefficients
  pub bound : sum.bound ≡ (pos x *ℤ upper.bound) +ℤ (pos y *ℤ lower.bound)
  pub coefficients_within : MixesWithin x y upper.coefficients lower.coefficients
  pub bound_within : MixFits x y upper.bound lower.bound
  pub is_reduced : IsReduced sum row

-- one of the rows is the sum of these two
pub record HasReducedSum (found : List Inequality) (unknown : ℕ) (upper lower : Inequality) : Type 0 where
  pub row : Inequality
  pub is_found : Contains found row
  pub is_sum : IsReducedSum unknown upper lower row
