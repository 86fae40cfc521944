-- Sets of pairs of numbers.
use Rattle.std.specs.Prelude.{◌≡◌, ◌⊎◌, ℕ, List, Contains}

-- the set with one more pair, which may have been in it
pub record AreMore (old new : List (ℕ × ℕ)) (pair : ℕ × ℕ) : Type 0 where
  pub kept : (p : ℕ × ℕ) → Contains old p → Contains new p
  pub has : Contains new pair
  pub only : (p : ℕ × ℕ) → Contains new p → Contains old p ⊎ (p ≡ pair)
