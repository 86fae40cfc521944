-- Constraints divided by the greatest common divisor of their numbers.
use Rattle.std.specs.Prelude.{◌≡◌, ℕ, ◌<◌, pos, ◌*ℤ◌, unsigned_abs, length, All}
use Rattle.std.specs.Int.{◌∣◌}
use Rattle.linear_arith.specs.Inequality.{Inequality, coefficient}

-- d divides each number of the constraint
pub record DividesRow (d : ℕ) (row : Inequality) : Type 0 where
  pub coefficients : All (λ c. d ∣ unsigned_abs c) row.coefficients
  pub bound : d ∣ unsigned_abs row.bound

-- the greatest common divisor of the constraint's numbers
pub record IsGcdOfRow (row : Inequality) (g : ℕ) : Type 0 where
  pub divides : DividesRow g row
  pub greatest : (d : ℕ) → DividesRow d row → d ∣ g

-- the constraint is k times the other, number by number
pub record IsTimes (k : ℕ) (other row : Inequality) : Type 0 where
  pub same_unknowns : length other.coefficients ≡ length row.coefficients
  pub coefficients : (unknown : ℕ) → pos k *ℤ coefficient unknown other ≡ coefficient unknown row
  pub bound : pos k *ℤ other.bound ≡ row.bound

-- the constraint divided by the greatest common divisor of its numbers; a constraint of zeros is unchanged
pub record IsReduced (row reduced : Inequality) : Type 0 where
  pub divisor : ℕ
  pub is_gcd : IsGcdOfRow row divisor
  pub quotient : 0 < divisor → IsTimes divisor reduced row
  pub zeros : divisor ≡ 0 → reduced ≡ row
