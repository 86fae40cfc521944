-- Constraints after the substitution of values, one after another. A value p/q of an unknown is substituted by adding
-- to the constraint a multiple of the equation `q * unknown = p`: the result is the sum of both that cancels the
-- unknown, with the least multipliers, divided by the greatest common divisor of its numbers.
use Rattle.std.specs.Prelude.{◌≡◌, ◌≢◌, ℕ, List, [], ◌∷◌, ◌++◌, pos, ◌-ℤ◌, ◌*ℤ◌, if◌then◌else◌, ◌==◌, unsigned_abs}
use Rattle.std.specs.Int.{IsGcd}
use Rattle.std.proofs.Common.{ℤ}
use Rattle.linear_arith.specs.Fits.{Fits}
use Rattle.linear_arith.specs.Inequality.{Inequality, coefficient}
use Rattle.linear_arith.specs.Reduction.{IsReduced}
use Rattle.linear_arith.specs.declared.rows.Fraction.{Fraction}

-- the denominator and the constraint's coefficient, divided by their greatest common divisor
pub record AreWeights (row : Inequality) (value : Fraction) (factor weight : ℤ) : Type 0 where
  pub divisor : ℕ
  pub is_gcd : IsGcd (unsigned_abs (coefficient value.unknown row)) (unsigned_abs value.denominator) divisor
  pub is_factor : pos divisor *ℤ factor ≡ value.denominator
  pub is_weight : pos divisor *ℤ weight ≡ coefficient value.unknown row

-- the sum is `factor * row - weight * equation`, in which the unknown cancels
pub record IsSumWith (row : Inequality) (value : Fraction) (factor weight : ℤ) (sum : Inequality) : Type 0 where
  pub coefficients : (unknown : ℕ) → coefficient unknown sum ≡ (if unknown == value.unknown then pos 0 else (factor *ℤ coefficient unknown row))
  pub bound : sum.bound ≡ (factor *ℤ row.bound) -ℤ (weight *ℤ value.numerator)

-- the difference of two products fits, as do the products
pub record DifferenceWithin (factor bound weight numerator : ℤ) : Type 0 where
  pub left : Fits (factor *ℤ bound)
  pub right : Fits (weight *ℤ numerator)
  pub difference : Fits ((factor *ℤ bound) -ℤ (weight *ℤ numerator))

-- the numbers of that sum fit, as do the intermediate ones
pub record PutInWithin (factor weight : ℤ) (row : Inequality) (value : Fraction) : Type 0 where
  pub coefficients : (unknown : ℕ) → unknown ≢ value.unknown → Fits (factor *ℤ coefficient unknown row)
  pub bound : DifferenceWithin factor row.bound weight value.numerator

-- some coefficient of another unknown, times a factor, does not fit
pub record ScaledLeaves (factor : ℤ) (unknown : ℕ) (row : Inequality) : Type 0 where
  pub other : ℕ
  pub is_other : other ≢ unknown
  pub leaves : ¬ (Fits (factor *ℤ coefficient other row))

-- the constraint after the substitution of the value
pub record IsPut (row : Inequality) (value : Fraction) (made : Inequality) : Type 0 where
  pub factor : ℤ
  pub weight : ℤ
  pub are_weights : AreWeights row value factor weight
  pub sum : Inequality
  pub is_sum : IsSumWith row value factor weight sum
  pub within : PutInWithin factor weight row value
  pub is_reduced : IsReduced sum made

-- in the substitution of the value, some number is not in 128 bits
pub record PutInLeaves (row : Inequality) (value : Fraction) : Type 0 where
  pub factor : ℤ
  pub weight : ℤ
  pub are_weights : AreWeights row value factor weight
  pub leaves : ¬ (PutInWithin factor weight row value)

-- the constraint after the substitution of the values, in their order
pub data IsRest (row : Inequality) : List Fraction → Inequality → Type 0 where
  none : IsRest row [] row
  absent : (values : List Fraction) (value : Fraction) (left : Inequality) → IsRest row values left → coefficient value.unknown left ≡ pos 0 → IsRest row (values ++ value ∷ []) left
  put : (values : List Fraction) (value : Fraction) (left made : Inequality) → IsRest row values left → coefficient value.unknown left ≢ pos 0 → IsPut left value made → IsRest row (values ++ value ∷ []) made

-- a value p/q of an unknown as the constraint `q * unknown <= p`
pub record IsValueRow (value : Fraction) (row : Inequality) : Type 0 where
  pub itself : coefficient value.unknown row ≡ value.denominator
  pub others : (unknown : ℕ) → unknown ≢ value.unknown → coefficient unknown row ≡ pos 0
  pub bound : row.bound ≡ value.numerator
