-- Two constraints of an elimination whose sum is not in 128 bits.
use Rattle.std.specs.Prelude.{◌≡◌, ◌≢◌, ℕ, List, [], ◌∷◌, ◌++◌, Contains, pos}
use Rattle.std.proofs.Common.{ℤ, ◌<ℤ◌}
use Rattle.linear_arith.specs.Inequality.{Inequality, coefficient}
use Rattle.linear_arith.specs.Closure.{IsElimination}
use Rattle.linear_arith.specs.Combination.{combination, CombinesWithin}
use Rattle.linear_arith.specs.Elimination.{Cancels, MixLeaves, IsLeastMix, IsRowOfStage}
use Rattle.linear_arith.specs.declared.rows.Fraction.{Fraction}
use Rattle.linear_arith.specs.Rest.{IsRest, IsValueRow, PutInLeaves}
use Rattle.linear_arith.specs.Values.{IsChoosing}

-- a number is not in 128 bits when x times the first multipliers and y times the second are added, or when the given
-- constraints are added, in their order, with the least integers in the ratio of these sums
pub data SumLeaves (width : ℕ) (rows : List Inequality) (x y : ℕ) (first second : List ℤ) : Type 0 where
  multiplier : MixLeaves x y first second → SumLeaves width rows x y first second
  number : (ms : List ℤ) → IsLeastMix x y first second ms → ¬ (CombinesWithin width ms rows) → SumLeaves width rows x y first second

-- two constraints that an elimination with fewer than 5,000 constraints has found, of its current stage, in which the
-- next unknown has a coefficient above 0 and one below, and whose sum with the least multipliers that cancel it is not
-- in 128 bits
pub record IsWideSum (rows : List Inequality) (first second : Inequality) : Type 0 where
  pub width : ℕ
  pub unknowns : List ℕ
  pub unknown : ℕ
  pub found : List Inequality
  pub elimination : IsElimination width rows unknowns (unknowns ++ unknown ∷ []) found
  pub first_found : Contains found first
  pub second_found : Contains found second
  pub upper : List ℤ
  pub lower : List ℤ
  pub first_of_stage : IsRowOfStage width rows unknowns first upper
  pub second_of_stage : IsRowOfStage width rows unknowns second lower
  pub above : pos 0 <ℤ coefficient unknown (combination width upper rows)
  pub below : coefficient unknown (combination width lower rows) <ℤ pos 0
  pub x : ℕ
  pub y : ℕ
  pub cancels : Cancels (coefficient unknown (combination width upper rows)) (coefficient unknown (combination width lower rows)) x y
  pub leaves : SumLeaves width rows x y upper lower

-- a constraint of a complete elimination after the substitution of the first of the values chosen so far, and the next
-- value as a constraint, where its unknown is left in the constraint, and their sum is not in 128 bits
pub record IsWideValue (rows : List Inequality) (first second : Inequality) : Type 0 where
  pub values : List Fraction
  pub choosing : IsChoosing rows values
  pub row : Inequality
  pub is_found : Contains choosing.complete.found row
  pub earlier : List Fraction
  pub value : Fraction
  pub later : List Fraction
  pub parts : earlier ++ value ∷ later ≡ values
  pub is_rest : IsRest row earlier first
  pub stands : coefficient value.unknown first ≢ pos 0
  pub is_value_row : IsValueRow value second
  pub leaves : PutInLeaves first value

-- two constraints of an elimination whose sum is not in 128 bits
pub data IsWide (rows : List Inequality) (first second : Inequality) : Type 0 where
  sum : IsWideSum rows first second → IsWide rows first second
  value : IsWideValue rows first second → IsWide rows first second
