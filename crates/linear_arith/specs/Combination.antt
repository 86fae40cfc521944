-- Linear combinations: the sum of the constraints times their multipliers, in the order of the constraints. By Farkas'
-- lemma constraints have no solution in fractions exactly where some combination with multipliers of at least 0 is a
-- contradiction (A. Schrijver, Theory of Linear and Integer Programming, section 7.3).
use Rattle.std.specs.Prelude.{◌≡◌, ℕ, ◌<◌, List, map, [], ◌∷◌, length, pos, ◌+ℤ◌, ◌*ℤ◌, ◌≤ℤ◌, All, slice_index_or}
use Rattle.std.specs.List.{range_with_len}
use Rattle.std.proofs.Common.{ℤ, ◌<ℤ◌}
use Rattle.linear_arith.specs.Fits.{Fits}
use Rattle.linear_arith.specs.Inequality.{Inequality, coefficient}

-- the sum of multipliers times a number of each constraint
abbrev pub weighted_sum : (Inequality → ℤ) → List ℤ → List Inequality → ℤ
weighted_sum part [] rows = pos 0
weighted_sum part (m ∷ ms) [] = pos 0
weighted_sum part (m ∷ ms) (row ∷ rows) = (m *ℤ part row) +ℤ weighted_sum part ms rows

-- a product that is added to the total, and the sum, are in 128 bits
abbrev pub IsAdded : ℤ → ℤ → Type 0
IsAdded total product = Fits product × Fits (total +ℤ product)

-- when these products are added to `total` one after another, each product and each sum is in 128 bits
abbrev pub StaysWithin : (Inequality → ℤ) → ℤ → List ℤ → List Inequality → Type 0
StaysWithin part total [] rows = Unit {0}
StaysWithin part total (m ∷ ms) [] = Unit {0}
StaysWithin part total (m ∷ ms) (row ∷ rows) =
    IsAdded total (m *ℤ part row) × StaysWithin part (total +ℤ (m *ℤ part row)) ms rows

-- the bound of a constraint
abbrev pub bound_of : Inequality → ℤ
bound_of row = row.bound

-- the combination of constraints by multipliers, with the coefficients of the first `width` unknowns
abbrev pub combination : ℕ → List ℤ → List Inequality → Inequality
combination width ms rows = record {
  coefficients = map (λ unknown. weighted_sum (coefficient unknown) ms rows) (range_with_len 0 width);
  bound = weighted_sum bound_of ms rows;
}

-- each of its numbers is computed in 128 bits
pub record CombinesWithin (width : ℕ) (ms : List ℤ) (rows : List Inequality) : Type 0 where
  pub coefficients : (unknown : ℕ) → unknown < width → StaysWithin (coefficient unknown) (pos 0) ms rows
  pub bound : StaysWithin bound_of (pos 0) ms rows

-- multipliers that combine the constraints to a contradiction, with all intermediate numbers in 128 bits: no unknown is
-- left, and 0 is at most a negative number
pub record IsContradiction (rows : List Inequality) (multipliers : List ℤ) : Type 0 where
  pub one_each : length multipliers ≡ length rows
  pub not_negative : All (λ m. pos 0 ≤ℤ m) multipliers
  pub no_unknown_left : (unknown : ℕ) → weighted_sum (coefficient unknown) multipliers rows ≡ pos 0
  pub negative_bound : weighted_sum bound_of multipliers rows <ℤ pos 0
  pub coefficients_within : (unknown : ℕ) → StaysWithin (coefficient unknown) (pos 0) multipliers rows
  pub bounds_within : StaysWithin bound_of (pos 0) multipliers rows

-- number k of a list; a missing one is 0
abbrev pub number : ℕ → List ℤ → ℤ
number k ms = slice_index_or ms k (pos 0)

-- a total to which a multiple of a row's coefficient is added, and the new total
pub record IsAddedTo (multiplier : ℤ) (unknown : ℕ) (row : Inequality) (total more : ℤ) : Type 0 where
  pub is_added : IsAdded total (multiplier *ℤ coefficient unknown row)
  pub is_sum : more ≡ total +ℤ (multiplier *ℤ coefficient unknown row)

-- one of the new totals is not in 128 bits
pub record AddedLeaves (multiplier : ℤ) (row : Inequality) (totals : List ℤ) : Type 0 where
  pub unknown : ℕ
  pub is_within : unknown < length totals
  pub leaves : ¬ (IsAdded (number unknown totals) (multiplier *ℤ coefficient unknown row))
