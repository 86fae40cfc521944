-- Eliminations that have all required sums, with fewer than 5,000 different constraints in all. An elimination that
-- omits a constraint of a stage is none of them.
use Rattle.std.specs.Prelude.{◌≡◌, ℕ, ◌<◌, List, [], ◌∷◌, ◌++◌, length, pos, ◌+ℤ◌, ◌*ℤ◌, All, Contains, slice_index_or}
use Rattle.std.proofs.Common.{ℤ, ◌<ℤ◌}
use Rattle.linear_arith.specs.Inequality.{Inequality, coefficient, padded, IsWithinWidth}
use Rattle.linear_arith.specs.Elimination.{IsUnit, IsFound, AreDifferent, IsRowOfStage, IsCancellingSum}

-- none of the unknowns is in the constraint
abbrev pub IsWithout : List ℕ → Inequality → Type 0
IsWithout unknowns row = All (λ unknown. coefficient unknown row ≡ pos 0) unknowns

-- up to positive factors, the constraint is a sum of two constraints with positive multipliers, in which the unknown
-- cancels
pub record IsSumOf (unknown : ℕ) (upper lower row : Inequality) : Type 0 where
  pub factor : ℕ
  pub first : ℕ
  pub second : ℕ
  pub factor_positive : 0 < factor
  pub first_positive : 0 < first
  pub second_positive : 0 < second
  pub coefficients : (u : ℕ) → pos factor *ℤ coefficient u row ≡ (pos first *ℤ coefficient u upper) +ℤ (pos second *ℤ coefficient u lower)
  pub bound : pos factor *ℤ row.bound ≡ (pos first *ℤ upper.bound) +ℤ (pos second *ℤ lower.bound)
  pub cancels : coefficient unknown row ≡ pos 0

-- one of the found constraints is such a sum of these two
pub record HasSum (found : List Inequality) (unknown : ℕ) (upper lower : Inequality) : Type 0 where
  pub row : Inequality
  pub is_found : Contains found row
  pub is_sum : IsSumOf unknown upper lower row

-- after the elimination of `unknowns`: any two found constraints without them, in which the next unknown has a
-- coefficient above 0 and one below, have their sum among the found constraints
pub record HasSums (found : List Inequality) (unknowns : List ℕ) (unknown : ℕ) : Type 0 where
  pub sums : (upper lower : Inequality) → Contains found upper → Contains found lower → IsWithout unknowns upper → IsWithout unknowns lower → pos 0 <ℤ coefficient unknown upper → coefficient unknown lower <ℤ pos 0 → HasSum found unknown upper lower

-- the found constraints have all sums by which these unknowns are eliminated, one after another
pub data IsClosed (found : List Inequality) : List ℕ → Type 0 where
  none : IsClosed found []
  next : (unknowns : List ℕ) (unknown : ℕ) → IsClosed found unknowns → HasSums found unknowns unknown → IsClosed found (unknowns ++ unknown ∷ [])

-- an elimination with fewer than 5,000 different constraints of the stages of `unknowns`: it has the given constraints,
-- and all sums by which those of `done` are eliminated
pub record IsElimination (width : ℕ) (rows : List Inequality) (done unknowns : List ℕ) (found : List Inequality) : Type 0 where
  pub within : IsWithinWidth width rows
  pub of_stages : All (IsFound width rows unknowns) found
  pub different : AreDifferent found
  pub begins : All (λ row. Contains found (padded width row)) rows
  pub closed : IsClosed found done
  pub below_limit : length found < 5000

-- a complete elimination: a constraint without the eliminated unknowns has no unknown
pub record IsCompleteElimination (rows : List Inequality) : Type 0 where
  pub width : ℕ
  pub unknowns : List ℕ
  pub found : List Inequality
  pub elimination : IsElimination width rows unknowns unknowns found
  pub no_unknown_left : (row : Inequality) → Contains found row → IsWithout unknowns row → (unknown : ℕ) → coefficient unknown row ≡ pos 0

-- an elimination at its beginning, with the first `count` given constraints, of which fewer than 5,000 are different
pub record IsBegun (rows : List Inequality) (count : ℕ) : Type 0 where
  pub width : ℕ
  pub found : List Inequality
  pub of_stages : All (IsFound width rows []) found
  pub different : AreDifferent found
  pub begins : (i : ℕ) (row : Inequality) → i < count → Contains found (padded width (slice_index_or rows i row))
  pub below_limit : length found < 5000

-- the multipliers of a sum that is due in an elimination: of two constraints that it has found, by the next unknown
pub record IsSumDue (rows : List Inequality) (ms : List ℤ) : Type 0 where
  pub width : ℕ
  pub done : List ℕ
  pub unknown : ℕ
  pub found : List Inequality
  pub elimination : IsElimination width rows done (done ++ unknown ∷ []) found
  pub first : Inequality
  pub second : Inequality
  pub first_found : Contains found first
  pub second_found : Contains found second
  pub upper : List ℤ
  pub lower : List ℤ
  pub first_of_stage : IsRowOfStage width rows done first upper
  pub second_of_stage : IsRowOfStage width rows done second lower
  pub is_sum : IsCancellingSum width rows unknown upper lower ms

-- the multipliers of the constraint that is due in an elimination with fewer than 5,000 constraints: a given one, or a
-- sum
pub data IsDue (rows : List Inequality) (ms : List ℤ) : Type 0 where
  given : (i : ℕ) → IsUnit (length rows) i ms → IsBegun rows i → IsDue rows ms
  sum : IsSumDue rows ms → IsDue rows ms
