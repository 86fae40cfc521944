-- Given eliminations, with the origin of each of their rows (A. Schrijver, Theory of Linear and Integer Programming,
-- section 12.2).
use Rattle.std.specs.Prelude.{◌≡◌, ℕ, ◌+◌, ◌<◌, ◌≤◌, max, List, [], ◌∷◌, length, map, take, pos, Some, All, Contains, slice_get, slice_index_or}
use Rattle.std.proofs.Common.{◌<ℤ◌}
use Rattle.linear_arith.specs.Inequality.{Inequality, coefficient, padded}
use Rattle.linear_arith.specs.Closure.{IsWithout}
use Rattle.linear_arith.specs.Elimination.{AreDifferent}
use Rattle.step_checks.specs.Sums.{IsReducedSum, HasReducedSum}
use Rattle.step_checks.specs.declared.elimination.Summands.{Summands}
use Rattle.step_checks.specs.declared.elimination.Origin.{Origin}
use Rattle.step_checks.specs.declared.elimination.Origin.TheVariants.{Given, Sum}
use Rattle.step_checks.specs.declared.elimination.GivenRow.{GivenRow}
use Rattle.step_checks.specs.declared.elimination.GivenElimination.{GivenElimination}

-- the rows themselves
abbrev pub rows_of : List GivenRow → List Inequality
rows_of made = map (λ (one : GivenRow). one.row) made

-- the greatest number of coefficients of a row
abbrev pub width_of : List Inequality → ℕ
width_of [] = 0
width_of (row ∷ rows) = max (length row.coefficients) (width_of rows)

-- the number of unknowns eliminated before a row was made
abbrev pub stage_of : Origin → ℕ
stage_of (Given i) = 0
stage_of (Sum of) = of.step + 1

-- the row belongs to the stage after the elimination of the first `stage` unknowns: it was made in this stage or an
-- earlier one, and has none of these unknowns
pub record IsOfStage (unknowns : List ℕ) (stage : ℕ) (made : GivenRow) : Type 0 where
  pub not_later : stage_of made.origin ≤ stage
  pub without : IsWithout (take stage unknowns) made.row

-- a row of the system, with the coefficients of the first `width` unknowns
pub record IsGivenRow (width : ℕ) (rows : List Inequality) (i : ℕ) (row : Inequality) : Type 0 where
  pub given : Inequality
  pub at : slice_get rows i ≡ Some given
  pub same : row ≡ padded width given

-- the sum of two rows of one stage that eliminates the next unknown
pub record IsSumOfTwo (unknowns : List ℕ) (before : List GivenRow) (of : Summands) (row : Inequality) : Type 0 where
  pub unknown : ℕ
  pub upper : GivenRow
  pub lower : GivenRow
  pub unknown_at : slice_get unknowns of.step ≡ Some unknown
  pub upper_at : slice_get before of.upper ≡ Some upper
  pub lower_at : slice_get before of.lower ≡ Some lower
  pub upper_of_stage : IsOfStage unknowns of.step upper
  pub lower_of_stage : IsOfStage unknowns of.step lower
  pub is_sum : IsReducedSum unknown upper.row lower.row row

-- the row is what its origin says
abbrev pub IsOfOrigin : ℕ → List Inequality → List ℕ → List GivenRow → Origin → Inequality → Type 0
IsOfOrigin width rows unknowns before (Given i) row = IsGivenRow width rows i row
IsOfOrigin width rows unknowns before (Sum of) row = IsSumOfTwo unknowns before of row

-- each row is what its origin says, by the rows before it
abbrev pub AreOfOrigins : ℕ → List Inequality → List ℕ → List GivenRow → Type 0
AreOfOrigins width rows unknowns made = (k : ℕ) (d : GivenRow) → k < length made → IsOfOrigin width rows unknowns (take k made) (slice_index_or made k d).origin (slice_index_or made k d).row

-- any two rows without the eliminated unknowns, in which the next unknown has a positive coefficient in one and a
-- negative one in the other, have their sum among the rows
pub record HasStageSums (found : List Inequality) (eliminated : List ℕ) (unknown : ℕ) : Type 0 where
  pub sums : (upper lower : Inequality) → Contains found upper → Contains found lower → IsWithout eliminated upper → IsWithout eliminated lower → pos 0 <ℤ coefficient unknown upper → coefficient unknown lower <ℤ pos 0 → HasReducedSum found unknown upper lower

-- the same at each stage
abbrev pub HasEachSum : List Inequality → List ℕ → Type 0
HasEachSum found unknowns = (step d : ℕ) → step < length unknowns → HasStageSums found (take step unknowns) (slice_index_or unknowns step d)

-- if the row has none of the unknowns, no unknown is left in it
abbrev pub HasNoneLeft : List ℕ → Inequality → Type 0
HasNoneLeft unknowns row = IsWithout unknowns row → (unknown : ℕ) → coefficient unknown row ≡ pos 0

abbrev pub NoUnknownIsLeft : List Inequality → List ℕ → Type 0
NoUnknownIsLeft found unknowns = (row : Inequality) → Contains found row → HasNoneLeft unknowns row

-- the given elimination of the rows is complete, with fewer than 5,000 distinct rows: each is what its origin says, and
-- all given rows and all sums are among them
pub record IsGivenElimination (rows : List Inequality) (given : GivenElimination) : Type 0 where
  pub of_origins : AreOfOrigins (width_of rows) rows given.unknowns.items given.rows.items
  pub different : AreDifferent (rows_of given.rows.items)
  pub begins : All (λ row. Contains (rows_of given.rows.items) (padded (width_of rows) row)) rows
  pub has_sums : HasEachSum (rows_of given.rows.items) given.unknowns.items
  pub below_limit : length given.rows.items < 5000
  pub no_unknown_left : NoUnknownIsLeft (rows_of given.rows.items) given.unknowns.items
