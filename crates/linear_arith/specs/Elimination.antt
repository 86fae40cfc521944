-- Elimination of unknowns from a system of constraints, one after another (Fourier-Motzkin elimination: A. Schrijver,
-- Theory of Linear and Integer Programming, section 12.2). The first stage has the given constraints. The stage after
-- the elimination of an unknown has the constraints without the unknown, and the sums of two constraints with
-- multipliers that cancel the unknown. Each constraint of a stage carries multipliers of the given constraints, whose
-- combination is a positive multiple of it.
use Rattle.std.specs.Prelude.{◌≡◌, ◌≢◌, ℕ, ◌<◌, List, [], ◌∷◌, ◌++◌, length, pos, ◌+ℤ◌, ◌*ℤ◌, All}
use Rattle.std.specs.Int.{IsGcd}
use Rattle.std.specs.List.{AllPairs}
use Rattle.std.proofs.Common.{ℤ, ◌<ℤ◌}
use Rattle.linear_arith.specs.Fits.{Fits}
use Rattle.linear_arith.specs.Inequality.{Inequality, coefficient, IsWithinWidth}
use Rattle.linear_arith.specs.Combination.{number, IsAdded, combination}
use Rattle.linear_arith.specs.Reduction.{IsReduced}

-- the multipliers of given constraint i: 1 for itself, and 0 for the others
pub record IsUnit (count i : ℕ) (ms : List ℤ) : Type 0 where
  pub one_each : length ms ≡ count
  pub is_one : i < count
  pub itself : number i ms ≡ pos 1
  pub others : (k : ℕ) → k ≢ i → number k ms ≡ pos 0

-- the least positive integers x and y with which x * a and y * b cancel
pub record Cancels (a b : ℤ) (x y : ℕ) : Type 0 where
  pub first_positive : 0 < x
  pub second_positive : 0 < y
  pub cancels : (pos x *ℤ a) +ℤ (pos y *ℤ b) ≡ pos 0
  pub least : IsGcd x y 1

-- the sum of x times the first list and y times the second, number by number
pub record IsMix (x y : ℕ) (first second mixed : List ℤ) : Type 0 where
  pub one_each : length mixed ≡ length first
  pub numbers : (k : ℕ) → k < length first → number k mixed ≡ (pos x *ℤ number k first) +ℤ (pos y *ℤ number k second)

-- x times a and y times b are in 128 bits, as are the multipliers and the sum
pub record MixFits (x y : ℕ) (a b : ℤ) : Type 0 where
  pub first_multiplier : Fits (pos x)
  pub second_multiplier : Fits (pos y)
  pub product : Fits (pos x *ℤ a)
  pub added : IsAdded (pos x *ℤ a) (pos y *ℤ b)

-- some number of the sum is not in 128 bits
pub record MixLeaves (x y : ℕ) (first second : List ℤ) : Type 0 where
  pub position : ℕ
  pub is_within : position < length first
  pub leaves : ¬ (MixFits x y (number position first) (number position second))

-- multipliers as a constraint with bound 0
abbrev pub as_row : List ℤ → Inequality
as_row ms = record { coefficients = ms; bound = pos 0 }

-- the least integers in the ratio of the sum of x times the first list and y times the second
pub record IsLeastMix (x y : ℕ) (first second ms : List ℤ) : Type 0 where
  pub mixed : List ℤ
  pub is_mix : IsMix x y first second mixed
  pub is_least : IsReduced (as_row mixed) (as_row ms)

-- the sum of two constraints that cancels an unknown, by their multipliers of the given constraints
pub record IsCancellingSum (width : ℕ) (rows : List Inequality) (unknown : ℕ) (upper lower ms : List ℤ) : Type 0 where
  pub above : pos 0 <ℤ coefficient unknown (combination width upper rows)
  pub below : coefficient unknown (combination width lower rows) <ℤ pos 0
  pub x : ℕ
  pub y : ℕ
  pub cancels : Cancels (coefficient unknown (combination width upper rows)) (coefficient unknown (combination width lower rows)) x y
  pub least : IsLeastMix x y upper lower ms

-- a constraint, with its multipliers, of the stage after the elimination of these unknowns, in this order: a given
-- constraint with the coefficients of the first `width` unknowns; a constraint of the stage before without the last
-- unknown; or a sum of two constraints of the stage before that cancels it, divided by the greatest common divisor of
-- its numbers
pub data IsRowOfStage (width : ℕ) (rows : List Inequality) : List ℕ → Inequality → List ℤ → Type 0 where
  given : (i : ℕ) (row : Inequality) (ms : List ℤ) → IsUnit (length rows) i ms → row ≡ combination width ms rows → IsRowOfStage width rows [] row ms
  kept : (unknowns : List ℕ) (unknown : ℕ) (row : Inequality) (ms : List ℤ) → IsRowOfStage width rows unknowns row ms → coefficient unknown (combination width ms rows) ≡ pos 0 → IsRowOfStage width rows (unknowns ++ unknown ∷ []) row ms
  sum : (unknowns : List ℕ) (unknown : ℕ) (upper_row lower_row row : Inequality) (upper lower ms : List ℤ) → IsRowOfStage width rows unknowns upper_row upper → IsRowOfStage width rows unknowns lower_row lower → IsCancellingSum width rows unknown upper lower ms → IsReduced (combination width ms rows) row → IsRowOfStage width rows (unknowns ++ unknown ∷ []) row ms

-- a constraint of one of the stages of an elimination of these unknowns, in this order
pub record IsFound (width : ℕ) (rows : List Inequality) (unknowns : List ℕ) (row : Inequality) : Type 0 where
  pub before : List ℕ
  pub after : List ℕ
  pub parts : before ++ after ≡ unknowns
  pub multipliers : List ℤ
  pub of_stage : IsRowOfStage width rows before row multipliers

-- no constraint occurs twice
abbrev pub AreDifferent : List Inequality → Type 0
AreDifferent rows = AllPairs (λ first second. first ≢ second) rows

-- 5,000 different constraints of the stages of one elimination of the given constraints
pub record ReachesLimit (rows found : List Inequality) : Type 0 where
  pub width : ℕ
  pub within : IsWithinWidth width rows
  pub unknowns : List ℕ
  pub of_stages : All (IsFound width rows unknowns) found
  pub same_width : All (λ row. length row.coefficients ≡ width) found
  pub different : AreDifferent found
  pub count : length found ≡ 5000
