-- The rows of one stage of an elimination, by the sign of the next unknown's coefficient.
use Rattle.std.specs.Prelude.{ℕ, List, pos, All, Contains}
use Rattle.std.proofs.Common.{◌<ℤ◌}
use Rattle.linear_arith.specs.Inequality.{Inequality, coefficient}
use Rattle.linear_arith.specs.Closure.{IsWithout}
use Rattle.step_checks.specs.Sums.{HasReducedSum}

-- a row without the eliminated unknowns in which the next one has a negative coefficient
pub record IsLower (rows : List Inequality) (eliminated : List ℕ) (unknown : ℕ) (row : Inequality) : Type 0 where
  pub is_found : Contains rows row
  pub without : IsWithout eliminated row
  pub below : coefficient unknown row <ℤ pos 0

-- exactly these rows
pub record AreLowers (rows : List Inequality) (eliminated : List ℕ) (unknown : ℕ) (lowers : List Inequality) : Type 0 where
  pub each : (row : Inequality) → Contains lowers row → IsLower rows eliminated unknown row
  pub all : (row : Inequality) → IsLower rows eliminated unknown row → Contains lowers row

-- the sums of an upper row of the stage and these rows are among the rows
abbrev pub HasUpperSums : List Inequality → List ℕ → ℕ → List Inequality → Inequality → Type 0
HasUpperSums rows eliminated unknown lowers upper = IsWithout eliminated upper → pos 0 <ℤ coefficient unknown upper → All (HasReducedSum rows unknown upper) lowers
