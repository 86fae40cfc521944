-- Combinations of the rows of a branch as combinations of formulas: the entries of the rows, with one term for each
-- class.
use Rattle.std.specs.Prelude.{◌≡◌, ℕ, ◌<◌, ◌^◌, ℤ, pos, List, [], ◌∷◌, slice_get, slice_index_or, Option, Some, None}
use Rattle.fol.specs.FormulaData.{TermData, FormulaData}
use Rattle.certificates.specs.declared.certificate.Multiple.{Multiple}
use Rattle.certificates.specs.Rows.{over, comparison_with}
use Rattle.row_reasoning.specs.Sums.{signed}
use Rattle.row_reasoning.specs.declared.rows.RowOrigin.{RowOrigin}
use Rattle.row_reasoning.specs.Chosen.{with_chosen}

-- the formula with this index is the entry of the row, with the chosen term for each class that it has over classes
pub record StandsChosen (class : TermData → ℕ) (chosen : ℕ → TermData) (ps qs : List FormulaData) (origin : RowOrigin) (position : ℕ) : Type 0 where
  pub formula : FormulaData
  pub found : slice_get ps origin.entry ≡ Some formula
  pub stands : slice_get qs position ≡ Some (comparison_with (with_chosen chosen) (comparison_with (over class) formula))

-- the multiples of the formulas are those of the rows: the second row of an equation is the equation with the opposite
-- sign. A row with the multiplier 0 needs no formula
pub data AreCited (class : TermData → ℕ) (chosen : ℕ → TermData) (ps qs : List FormulaData) : List RowOrigin → List ℤ → List Multiple → Type 0 where
  NoneCited : AreCited class chosen ps qs [] [] []
  NotCited : (origin : RowOrigin) (origins : List RowOrigin) (ms : List ℤ) (cited : List Multiple) → AreCited class chosen ps qs origins ms cited → AreCited class chosen ps qs (origin ∷ origins) (pos 0 ∷ ms) cited
  OneCited : (origin : RowOrigin) (origins : List RowOrigin) (m : ℤ) (ms : List ℤ) (position : ℕ) (cited : List Multiple) → StandsChosen class chosen ps qs origin position → AreCited class chosen ps qs origins ms cited → AreCited class chosen ps qs (origin ∷ origins) (m ∷ ms) (record { entry = position; multiplier = signed origin.is_turned m } ∷ cited)

-- ---- by the indexes of the entries

-- the index of the formula for the entry with this number
abbrev pub position_at : List (Option ℕ) → ℕ → Option ℕ
position_at positions entry = slice_index_or positions entry None

-- each index fits in 32 bits
pub record ArePositionsWithin (positions : List (Option ℕ)) : Type 0 where
  pub within : (entry position : ℕ) → position_at positions entry ≡ Some position → position < 2 ^ 32

-- the entry of the row has an index, and the formula there is the entry with the chosen term for each class
pub record IsPlaced (class : TermData → ℕ) (chosen : ℕ → TermData) (ps qs : List FormulaData) (positions : List (Option ℕ)) (origin : RowOrigin) : Type 0 where
  pub position : ℕ
  pub found : position_at positions origin.entry ≡ Some position
  pub stands : StandsChosen class chosen ps qs origin position

-- the same for each row whose multiplier is not 0
pub record ArePlaced (class : TermData → ℕ) (chosen : ℕ → TermData) (ps qs : List FormulaData) (origins : List RowOrigin) (ms : List ℤ) (positions : List (Option ℕ)) : Type 0 where
  pub each : (i : ℕ) (origin : RowOrigin) (m : ℤ) → slice_get origins i ≡ Some origin → slice_get ms i ≡ Some m → (m ≡ pos 0 → ⊥) → IsPlaced class chosen ps qs positions origin
