-- Values chosen after an elimination of rows. Zeros at the end of a row have no meaning: they may be there or not.
use Rattle.std.specs.Prelude.{◌≡◌, ℕ, ◌≤◌, pos, List, [], ◌∷◌, length, map, All}
use Rattle.std.specs.List.{AllZip}
use Rattle.linear_arith.specs.Inequality.{Inequality, coefficient, padded, IsWithinWidth}
use Rattle.linear_arith.specs.declared.rows.Fraction.{Fraction}
use Rattle.step_checks.specs.GivenValues.{AreGivenValues}
use Rattle.step_checks.specs.declared.elimination.GivenRow.{GivenRow}
use Rattle.step_checks.specs.declared.elimination.GivenElimination.{GivenElimination}

-- the rows have the same numbers, up to zeros at the end
pub record HaveSameNumbers (r s : Inequality) : Type 0 where
  pub coefficients : (k : ℕ) → coefficient k r ≡ coefficient k s
  pub bound : r.bound ≡ s.bound

-- the values are chosen after the elimination, which is one of rows with the numbers of these, with at most `most`
-- coefficients each
pub record AreChosenFor (most : ℕ) (rows : List Inequality) (given : GivenElimination) (values : List Fraction) : Type 0 where
  pub others : List Inequality
  pub alike : AllZip HaveSameNumbers rows others
  pub few : IsWithinWidth most others
  pub chosen : AreGivenValues others given values

-- the number of coefficients of a row of an elimination, by its first row
abbrev pub width_of_first : List GivenRow → ℕ
width_of_first [] = 0
width_of_first (one ∷ more) = length one.row.coefficients

-- the row has no unknown from `width` on
pub record IsWithin (width : ℕ) (row : Inequality) : Type 0 where
  pub none_past : (k : ℕ) → width ≤ k → coefficient k row ≡ pos 0

-- the rows with this many coefficients each, without loss of an unknown
pub record ArePadded (width : ℕ) (rows made : List Inequality) : Type 0 where
  pub within : All (IsWithin width) rows
  pub are : made ≡ map (padded width) rows
