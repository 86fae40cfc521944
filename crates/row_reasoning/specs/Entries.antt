-- Entries as sums that are at most 0, or equal to 0.
use Rattle.std.specs.Prelude.{◌≡◌, ℕ, ℤ, pos, Bool, true, false, List, Option, Some, None}
use Rattle.fol.specs.declared.operators.Comparison.{Comparison}
use Rattle.fol.specs.declared.operators.Comparison.TheVariants.{Eq, Le}
use Rattle.fol.specs.FormulaData.{TermData, FormulaData}
use Rattle.certificates.specs.Linear.{Part, Row, row_weight}
use Rattle.certificates.specs.Unknowns.{EachUnknown}
use Rattle.certificates.specs.Rows.{over, IsKnown, IsEntryRow}
use Rattle.term_pool.specs.Items.{formula_in}
use Rattle.term_pool.specs.Pools.{item_at}
use Rattle.term_pool.specs.declared.node.Node.{Node}
use Rattle.tableau.specs.Marks.{IsUnder}
use Rattle.tableau.specs.PoolBranches.{IsTermNumber}
use Rattle.row_reasoning.specs.Sums.{Has, IsAmong, amount, IsUnknownOf}
use Rattle.row_reasoning.specs.Shapes.{term_at}
use Rattle.row_reasoning.specs.declared.sum.LinearSum.{LinearSum}
use Rattle.row_reasoning.specs.declared.comparison.Sides.{Sides}
use Rattle.row_reasoning.specs.declared.entry.EntrySum.{EntrySum}

-- the formula with this number
abbrev pub formula_at : List Node → ℕ → FormulaData
formula_at ns n = formula_in (item_at ns n)

-- ---- comparisons

abbrev pub gap_of : Bool → ℤ
gap_of false = pos 0
gap_of true = pos 1

abbrev pub row_with : TermData → TermData → Bool → Bool → Row
row_with t u is_strict is_equation = record { lesser = t; greater = u; gap = gap_of is_strict; is_equation = is_equation }

-- the row with these sides by number
abbrev pub row_in : List Node → Sides → Row
row_in ns s = row_with (term_at ns s.lesser) (term_at ns s.greater) s.is_strict s.is_equation

-- the number of a term that occurs in the item, outside quantifiers
pub record IsSide (ns : List Node) (top n : ℕ) : Type 0 where
  pub term : IsTermNumber ns n
  pub under : IsUnder ns top n

-- the row has these sides, which occur in the formula with this number
pub record HasSides (ns : List Node) (top : ℕ) (r : Option Row) (s : Sides) : Type 0 where
  pub row : r ≡ Some (row_in ns s)
  pub lesser : IsSide ns top s.lesser
  pub greater : IsSide ns top s.greater
  pub equation : s.is_equation ≡ true → s.is_strict ≡ false

abbrev pub stated_sides : Comparison → ℕ → ℕ → Sides
stated_sides Eq a b = record { lesser = a; greater = b; is_strict = false; is_equation = true }
stated_sides Le a b = record { lesser = a; greater = b; is_strict = false; is_equation = false }

abbrev pub denied_sides : Comparison → ℕ → ℕ → Option Sides
denied_sides Eq a b = None
denied_sides Le a b = Some (record { lesser = b; greater = a; is_strict = true; is_equation = false })

-- ---- rows as sums

-- the numbers of the row are those of the sum, and its unknowns have the sum's classes
pub record IsRowSum (row : Row) (s : LinearSum) : Type 0 where
  pub weights : (part : Part) → row_weight part (Some row) ≡ Some (amount s part)
  pub lesser : EachUnknown (IsUnknownOf s) row.lesser
  pub greater : EachUnknown (IsUnknownOf s) row.greater
  pub spoken : (n : ℕ) → Has s.coefficients.entries n → (ks : List ℕ) → EachUnknown (IsKnown ks) row.lesser → EachUnknown (IsKnown ks) row.greater → IsAmong ks n

-- a number of the row, or an intermediate one, overflows 128 bits
pub record LeavesRow (row : Row) : Type 0 where
  pub part : Part
  pub leaves : row_weight part (Some row) ≡ None

-- the row over classes
abbrev pub row_over : List Node → (TermData → ℕ) → Sides → Row
row_over ns class s = row_with (over class (term_at ns s.lesser)) (over class (term_at ns s.greater)) s.is_strict s.is_equation

-- the entry's row over classes has the numbers of the sum
pub record IsEntrySum (class : TermData → ℕ) (p : FormulaData) (e : EntrySum) : Type 0 where
  pub row : Row
  pub row_is : IsEntryRow class p (Some row)
  pub sum : IsRowSum row e.sum
  pub equation : row.is_equation ≡ e.is_equation
  pub no_gap : e.is_equation ≡ true → row.gap ≡ pos 0
