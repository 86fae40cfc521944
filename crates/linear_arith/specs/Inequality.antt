-- Linear constraints over integers: a sum of coefficients times unknowns is at most a bound.
use Rattle.std.specs.Prelude.{ℕ, ◌≤◌, List, pos, slice_index_or, length, map, All}
use Rattle.std.specs.List.{range_with_len}
use Rattle.std.proofs.Common.{ℤ}

-- the unknowns are numbered from 0
pub record Inequality : Type 0 where
  pub coefficients : List ℤ
  pub bound : ℤ

-- the coefficient of an unknown; a missing one is 0
abbrev pub coefficient : ℕ → Inequality → ℤ
coefficient unknown row = slice_index_or row.coefficients unknown (pos 0)

-- no constraint has an unknown from `width` on
abbrev pub IsWithinWidth : ℕ → List Inequality → Type 0
IsWithinWidth width rows = All (λ row. length row.coefficients ≤ width) rows

-- the constraint with the coefficients of the first `width` unknowns
abbrev pub padded : ℕ → Inequality → Inequality
padded width row = record { coefficients = map (λ unknown. coefficient unknown row) (range_with_len 0 width); bound = row.bound }
