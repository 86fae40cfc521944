-- Indexes, in an explanation, of the entries of rows.
use Rattle.std.specs.Prelude.{◌≡◌, ℕ, ◌<◌, List, Option, Some}
use Rattle.row_reasoning.specs.Cited.{position_at}

-- each index is below the limit
pub record AreBelow (limit : ℕ) (positions : List (Option ℕ)) : Type 0 where
  pub below : (entry position : ℕ) → position_at positions entry ≡ Some position → position < limit
