-- Sets of rows and of unknowns.
use Rattle.std.specs.Prelude.{◌↔◌, ℕ, List, Contains, IsTrue}
use Rattle.std.specs.BTreeSet.{BTreeSet, contains}
use Rattle.std.specs.Ordering.{nat_cmp}
use Rattle.linear_arith.specs.Inequality.{Inequality}
use Rattle.linear_arith.specs.Stages.{HasKey}
use Rattle.step_checks.specs.declared.elimination.row_set.RowSet.{RowSet}

-- the set contains exactly these rows
pub record IsSetOf (rows : List Inequality) (set : RowSet) : Type 0 where
  pub has : (row : Inequality) → Contains rows row → HasKey set.keys row
  pub only : (row : Inequality) → HasKey set.keys row → Contains rows row

-- the set contains exactly these numbers
pub record IsNumberSet (numbers : List ℕ) (set : BTreeSet ℕ) : Type 0 where
  pub has : (n : ℕ) → IsTrue (contains nat_cmp set n) ↔ Contains numbers n
