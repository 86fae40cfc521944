-- The entries with which a branch continues after a step, by number.
use Rattle.std.specs.Prelude.{◌≡◌, ℕ, ◌≤◌, Bool, true, false, List, [], ◌∷◌, ◌++◌, length, map, slice_get, Some}
use Rattle.certificates.specs.Closes.{most_entries}
use Rattle.tableau.specs.declared.entry.PoolEntry.{PoolEntry}

-- the entries of each case: all at once, or one for each branch of a fork
abbrev pub cases_by : Bool → List PoolEntry → List (List PoolEntry)
cases_by false es = es ∷ []
cases_by true es = map (λ e. e ∷ []) es

-- the entries of the case with this number come after those before, and they are not too many
pub record IsGoneOn (cases : List (List PoolEntry)) (number : ℕ) (before after : List PoolEntry) : Type 0 where
  pub added : List PoolEntry
  pub found : slice_get cases number ≡ Some added
  pub is : after ≡ before ++ added
  pub short : length after ≤ most_entries

-- there is no such case, or they would be too many
pub record IsAtEnd (cases : List (List PoolEntry)) (number : ℕ) (before : List PoolEntry) : Type 0 where
  pub none : (after : List PoolEntry) → IsGoneOn cases number before after → ⊥

-- some entries come after those before
pub record IsLonger (before after : List PoolEntry) : Type 0 where
  pub more : List PoolEntry
  pub is : after ≡ before ++ more
