-- Logs of the values of numbers, one change after another.
use Rattle.std.specs.Prelude.{◌≡◌, ℕ, ◌<◌, ◌≤◌, List, [], ◌∷◌, length, take, slice_get, slice_index_or, Option, Some, None, cond, nat_eq}
use Rattle.tableau.specs.declared.log.Change.{Change}

-- the value of a number after these changes, if it had this one before
abbrev pub value_after : Option ℕ → List Change → ℕ → Option ℕ
value_after v [] n = v
value_after v (c ∷ cs) n = value_after (cond (nat_eq c.number n) (Some c.value) v) cs n

-- the last value of a number
abbrev pub value_in : List Change → ℕ → Option ℕ
value_in cs n = value_after None cs n

-- the change that gives a number a value after these changes
abbrev pub change_of : List Change → ℕ → ℕ → Change
change_of cs n v = record { number = n; value = v; before = value_in cs n }

-- the value of each number is at its index, and each change has the value before it
pub record IsIndexed (cs : List Change) (vs : List (Option ℕ)) : Type 0 where
  pub values : (n : ℕ) → slice_index_or vs n None ≡ value_in cs n
  pub within : (k : ℕ) (c : Change) → slice_get cs k ≡ Some c → c.number < length vs
  pub before : (k : ℕ) (c : Change) → slice_get cs k ≡ Some c → c.before ≡ value_in (take k cs) c.number

-- indices without a value were added
pub record IsWider (vs ws : List (Option ℕ)) : Type 0 where
  pub longer : length vs ≤ length ws
  pub same : (n : ℕ) → slice_index_or ws n None ≡ slice_index_or vs n None
