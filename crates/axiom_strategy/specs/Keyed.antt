-- Sets of numbers by key, and the contents of lists of numbers by key.
use Rattle.std.specs.Prelude.{◌≡◌, ◌↔◌, ◌⊎◌, ℕ, List, Contains}
use Rattle.base.specs.Lists.{list_in}

-- the list of each key contains exactly the numbers of that key
pub record AreListed (IsOf : ℕ → ℕ → Type 0) (lists : List (ℕ × List ℕ)) : Type 0 where
  pub each : (key n : ℕ) → Contains (list_in lists key) n ↔ IsOf key n

-- the pairs of keys and numbers of the lists
pub record ArePairsOf (lists : List (ℕ × List ℕ)) (pairs : List (ℕ × ℕ)) : Type 0 where
  pub each : (key n : ℕ) → Contains pairs (key, n) ↔ Contains (list_in lists key) n

-- the lists with one more number for a key, or with a number that the key already had
pub record HasOneMore (old new : List (ℕ × List ℕ)) (key number : ℕ) : Type 0 where
  pub each : (k n : ℕ) → Contains (list_in new k) n ↔ (Contains (list_in old k) n ⊎ ((k ≡ key) × (n ≡ number)))
