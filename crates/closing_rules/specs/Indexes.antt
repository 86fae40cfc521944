-- One entry for each class of formulas.
use Rattle.std.specs.Prelude.{◌≡◌, ℕ, ◌<◌, slice_get, Option, Some}
use Rattle.tableau.specs.PoolBranches.{BranchData}
use Rattle.tableau.specs.declared.entry.PoolEntry.{PoolEntry}
use Rattle.congruence_closure.specs.Known.{BranchClassesData, IsKnown, class_of}

-- the classes of the formulas of the entries are known
pub record AreKnownEntries (d : BranchData) (c : BranchClassesData) : Type 0 where
  pub each : (i : ℕ) (e : PoolEntry) → slice_get d.entries i ≡ Some e → IsKnown c e.formula

-- the formula of the entry is in the class
pub record IsOfClass (d : BranchData) (c : BranchClassesData) (class i : ℕ) : Type 0 where
  pub entry : PoolEntry
  pub found : slice_get d.entries i ≡ Some entry
  pub is : class_of c entry.formula ≡ class

pub record HasEntry (find : ℕ → Option ℕ) (class : ℕ) : Type 0 where
  pub entry : ℕ
  pub found : find class ≡ Some entry

-- each entry found is in its class, and one is found for the class of each of the first entries
pub record AreEntriesBefore (d : BranchData) (c : BranchClassesData) (count : ℕ) (find : ℕ → Option ℕ) : Type 0 where
  pub right : (class i : ℕ) → find class ≡ Some i → IsOfClass d c class i
  pub all : (i : ℕ) (e : PoolEntry) → i < count → slice_get d.entries i ≡ Some e → HasEntry find (class_of c e.formula)

-- one is found for the class of each entry
pub record AreEntriesByClass (d : BranchData) (c : BranchClassesData) (find : ℕ → Option ℕ) : Type 0 where
  pub right : (class i : ℕ) → find class ≡ Some i → IsOfClass d c class i
  pub all : (i : ℕ) (e : PoolEntry) → slice_get d.entries i ≡ Some e → HasEntry find (class_of c e.formula)
