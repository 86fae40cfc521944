-- Branches over a pool: an entry has its formula by number.
use Rattle.std.specs.Prelude.{◌≡◌, ◌≢◌, ℕ, ◌<◌, ◌≤◌, List, length, map, take, slice_get, slice_index_or, Some, MatchOption}
use Rattle.fol.specs.FormulaData.{TermData, FormulaData}
use Rattle.term_pool.specs.Items.{FormulaSort, TermSort, sort_of, formula_in}
use Rattle.term_pool.specs.Pools.{item_at}
use Rattle.term_pool.specs.declared.node.Node.{Node}
use Rattle.certificates.specs.BranchesBranch.{Branch, Entry, Says, IsTerm}
use Rattle.tableau.specs.Logs.{value_in}
use Rattle.tableau.specs.Marks.{IsUnder, HasAtMost, IsClosed}
use Rattle.tableau.specs.declared.entry.PoolEntry.{PoolEntry}
use Rattle.tableau.specs.declared.log.Change.{Change}

-- the entries; the number of the first entry with a formula, by the formula's own; for each entry the number of
-- changes of generations before it; and the generations of items, by number
pub record BranchData : Type 0 where
  pub entries : List PoolEntry
  pub firsts : List Change
  pub marks : List ℕ
  pub generations : List Change

abbrev pub entry_in : List Node → PoolEntry → Entry
entry_in ns e = record { formula = formula_in (item_at ns e.formula); generation = e.generation; origin = e.origin }

-- the branch
abbrev pub branch_in : List Node → BranchData → Branch
branch_in ns d = map (entry_in ns) d.entries

-- the number of changes of generations before the entry with this number, or of all changes if there is no such entry
abbrev pub mark_at : BranchData → ℕ → ℕ
mark_at d k = slice_index_or d.marks k (length d.generations)

-- ---- numbers

-- the number of a formula of the pool
pub record IsFormulaNumber (ns : List Node) (n : ℕ) : Type 0 where
  pub within : n < length ns
  pub sort : sort_of (item_at ns n) ≡ FormulaSort

-- the number of a term of the pool
pub record IsTermNumber (ns : List Node) (n : ℕ) : Type 0 where
  pub within : n < length ns
  pub sort : sort_of (item_at ns n) ≡ TermSort

-- ---- answers

-- the first entry that is the formula
pub record IsFirstEntry (b : Branch) (p : FormulaData) (i : ℕ) : Type 0 where
  pub says : Says b i p
  pub first : (j : ℕ) → j < i → Says b j p → ⊥

-- the term does not occur on the branch outside quantifiers
pub record IsNoTerm (b : Branch) (t : TermData) : Type 0 where
  pub none : IsTerm b t → ⊥

-- ---- the invariants

-- the entry with this number is the first with the formula
pub record IsFirstAt (es : List PoolEntry) (n i : ℕ) : Type 0 where
  pub entry : PoolEntry
  pub found : slice_get es i ≡ Some entry
  pub is : entry.formula ≡ n
  pub first : (j : ℕ) (e : PoolEntry) → j < i → slice_get es j ≡ Some e → e.formula ≢ n

pub record IsNotAmong (es : List PoolEntry) (n : ℕ) : Type 0 where
  pub none : (j : ℕ) (e : PoolEntry) → slice_get es j ≡ Some e → e.formula ≢ n

pub record AreFirsts (es : List PoolEntry) (fs : List Change) : Type 0 where
  pub each : (n : ℕ) → MatchOption (value_in fs n) (IsNotAmong es n) (IsFirstAt es n)

-- an entry of this generation has the item, or it occurs in its formula outside quantifiers
pub record IsFrom (ns : List Node) (es : List PoolEntry) (n g : ℕ) : Type 0 where
  pub position : ℕ
  pub entry : PoolEntry
  pub found : slice_get es position ≡ Some entry
  pub under : IsUnder ns entry.formula n
  pub same : entry.generation ≡ g

-- the least generations of the entries that have an item
pub record AreLeast (ns : List Node) (es : List PoolEntry) (gs : List Change) : Type 0 where
  pub closed : IsClosed ns gs
  pub entries : (i : ℕ) (e : PoolEntry) → slice_get es i ≡ Some e → HasAtMost gs e.formula e.generation
  pub from : (n g : ℕ) → value_in gs n ≡ Some g → IsFrom ns es n g

-- the invariant of a branch over this pool: the data beside its entries is right for them, and for each of their
-- prefixes
pub record IsOver (ns : List Node) (d : BranchData) : Type 0 where
  pub formulas : (i : ℕ) (e : PoolEntry) → slice_get d.entries i ≡ Some e → IsFormulaNumber ns e.formula
  pub one_first : length d.firsts ≡ length d.entries
  pub one_mark : length d.marks ≡ length d.entries
  pub firsts : (k : ℕ) → k ≤ length d.entries → AreFirsts (take k d.entries) (take k d.firsts)
  pub ordered : (j k : ℕ) → j ≤ k → k ≤ length d.entries → mark_at d j ≤ mark_at d k
  pub generations : (k : ℕ) → k ≤ length d.entries → AreLeast ns (take k d.entries) (take (mark_at d k) d.generations)
