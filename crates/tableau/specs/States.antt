-- The state of a branch.
use Rattle.std.specs.Prelude.{◌≡◌, ℕ, ◌+◌, ◌-◌, ◌<◌, ◌≤◌, List, length, map, take, slice_get, slice_index_or, Some}
use Rattle.fol.specs.FormulaData.{FormulaData}
use Rattle.term_pool.specs.declared.node.Node.{Node}
use Rattle.certificates.specs.BranchesBranch.{Branch, Says}
use Rattle.certificates.specs.Due.{SplitDue, IsRange}
use Rattle.tableau.specs.PoolBranches.{BranchData, entry_in, IsFormulaNumber}
use Rattle.tableau.specs.declared.entry.PoolEntry.{PoolEntry}
use Rattle.tableau.specs.Steps.{NoPartsBefore}
use Rattle.tableau.specs.Names.{NoNameBefore}
use Rattle.tableau.specs.Variables.{AreAbove}
use Rattle.congruence_closure.specs.Known.{IsOver, AreInEntries}
use Rattle.tableau.specs.Terms.{formula_number}
use Rattle.tableau.specs.declared.state.marks.Marks.{Marks}
use Rattle.tableau.specs.declared.state.BranchState.{BranchState}

-- ---- rules that are not due at the first entries

-- no split is due at the entry if it is an instance of the range axiom
pub record NoRangeSplitAt (b : Branch) (i : ℕ) : Type 0 where
  pub none : (p : FormulaData) (ps : List FormulaData) → Says b i p → IsRange p → SplitDue b i ps → ⊥

-- no such split is due at any entry before this one
pub record NoRangeSplitBefore (b : Branch) (count : ℕ) : Type 0 where
  pub each : (i : ℕ) → i < count → NoRangeSplitAt b i

-- before the marks no rule of their kinds is due
pub record AreMarks (b : Branch) (m : Marks) : Type 0 where
  pub parts_within : m.parts ≤ length b
  pub names_within : m.names ≤ length b
  pub ranges_within : m.ranges ≤ length b
  pub parts : NoPartsBefore b m.parts
  pub names : NoNameBefore b m.names
  pub ranges : NoRangeSplitBefore b m.ranges

-- the marks of a branch of which nothing is known
abbrev pub no_marks : Marks
no_marks = record { parts = 0; names = 0; ranges = 0 }

-- the last marks of a list
abbrev pub last_of : List Marks → Marks
last_of ms = slice_index_or ms (length ms - 1) no_marks

-- ---- the invariants

-- each entry has a formula of the pool
pub record HaveNumbers (ns : List Node) (es : List PoolEntry) : Type 0 where
  pub each : (i : ℕ) (e : PoolEntry) → slice_get es i ≡ Some e → IsFormulaNumber ns e.formula

-- the branch of the first entries, up to this one
abbrev pub branch_to : List Node → List PoolEntry → ℕ → Branch
branch_to ns es k = map (entry_in ns) (take (k + 1) es)

-- marks for each entry, of the branch up to it
pub record AreAllMarks (ns : List Node) (es : List PoolEntry) (ms : List Marks) : Type 0 where
  pub one_each : length ms ≡ length es
  pub each : (k : ℕ) → k < length ms → AreMarks (branch_to ns es k) (slice_index_or ms k no_marks)

-- the variables and the marks are those of the entries, and the classes those of the entries that were added to them,
-- and they know only items that occur in these
pub record IsState (ns : List Node) (s : BranchState) : Type 0 where
  pub numbers : HaveNumbers ns s.entries.items
  pub variables : AreAbove ns s.entries.items s.variables
  pub classed_numbers : HaveNumbers ns s.classed.items
  pub classes : IsOver ns s.classes
  pub inside : AreInEntries ns s.classes
  pub classed : s.classes.entries ≡ map formula_number s.classed.items
  pub marks : AreAllMarks ns s.entries.items s.marks.items

-- the entries are those of the branch
pub record Follows (d : BranchData) (s : BranchState) : Type 0 where
  pub entries : s.entries.items ≡ d.entries
