-- The rows of a branch, while they are built.
use Rattle.std.specs.Prelude.{◌≡◌, ◌≢◌, ◌⊎◌, ℕ, ◌≤◌, ℤ, pos, ◌-ℤ◌, Bool, true, false, List, [], ◌∷◌, ◌++◌, length, get_or, slice_get, slice_index, Option, Some, None}
use Rattle.std.specs.List.{AllPairs, AllZip}
use Rattle.fol.specs.FormulaData.{TermData, VarTerm, FormulaData}
use Rattle.certificates.specs.Linear.{Row}
use Rattle.certificates.specs.Unknowns.{EachUnknown}
use Rattle.linear_arith.specs.Inequality.{Inequality, coefficient}
use Rattle.certificates.specs.BranchesBranch.{Branch, formulas, IsTerm}
use Rattle.certificates.specs.Rows.{IsEntryRow, IsKnown, IsRowOf, turned, AreRowsOf, AreBranchRows}
use Rattle.term_pool.specs.declared.node.Node.{Node}
use Rattle.tableau.specs.PoolBranches.{IsTermNumber}
use Rattle.row_reasoning.specs.Sums.{Has, IsAmong, amount}
use Rattle.row_reasoning.specs.Shapes.{term_at}
use Rattle.row_reasoning.specs.declared.sum.LinearSum.{LinearSum}
use Rattle.row_reasoning.specs.declared.rows.RowOrigin.{RowOrigin}
use Rattle.row_reasoning.specs.declared.rows.BranchRows.{BranchRows}

-- ---- representatives

-- each number of a term of the branch has the representative of its class
pub record AreNames (ns : List Node) (b : Branch) (class : TermData → ℕ) (names : List ℕ) : Type 0 where
  pub named : (n : ℕ) → IsTermNumber ns n → IsTerm b (term_at ns n) → slice_index names n ≡ class (term_at ns n)

-- ---- origins of rows

abbrev pub turned_if : Bool → Row → Row
turned_if false row = row
turned_if true row = turned row

-- the row is that of the entry with this number, over classes, or the second one of its equation
pub record IsRowFrom (class : TermData → ℕ) (ps : List FormulaData) (classes : List ℕ) (row : Inequality) (origin : RowOrigin) : Type 0 where
  pub formula : FormulaData
  pub found : slice_get ps origin.entry ≡ Some formula
  pub stated : Row
  pub stated_is : IsEntryRow class formula (Some stated)
  pub is_row : IsRowOf classes (turned_if origin.is_turned stated) row
  pub equation : origin.is_turned ≡ true → stated.is_equation ≡ true

-- ---- writing rows

-- the second list extends the first
pub record IsLonger (ks ls : List ℕ) : Type 0 where
  pub more : List ℕ
  pub is : ls ≡ ks ++ more

abbrev pub AreDifferent : List ℕ → Type 0
AreDifferent ks = AllPairs (λ m n. m ≢ n) ks

-- the number is written at the index of the class, which gets an index if it had none
pub record IsPut (ks : List ℕ) (cs : List ℤ) (class : ℕ) (number : ℤ) (ls : List ℕ) (ds : List ℤ) : Type 0 where
  pub longer : IsLonger ks ls
  pub different : AreDifferent ls
  pub long : length ds ≡ length ls
  pub among : IsAmong ls class
  pub from : (n : ℕ) → IsAmong ls n → IsAmong ks n ⊎ (n ≡ class)
  pub here : (k : ℕ) → slice_get ls k ≡ Some class → get_or ds k (pos 0) ≡ number
  pub others : (k n : ℕ) → slice_get ls k ≡ Some n → n ≢ class → get_or ds k (pos 0) ≡ get_or cs k (pos 0)

-- the numbers of the sum are at the indexes of their classes
pub record IsWritten (ks ls : List ℕ) (s : LinearSum) (row : Inequality) : Type 0 where
  pub longer : IsLonger ks ls
  pub different : AreDifferent ls
  pub known : (n : ℕ) → Has s.coefficients.entries n → IsAmong ls n
  pub from : (n : ℕ) → IsAmong ls n → IsAmong ks n ⊎ Has s.coefficients.entries n
  pub few : length row.coefficients ≤ length ls
  pub numbers : (k n : ℕ) → slice_get ls k ≡ Some n → coefficient k row ≡ amount s (Some (VarTerm n))
  pub bound : row.bound ≡ pos 0 -ℤ amount s None

-- one more row
pub record IsPushed (old new : BranchRows) (s : LinearSum) (origin : RowOrigin) : Type 0 where
  pub row : Inequality
  pub written : IsWritten old.classes.keys new.classes.keys s row
  pub rows : new.rows ≡ old.rows ++ row ∷ []
  pub origins : new.origins.items ≡ old.origins.items ++ origin ∷ []

-- the list contains the classes of the row's unknowns
abbrev pub CoversRow : List ℕ → Option Row → Type 0
CoversRow ks None = Unit {0}
CoversRow ks (Some row) = EachUnknown (IsKnown ks) row.lesser × EachUnknown (IsKnown ks) row.greater

abbrev pub Covers : List ℕ → List (Option Row) → Type 0
Covers ks [] = Unit {0}
Covers ks (row ∷ more) = CoversRow ks row × Covers ks more

-- the rows of these entries, over the given classes and others that are unknowns of some row
pub record AreRowsSoFar (class : TermData → ℕ) (given : List ℕ) (ps : List FormulaData) (made : BranchRows) : Type 0 where
  pub stated : List (Option Row)
  pub are_stated : AllZip (IsEntryRow class) ps stated
  pub different : AreDifferent made.classes.keys
  pub longer : IsLonger given made.classes.keys
  pub spoken : (n : ℕ) → IsAmong made.classes.keys n → IsAmong given n ⊎ ((ks : List ℕ) → Covers ks stated → IsAmong ks n)
  pub are_rows : AreRowsOf made.classes.keys stated made.rows
  pub origins : AllZip (IsRowFrom class ps made.classes.keys) made.rows made.origins.items

-- ---- which classes rows need

-- the class is an unknown of the branch's rows: rows over any classes have it among these
pub record IsSpoken (b : Branch) (class : TermData → ℕ) (n : ℕ) : Type 0 where
  pub among : (ks : List ℕ) (rows : List Inequality) → AreBranchRows b class ks rows → IsAmong ks n

-- the given classes come first, and each other class is an unknown of some row of the branch
pub record AreClassesFrom (b : Branch) (class : TermData → ℕ) (given classes : List ℕ) : Type 0 where
  pub longer : IsLonger given classes
  pub spoken : (n : ℕ) → IsAmong classes n → IsAmong given n ⊎ IsSpoken b class n

-- the branch has no rows over these classes
pub record HasNoRows (b : Branch) (class : TermData → ℕ) (classes : List ℕ) : Type 0 where
  pub none : (rows : List Inequality) → AreBranchRows b class classes rows → ⊥

-- the rows of the branch, over the given classes
pub record AreRowsOver (b : Branch) (class : TermData → ℕ) (given : List ℕ) (made : BranchRows) : Type 0 where
  pub keys : made.classes.keys ≡ given
  pub are_rows : AreBranchRows b class given made.rows
  pub origins : AllZip (IsRowFrom class (formulas b) given) made.rows made.origins.items

-- the set has the given keys, which are distinct
pub record IsSetOf (given keys : List ℕ) : Type 0 where
  pub keys_are : keys ≡ given
  pub different : AreDifferent given
