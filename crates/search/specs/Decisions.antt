-- What deciders find on a branch.
use Rattle.std.specs.Prelude.{◌≡◌, ◌⊎◌, ℕ, ◌+◌, ◌<◌, ◌≤◌, ◌^◌, Bool, true, false, List, length, slice_index, All}
use Rattle.fol.specs.declared.shapes.Shape.{Shape}
use Rattle.fol.specs.FormulaData.{TermData, FormulaData, NotFormula}
use Rattle.axioms.specs.declared.axiom.Axiom.{Axiom}
use Rattle.certificates.specs.Closes.{most_entries}
use Rattle.linear_arith.specs.Inequality.{Inequality}
use Rattle.linear_arith.specs.Elimination.{ReachesLimit}
use Rattle.linear_arith.specs.declared.rows.Fraction.{Fraction}
use Rattle.linear_arith.specs.Answer.{IsSolution}
use Rattle.linear_arith.specs.Wide.{IsWide}
use Rattle.term_pool.specs.Items.{term_in}
use Rattle.term_pool.specs.Pools.{item_at}
use Rattle.term_pool.specs.declared.node.Node.{Node}
use Rattle.certificates.specs.BranchesBranch.{Branch, formulas, Says, IsTerm}
use Rattle.certificates.specs.Names.{above_all}
use Rattle.certificates.specs.Due.{SplitDue, InstanceDue, AxiomDue, CutDue, IsNotClosed, IsSaturated, IsShallow}
use Rattle.certificates.specs.Rows.{AreBranchRows, IsWholeIfNumber, Meets}
use Rattle.certificates.specs.ProofTraces.{Application, IsDueApplication, IsFull}
use Rattle.tableau.specs.PoolBranches.{IsTermNumber}
use Rattle.search.specs.Applications.{entry_of, IsGenerationFrom, IsExtensionOf, IsClosingOf}
use Rattle.search.specs.declared.trees.application.Extension.{Extension}
use Rattle.search.specs.declared.trees.application.Closing.{Closing as ClosingApplication}
use Rattle.search.specs.declared.deciders.ClosingAnswer.{ClosingAnswer}
use Rattle.search.specs.declared.deciders.ClosingAnswer.TheVariants.{Open as NotClosed, Closes, TooLong}
use Rattle.search.specs.declared.deciders.RowsAnswer.{RowsAnswer}
use Rattle.search.specs.declared.deciders.RowsAnswer.TheVariants.{Met, Closes as RowsClose, TooLong as RowsTooLong, Wide, TooMany}
use Rattle.search.specs.declared.values.OpenValues.{OpenValues}
use Rattle.search.specs.declared.decisions.Stop.{Stop}
use Rattle.search.specs.declared.decisions.Stop.TheVariants.{Open as StopOpen, Wide as StopWide, TooManyRows as StopRows, Full as StopFull}
use Rattle.search.specs.declared.decisions.Decision.{Decision}
use Rattle.search.specs.declared.decisions.Decision.TheVariants.{Grows, Closes as ClosesBy, Stops}
use Rattle.search.specs.declared.deciders.LeafAnswer.{LeafAnswer}
use Rattle.search.specs.declared.deciders.LeafAnswer.TheVariants.{Open as LeafOpen, Bound, Closes as LeafCloses, TooLong as LeafTooLong, Wide as LeafWide, TooMany as LeafTooMany}

-- no variable number is left above those of the branch
pub record IsCrowded (b : Branch) : Type 0 where
  pub crowded : 2 ^ 32 ≤ above_all (formulas b)

-- a variable number is left, and the branch may have another entry
pub record HasRoom (b : Branch) : Type 0 where
  pub number : above_all (formulas b) < 2 ^ 32
  pub entry : length b < most_entries

-- each entry is no deeper than a step may add, or is a negation
pub record IsLevel (b : Branch) : Type 0 where
  pub level : (i : ℕ) (p : FormulaData) → Says b i p → IsShallow p ⊎ ((q : FormulaData) × (p ≡ NotFormula q))

-- ---- rule applications

-- the extension by number is due
pub record IsExtensionDue (shapes : List Shape) (ns : List Node) (b : Branch) (g : Extension) : Type 0 where
  pub application : Application
  pub is : IsExtensionOf ns g application
  pub from : IsGenerationFrom b (entry_of g.reason) g.generation
  pub due : IsDueApplication shapes b application

pub record IsClosingDue (shapes : List Shape) (ns : List Node) (b : Branch) (c : ClosingApplication) : Type 0 where
  pub application : Application
  pub is : IsClosingOf ns c application
  pub due : IsDueApplication shapes b application

-- an extension by so many formulas of a branch with so many entries leaves only branches of at most the maximal length
abbrev pub LeavesShort : Bool → ℕ → ℕ → Type 0
LeavesShort false entries formulas = entries + formulas ≤ most_entries
LeavesShort true entries formulas = entries < most_entries

-- no instance is due
pub record NothingPlain (shapes : List Shape) (b : Branch) : Type 0 where
  pub no_instance : (i : ℕ) (t : TermData) (p : FormulaData) (g : ℕ) → InstanceDue b i t p g → ⊥
  pub no_axiom : (name : Axiom) (p : FormulaData) (g : ℕ) → AxiomDue shapes b name p g → ⊥

-- neither a case split nor a cut is due
pub record NothingLate (b : Branch) : Type 0 where
  pub no_split : (i : ℕ) (ps : List FormulaData) → SplitDue b i ps → ⊥
  pub no_cut : (t u : TermData) → CutDue b t u → ⊥

-- ---- results

abbrev pub ShowsClosing : List Shape → List Node → Branch → ClosingAnswer → Type 0
ShowsClosing shapes ns b NotClosed = IsNotClosed b
ShowsClosing shapes ns b (Closes c) = IsClosingDue shapes ns b c
ShowsClosing shapes ns b TooLong = IsFull shapes b

-- some values satisfy the rows
pub record HasValues (b : Branch) : Type 0 where
  pub values : List Fraction
  pub met : Meets b values

-- an elimination of the rows reaches two rows whose sum overflows 128 bits
pub record IsWideAt (b : Branch) (first second : Inequality) : Type 0 where
  pub class : TermData → ℕ
  pub classes : List ℕ
  pub rows : List Inequality
  pub are_rows : AreBranchRows b class classes rows
  pub wide : IsWide rows first second

-- an elimination of the rows reaches the limit of 5,000 rows: these
pub record IsLargeAt (b : Branch) (found : List Inequality) : Type 0 where
  pub class : TermData → ℕ
  pub classes : List ℕ
  pub rows : List Inequality
  pub are_rows : AreBranchRows b class classes rows
  pub limit : ReachesLimit rows found

abbrev pub ShowsRows : List Shape → List Node → Branch → RowsAnswer → Type 0
ShowsRows shapes ns b Met = HasValues b
ShowsRows shapes ns b (RowsClose c) = IsClosingDue shapes ns b c
ShowsRows shapes ns b RowsTooLong = IsFull shapes b
ShowsRows shapes ns b (Wide first second) = IsWideAt b first second
ShowsRows shapes ns b (TooMany rows) = IsLargeAt b rows

-- the term with this number
abbrev pub term_at : List Node → ℕ → TermData
term_at ns n = term_in (item_at ns n)

-- the values are those of the branch's rows over these classes, and whole for the classes of numbers; each number of a
-- term of the branch has the representative of its class
pub record IsValued (ns : List Node) (b : Branch) (v : OpenValues) : Type 0 where
  pub class : TermData → ℕ
  pub named : (n : ℕ) → IsTermNumber ns n → IsTerm b (term_at ns n) → slice_index v.names.items n ≡ class (term_at ns n)
  pub rows : List Inequality
  pub are_rows : AreBranchRows b class v.classes.items rows
  pub solution : IsSolution rows v.values
  pub whole : All (IsWholeIfNumber b class v.classes.items) v.values

abbrev pub ShowsLeaf : List Shape → List Node → Branch → LeafAnswer → Type 0
ShowsLeaf shapes ns b (LeafOpen values) = IsValued ns b values
ShowsLeaf shapes ns b (Bound g) = IsExtensionDue shapes ns b g
ShowsLeaf shapes ns b (LeafCloses c) = IsClosingDue shapes ns b c
ShowsLeaf shapes ns b LeafTooLong = IsFull shapes b
ShowsLeaf shapes ns b (LeafWide first second) = IsWideAt b first second
ShowsLeaf shapes ns b (LeafTooMany rows) = IsLargeAt b rows

-- ---- decisions

-- what a stop shows about the branch
abbrev pub ShowsStop : List Shape → List Node → Branch → Stop → Type 0
ShowsStop shapes ns b (StopOpen values) = IsSaturated shapes b × IsValued ns b values
ShowsStop shapes ns b (StopWide first second) = IsWideAt b first second
ShowsStop shapes ns b (StopRows rows) = IsLargeAt b rows
ShowsStop shapes ns b StopFull = IsFull shapes b

-- the application is due, or the search stops here
abbrev pub IsDecided : List Shape → List Node → Branch → Decision → Type 0
IsDecided shapes ns b (Grows g) = IsExtensionDue shapes ns b g
IsDecided shapes ns b (ClosesBy c) = IsClosingDue shapes ns b c
IsDecided shapes ns b (Stops stop) = ShowsStop shapes ns b stop
