-- The alpha and beta rules that are due at an entry, by number, and entries where none is.
use Rattle.std.specs.Prelude.{ℕ, ◌<◌, List}
use Rattle.fol.specs.FormulaData.{FormulaData}
use Rattle.term_pool.specs.declared.node.Node.{Node}
use Rattle.certificates.specs.BranchesBranch.{Branch}
use Rattle.certificates.specs.Due.{PartsDue, SplitDue}
use Rattle.tableau.specs.Numbers.{AreNumbersOf}
use Rattle.tableau.specs.declared.rules.formulas.EntryStep.{EntryStep}

-- ---- parts

-- no parts of the entry are due
pub record NoPartsAt (b : Branch) (i : ℕ) : Type 0 where
  pub none : (ps : List FormulaData) → PartsDue b i ps → ⊥

-- no parts of any entry before this one are due
pub record NoPartsBefore (b : Branch) (count : ℕ) : Type 0 where
  pub each : (i : ℕ) → i < count → NoPartsAt b i

-- no parts of any entry are due
pub record NoParts (b : Branch) : Type 0 where
  pub each : (i : ℕ) → NoPartsAt b i

-- the numbers of parts of the entry that are due
pub record ArePartsDue (ns : List Node) (b : Branch) (i : ℕ) (numbers : List ℕ) : Type 0 where
  pub parts : List FormulaData
  pub numbered : AreNumbersOf ns parts numbers
  pub due : PartsDue b i parts

-- the numbers of the parts of the first entry whose parts are due
pub record IsPartsStep (ns : List Node) (b : Branch) (step : EntryStep) : Type 0 where
  pub parts : ArePartsDue ns b step.entry step.formulas.items
  pub first : NoPartsBefore b step.entry

-- ---- cases

-- no split at the entry is due
pub record NoSplitAt (b : Branch) (i : ℕ) : Type 0 where
  pub none : (ps : List FormulaData) → SplitDue b i ps → ⊥

-- no split at any entry before this one is due
pub record NoSplitBefore (b : Branch) (count : ℕ) : Type 0 where
  pub each : (i : ℕ) → i < count → NoSplitAt b i

-- no split at any entry is due
pub record NoSplit (b : Branch) : Type 0 where
  pub each : (i : ℕ) → NoSplitAt b i

-- the numbers of the cases of a split that is due at the entry
pub record AreCasesDue (ns : List Node) (b : Branch) (i : ℕ) (numbers : List ℕ) : Type 0 where
  pub cases : List FormulaData
  pub numbered : AreNumbersOf ns cases numbers
  pub due : SplitDue b i cases

-- the numbers of the cases of the first entry at which a split is due
pub record IsSplitStep (ns : List Node) (b : Branch) (step : EntryStep) : Type 0 where
  pub cases : AreCasesDue ns b step.entry step.formulas.items
  pub first : NoSplitBefore b step.entry
