-- Skolem names of the variables of existential formulas, by number.
use Rattle.std.specs.Prelude.{ℕ, ◌<◌, List}
use Rattle.fol.specs.FormulaData.{FormulaData}
use Rattle.term_pool.specs.declared.node.Node.{Node}
use Rattle.certificates.specs.BranchesBranch.{Branch}
use Rattle.certificates.specs.Due.{NameDue}
use Rattle.tableau.specs.Numbers.{IsNumberOf}
use Rattle.tableau.specs.declared.names.NameStep.{NameStep}

-- no name is due at the entry
pub record NoNameAt (b : Branch) (i : ℕ) : Type 0 where
  pub none : (v : ℕ) (p : FormulaData) → NameDue b i v p → ⊥

-- no name is due at any entry before this one
pub record NoNameBefore (b : Branch) (count : ℕ) : Type 0 where
  pub each : (i : ℕ) → i < count → NoNameAt b i

-- no name is due at any entry
pub record NoName (b : Branch) : Type 0 where
  pub each : (i : ℕ) → NoNameAt b i

-- the first entry at which a name is due, with the name and the number of its instance
pub record IsNameStep (ns : List Node) (b : Branch) (step : NameStep) : Type 0 where
  pub formula : FormulaData
  pub numbered : IsNumberOf ns formula step.formula
  pub due : NameDue b step.entry step.variable formula
  pub first : NoNameBefore b step.entry
