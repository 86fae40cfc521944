-- Branches on which no rule of some families is due.
use Rattle.std.specs.Prelude.{ℕ, List}
use Rattle.fol.specs.declared.shapes.Shape.{Shape}
use Rattle.fol.specs.FormulaData.{FormulaData}
use Rattle.axioms.specs.declared.axiom.Axiom.{Axiom}
use Rattle.certificates.specs.BranchesBranch.{Branch}
use Rattle.certificates.specs.Due.{AxiomDue, IsNotClosed}
use Rattle.tableau.specs.Steps.{NoParts, NoSplit}
use Rattle.tableau.specs.Names.{NoName}
use Rattle.axiom_strategy.specs.Cuts.{NoCut}

-- no alpha, beta or delta rule is due at any entry
pub record IsReduced (b : Branch) : Type 0 where
  pub no_parts : NoParts b
  pub no_split : NoSplit b
  pub no_name : NoName b

-- no instance of an axiom is due, by the table or as a decision
pub record HasAllAxioms (shapes : List Shape) (b : Branch) : Type 0 where
  pub none : (name : Axiom) (p : FormulaData) (generation : ℕ) → AxiomDue shapes b name p generation → ⊥

-- no cut is due, and nothing closes the branch
pub record IsSettled (b : Branch) : Type 0 where
  pub no_cut : NoCut b
  pub not_closed : IsNotClosed b
