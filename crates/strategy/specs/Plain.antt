-- Branches on which no instance of an axiom is due.
use Rattle.std.specs.Prelude.{ℕ, List}
use Rattle.fol.specs.declared.shapes.Shape.{Shape}
use Rattle.fol.specs.FormulaData.{FormulaData}
use Rattle.axioms.specs.declared.axiom.Axiom.{Axiom}
use Rattle.certificates.specs.BranchesBranch.{Branch}
use Rattle.certificates.specs.Due.{AxiomDue}

-- no instance is due, by the table or as a decision
pub record NoAxiomDue (shapes : List Shape) (b : Branch) : Type 0 where
  pub none : (name : Axiom) (p : FormulaData) (g : ℕ) → AxiomDue shapes b name p g → ⊥
