-- Certificates as pure data, for contracts.
use Rattle.std.specs.Prelude.{ℕ, List}
use Rattle.axioms.specs.declared.axiom.Axiom.{Axiom}
use Rattle.fol.specs.FormulaData.{TermData, FormulaData}
use Rattle.certificates.specs.declared.certificate.Cause.{Cause}
use Rattle.certificates.specs.declared.certificate.Multiple.{Multiple}

-- a straight step adds entries to its branch
pub data StepData : Type 0 where
  PartsStep : ℕ → List FormulaData → StepData
  AxiomStep : Axiom → FormulaData → StepData
  InstanceStep : ℕ → TermData → FormulaData → StepData
  NameStep : ℕ → ℕ → FormulaData → StepData
  RewriteStep : ℕ → ℕ → ℕ → FormulaData → FormulaData → StepData

-- a step that closes its branch
pub data CloseData : Type 0 where
  LinearClose : List Multiple → CloseData
  ClashClose : ℕ → ℕ → CloseData
  FalseClose : ℕ → CloseData

-- a move; a certificate is a list of them
pub data MoveData : Type 0 where
  StraightMove : StepData → MoveData
  ForkedMove : Cause → List FormulaData → MoveData
  ClosedMove : CloseData → MoveData
