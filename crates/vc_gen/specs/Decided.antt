-- What the verification conditions of a function decide.
use Rattle.std.specs.Prelude.{List}
use Rattle.std.specs.List.{AllByRecursion}
use Rattle.fol.specs.declared.shapes.Shape.{Shape}
use Rattle.fol.specs.Validity.{Valid}
use Rattle.ref_sem.specs.Semantics.{Keeps}
use Rattle.sum_tree.specs.declared.clause.SumClause.{SumClause}
use Rattle.sum_tree.specs.SumFunctionData.{SumFunctionData}
use Rattle.vc_gen.specs.declared.condition.VerificationCondition.{VerificationCondition}

abbrev pub AreValid : List Shape → List VerificationCondition → Type 0
AreValid shapes conditions = AllByRecursion (λ c. Valid shapes c.formula) conditions

-- All of these formulas are valid, whatever structs there are, exactly if the function keeps its contract.
pub record Decide (f : SumFunctionData) (clauses : List SumClause) (conditions : List VerificationCondition) : Type 0 where
  pub sound : (shapes : List Shape) → AreValid shapes conditions → Keeps f clauses
  pub complete : Keeps f clauses → (shapes : List Shape) → AreValid shapes conditions
