-- The answers to a system of constraints.
use Rattle.std.specs.Prelude.{List, All}
use Rattle.std.proofs.Common.{ℤ}
use Rattle.linear_arith.specs.Inequality.{Inequality}
use Rattle.linear_arith.specs.Combination.{IsContradiction}
use Rattle.linear_arith.specs.Closure.{IsDue}
use Rattle.linear_arith.specs.Elimination.{ReachesLimit}
use Rattle.linear_arith.specs.Substitution.{Meets, ArePositive}
use Rattle.linear_arith.specs.Values.{AreAllChosen}
use Rattle.linear_arith.specs.Wide.{IsWide}
use Rattle.linear_arith.specs.declared.rows.Fraction.{Fraction}
use Rattle.linear_arith.specs.declared.rows.LinAnswer.{LinAnswer}
use Rattle.linear_arith.specs.declared.rows.LinAnswer.TheVariants.{Infeasible, Feasible, Wide, TooManyRows}
use Rattle.linear_arith.specs.declared.stop.Stop.{Stop}
use Rattle.linear_arith.specs.declared.stop.Stop.TheVariants.{Answered, OutOfMemory}

-- a property of the multipliers, if the answer has some
abbrev pub IfInfeasible : LinAnswer → (List ℤ → Type 0) → Type 0
IfInfeasible (Infeasible multipliers) P = P multipliers
IfInfeasible (Feasible values) P = Unit {0}
IfInfeasible (Wide first second) P = Unit {0}
IfInfeasible (TooManyRows rows) P = Unit {0}

-- a property of the values, if the answer has some
abbrev pub IfFeasible : LinAnswer → (List Fraction → Type 0) → Type 0
IfFeasible (Infeasible multipliers) P = Unit {0}
IfFeasible (Feasible values) P = P values
IfFeasible (Wide first second) P = Unit {0}
IfFeasible (TooManyRows rows) P = Unit {0}

-- a property of the two constraints, if the answer has some
abbrev pub IfWide : LinAnswer → (Inequality → Inequality → Type 0) → Type 0
IfWide (Infeasible multipliers) P = Unit {0}
IfWide (Feasible values) P = Unit {0}
IfWide (Wide first second) P = P first second
IfWide (TooManyRows found) P = Unit {0}

-- a property of the constraints, if the answer has some
abbrev pub IfTooManyRows : LinAnswer → (List Inequality → Type 0) → Type 0
IfTooManyRows (Infeasible multipliers) P = Unit {0}
IfTooManyRows (Feasible values) P = Unit {0}
IfTooManyRows (Wide first second) P = Unit {0}
IfTooManyRows (TooManyRows found) P = P found

-- values that meet all constraints
pub record IsSolution (rows : List Inequality) (values : List Fraction) : Type 0 where
  pub positive : ArePositive values
  pub met : All (Meets values) rows

-- the answer carries valid evidence
abbrev pub Shows : List Inequality → LinAnswer → Type 0
Shows rows answer = IfInfeasible answer (IsContradiction rows) × IfFeasible answer (IsSolution rows) × IfTooManyRows answer (ReachesLimit rows) × IfWide answer (IsWide rows) × IfFeasible answer (AreAllChosen rows) × IfInfeasible answer (IsDue rows)

abbrev pub StopShows : List Inequality → Stop → Type 0
StopShows rows (Answered answer) = Shows rows answer
StopShows rows OutOfMemory = Unit {0}
