-- The meaning of functions and clauses, independent of any code. Source: The Move Book, "Integers" (arithmetic aborts
-- where the result is not in the range of u64; operands are evaluated from left to right), and the Move Specification
-- Language reference, "Type System" (numbers in specs are integers of any size), "Requires", "Ensures" and "AbortsIf
-- Condition".
use Rattle.std.specs.Prelude.{◌≡◌, ℕ, ◌+◌, ◌-◌, ◌^◌, ◌<◌, Bool, ℤ, pos, ◌+ℤ◌, ◌-ℤ◌, ◌≤ℤ◌, ◌<ℤ◌, nat_lt, if◌then◌else◌, List, [], ◌∷◌, ◌⊎◌, Option, Some, None, option_and_then, codes}
use Rattle.std.specs.List.{list_any}
use Rattle.fol.specs.Val.{Val}
use Rattle.fol.specs.Validity.{AnswersRight}
use Rattle.base.specs.Names.{same_name}
use Rattle.sum_tree.specs.declared.sum.Operator.{Operator}
use Rattle.sum_tree.specs.declared.sum.Operator.TheVariants.{Plus, Minus}
use Rattle.sum_tree.specs.SumData.{SumData, NumberSum, WordSum, JoinedSum}
use Rattle.sum_tree.specs.declared.clause.Comparison.{Comparison}
use Rattle.sum_tree.specs.declared.clause.Comparison.TheVariants.{Equal, Less, Greater, LessEqual, GreaterEqual}
use Rattle.sum_tree.specs.declared.clause.Condition.{Condition}
use Rattle.sum_tree.specs.declared.clause.Condition.TheVariants.{True, False, Compares}
use Rattle.sum_tree.specs.declared.clause.ClauseKind.{ClauseKind}
use Rattle.sum_tree.specs.declared.clause.ClauseKind.TheVariants.{Requires, Ensures, AbortsIf}
use Rattle.sum_tree.specs.declared.clause.SumClause.{SumClause}
use Rattle.sum_tree.specs.SumFunctionData.{SumFunctionData}

-- ---- runs

-- the values of the parameters, by name
abbrev pub Arguments : Type 0
Arguments = List ℕ → ℕ

-- each value is a u64
abbrev pub AreU64 : Arguments → Type 0
AreU64 arguments = (name : List ℕ) → arguments name < 2 ^ 64

-- the result if it is a u64, or else an abort
abbrev pub operator_result : Operator → ℕ → ℕ → Option ℕ
operator_result Plus a b = if nat_lt (a + b) (2 ^ 64) then Some (a + b) else None
operator_result Minus a b = if nat_lt a b then None else Some (a - b)

-- the result of a run of a sum, or none where it aborts; the left operand is evaluated before the right one
abbrev pub run_sum : Arguments → SumData → Option ℕ
run_sum arguments (NumberSum n) = Some n
run_sum arguments (WordSum name) = Some (arguments name)
run_sum arguments (JoinedSum left operator right) =
    option_and_then (λ a. option_and_then (λ b. operator_result operator a b) (run_sum arguments right)) (run_sum arguments left)

-- ---- truth of clauses

-- the integers that are the values of the names of a clause
abbrev pub Names : Type 0
Names = List ℕ → ℤ

abbrev pub operator_number : Operator → ℤ → ℤ → ℤ
operator_number Plus a b = a +ℤ b
operator_number Minus a b = a -ℤ b

abbrev pub sum_number : Names → SumData → ℤ
sum_number names (NumberSum n) = pos n
sum_number names (WordSum name) = names name
sum_number names (JoinedSum left operator right) = operator_number operator (sum_number names left) (sum_number names right)

abbrev pub ComparesBy : Comparison → ℤ → ℤ → Type 0
ComparesBy Equal a b = a ≡ b
ComparesBy Less a b = a <ℤ b
ComparesBy Greater a b = b <ℤ a
ComparesBy LessEqual a b = a ≤ℤ b
ComparesBy GreaterEqual a b = b ≤ℤ a

abbrev pub Holds : Names → Condition → Type 0
Holds names True = Unit {0}
Holds names False = ⊥
Holds names (Compares left comparison right) = ComparesBy comparison (sum_number names left) (sum_number names right)

-- the value of a parameter; of a name that is not that of a parameter, `MAX_U64` is the greatest u64 and `result` the
-- result
abbrev pub names_of : SumFunctionData → Arguments → ℕ → Names
names_of f arguments result name =
    if list_any (same_name name) f.parameters then pos (arguments name)
    else (if same_name name (codes "MAX_U64") then pos (2 ^ 64 - 1)
    else (if same_name name (codes "result") then pos result else pos 0))

-- ---- contracts

-- each clause of the kind holds
abbrev pub AllHold : ClauseKind → Names → List SumClause → Type 0
AllHold kind names [] = Unit {0}
AllHold kind names (c ∷ cs) = (c.kind ≡ kind → Holds names c.condition) × AllHold kind names cs

-- some clause of the kind holds
abbrev pub SomeHolds : ClauseKind → Names → List SumClause → Type 0
SomeHolds kind names [] = ⊥
SomeHolds kind names (c ∷ cs) = ((c.kind ≡ kind) × Holds names c.condition) ⊎ SomeHolds kind names cs

-- there is a clause of the kind
abbrev pub HasKind : ClauseKind → List SumClause → Type 0
HasKind kind [] = ⊥
HasKind kind (c ∷ cs) = (c.kind ≡ kind) ⊎ HasKind kind cs

-- a run that returns meets each `ensures`, and no `aborts_if` held at its start; where a run aborts, some `aborts_if`
-- held at its start, unless the function has none
abbrev pub MeetsClauses : SumFunctionData → List SumClause → Arguments → Option ℕ → Type 0
MeetsClauses f clauses arguments (Some result) =
    AllHold Ensures (names_of f arguments result) clauses × (SomeHolds AbortsIf (names_of f arguments 0) clauses → ⊥)
MeetsClauses f clauses arguments None = HasKind AbortsIf clauses → SomeHolds AbortsIf (names_of f arguments 0) clauses

-- each run with u64 arguments that meet each `requires` meets the clauses
pub record KeepsContract (f : SumFunctionData) (clauses : List SumClause) : Type 0 where
  pub each_run : (arguments : Arguments) → AreU64 arguments → AllHold Requires (names_of f arguments 0) clauses → MeetsClauses f clauses arguments (run_sum arguments f.body)

-- the same in classical logic, given a test that decides which properties all values have; no program can compute such
-- a test, and in classical logic there is exactly one
abbrev pub Keeps : SumFunctionData → List SumClause → Type 0
Keeps f clauses = (all : (Val → Bool) → Bool) → AnswersRight all → KeepsContract f clauses
