-- The keys of a function's conditions, in the order of a report.
use Rattle.std.specs.Prelude.{ℕ, Bool, List, [], ◌∷◌, ◌++◌, if◌then◌else◌, None}
use Rattle.std.specs.List.{flat_map, list_any}
use Rattle.base.specs.declared.condition.ConditionKey.{ConditionKey}
use Rattle.base.specs.declared.condition.ConditionKind.{ConditionKind}
use Rattle.base.specs.declared.condition.ConditionKind.TheVariants.{Ensures as of_ensures, AbortsIf as of_aborts_if, Aborts as of_aborts}
use Rattle.sum_formula.specs.Premises.{is_kind}
use Rattle.sum_tree.specs.declared.clause.SumClause.{SumClause}
use Rattle.sum_tree.specs.declared.clause.ClauseKind.{ClauseKind}
use Rattle.sum_tree.specs.declared.clause.ClauseKind.TheVariants.{Ensures, AbortsIf}
use Rattle.sum_tree.specs.SumFunctionData.{SumFunctionData}

-- a condition that is checked at its clause
abbrev pub key_at : ConditionKind → ℕ → ConditionKey
key_at kind start = record { kind = kind; start = start; check = None }

-- the key of a clause of this kind; none for a clause of another kind
abbrev pub key_if : ClauseKind → ConditionKind → SumClause → List ConditionKey
key_if of_clause kind c = if is_kind c.kind of_clause then key_at kind c.start ∷ [] else []

-- decides whether some clause is of this kind
abbrev pub has_kind : ClauseKind → List SumClause → Bool
has_kind kind clauses = list_any (λ c. is_kind c.kind kind) clauses

-- The keys of each `ensures`, then of each `aborts_if`, in the order of the clauses, and then, if there is an
-- `aborts_if`, of the function.
abbrev pub keys_of : SumFunctionData → List SumClause → List ConditionKey
keys_of f clauses =
    flat_map (key_if Ensures of_ensures) clauses ++ flat_map (key_if AbortsIf of_aborts_if) clauses
    ++ (if has_kind AbortsIf clauses then key_at of_aborts f.start ∷ [] else [])
