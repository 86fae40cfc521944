-- What runs came to, held against contracts: which are kept by them, and which are broken.
use Rattle.std.proofs.Common.{◌≡◌, ℕ, Bool, true, false, List, [], ◌∷◌, None, refl, sym, subst}
use Rattle.std.proofs.lemmas.Bool.{true≢false}
use Rattle.program.specs.Trees.{LeafTree, BinaryTree}
use Rattle.program.specs.declared.clause.ConditionKind.TheVariants.{Ensures, AbortsIf}
use Rattle.program.specs.declared.operator.BinaryOperator.TheVariants.{Equal}
use Rattle.program.specs.declared.operator.SpecOperator.TheVariants.{Common}
use Rattle.program.specs.declared.operator.StorageOperation.TheVariants.{MoveTo}
use Rattle.program.specs.declared.spec.SpecBinary.TheVariants.{Operator}
use Rattle.program.specs.declared.spec.SpecName.TheVariants.{Parameter, Result}
use Rattle.fol.specs.Val.{Val, NumberValue, TruthValue, NothingValue, VectorValue, StructValue, MemoryValue, same_value, compare_values}
use Rattle.fol.specs.Truth.{Interpretation}
use Rattle.semantics.specs.States.{Plain, same_type}
use Rattle.semantics.specs.Operations.{number}
use Rattle.semantics.specs.TypedTrees.{TypedTree}
use Rattle.semantics.specs.Runs.{run}
use Rattle.semantics.specs.SpecTruth.{SpecTree, Value, Named}
use Rattle.semantics.specs.Clauses.{TypedClause, Condition, Modifies}
use Rattle.semantics.specs.Keeping.{Setting, Contract, Meets}
use Rattle.semantics.proofs.ExampleParts.{num, bool, local, add, abort_by, block, let_be, bind, borrow, loop_do, coin, on_storage, function_named, functions, no_types, start}

abbrev m : Interpretation
m = record { all = λ f. false; shapes = []; named = no_types }

abbrev setting : TypedTree → Setting
setting t = record { functions = functions (t ∷ []); declarations = record { functions = λ f. None; schemas = λ i. []; levels = 0 }; structs = [] }

abbrev contract : Bool → Bool → List TypedClause → Contract
contract partial strict clauses = record {
  name = function_named 0;
  type_parameters = [];
  parameters = [];
  pragmas = record { verify = true; is_opaque = false; aborts_if_is_partial = partial; aborts_if_is_strict = strict };
  clauses = clauses;
}

-- what a run of the code with the argument 3 came to is as the clauses say
abbrev Kept : TypedTree → Bool → Bool → List TypedClause → Type 0
Kept t partial strict clauses =
    Meets (setting t) m (contract partial strict clauses) (Plain (number 3) ∷ []) start (run (functions (t ∷ [])) 3 (function_named 0) no_types (Plain (number 3) ∷ []) start)

abbrev equals : SpecTree → SpecTree → SpecTree
equals a b = BinaryTree (Operator (Common Equal)) a b

abbrev result : SpecTree
result = LeafTree (Named (Result 0))

abbrev argument : SpecTree
argument = LeafTree (Named (Parameter 0))

abbrev whole : ℕ → SpecTree
whole n = LeafTree (Value (number n))

pub no_truth : false ≡ true → ⊥
no_truth e = true≢false (sym e)

-- ---- returns

ensures_holds : Kept (add (local 0) (num 1)) false false (Condition Ensures (equals result (whole 4)) ∷ [])
unfolding same_value
ensures_holds = (refl, refl, λ resource a some others. refl)

ensures_fails : Kept (add (local 0) (num 1)) false false (Condition Ensures (equals result argument) ∷ []) → ⊥
unfolding same_value
ensures_fails = λ h. no_truth h.1

-- an `aborts_if` held, and the run returns
no_abort_where_one_was_due : Kept (local 0) false false (Condition AbortsIf (equals argument (whole 3)) ∷ []) → ⊥
unfolding same_value
no_abort_where_one_was_due = λ h. no_truth h.0

no_abort_where_none_was_due : Kept (local 0) false false (Condition AbortsIf (equals argument (whole 4)) ∷ [])
unfolding same_value
no_abort_where_none_was_due = (refl, refl, λ resource a some others. refl)

-- ---- aborts

abort_that_was_due : Kept (abort_by 1) false false (Condition AbortsIf (equals argument (whole 3)) ∷ [])
unfolding same_value
abort_that_was_due = refl

abort_that_was_not_due : Kept (abort_by 1) false false (Condition AbortsIf (equals argument (whole 4)) ∷ []) → ⊥
unfolding same_value
abort_that_was_not_due = no_truth

abort_elsewhere_where_they_are_partial : Kept (abort_by 1) true false (Condition AbortsIf (equals argument (whole 4)) ∷ [])
unfolding same_value
abort_elsewhere_where_they_are_partial = refl

abort_without_clause : Kept (abort_by 1) false false []
abort_without_clause = refl

abort_of_a_strict_function : Kept (abort_by 1) false true [] → ⊥
abort_of_a_strict_function = no_truth

-- an `ensures` says nothing of a run that aborts
ensures_of_an_abort : Kept (abort_by 1) false false (Condition Ensures (equals (whole 0) (whole 1)) ∷ [])
ensures_of_an_abort = refl

-- ---- other ends

unfinished_run : Kept (loop_do (block [])) false true (Condition Ensures (equals (whole 0) (whole 1)) ∷ [])
unfinished_run = tt

stuck_run : Kept (add (bool true) (num 1)) false false [] → ⊥
stuck_run = λ h. h

-- ---- `modifies`

publish : TypedTree
publish = block (let_be (bind 8) (num 5) ∷ on_storage MoveTo coin (borrow (local 8) ∷ num 7 ∷ []) ∷ [])

is_number : Val → Bool
is_number (NumberValue z) = true
is_number (TruthValue b) = false
is_number NothingValue = false
is_number (VectorValue vs) = false
is_number (StructValue s vs) = false
is_number (MemoryValue es) = false

pub nothing_is_no_number : (n : ℕ) → NothingValue ≡ number n → ⊥
unfolding is_number
nothing_is_no_number n e = no_truth (subst (λ v. false ≡ is_number v) e refl)

-- `modifies global<coin>(6)`, and the value at 5 changes
change_of_another_address : Kept publish false false (Modifies (record { resource = coin; address = whole 6 } ∷ []) ∷ []) → ⊥
unfolding publish same_value same_type compare_values
change_of_another_address = λ h. nothing_is_no_number 7 (h.2 coin (number 5) refl refl)
