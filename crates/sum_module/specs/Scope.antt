-- Which words are in scope, and which names a function may give its parameters.
use Rattle.std.specs.Prelude.{ℕ, Bool, true, false, not, ◌&&◌, ◌||◌, nat_le, List, [], ◌∷◌, length, codes}
use Rattle.sum_tree.specs.declared.clause.Condition.{Condition}
use Rattle.sum_tree.specs.declared.clause.Condition.TheVariants.{True, False, Compares}
use Rattle.sum_tree.specs.declared.clause.ClauseKind.{ClauseKind}
use Rattle.sum_tree.specs.declared.clause.ClauseKind.TheVariants.{Requires, Ensures, AbortsIf}
use Rattle.sum_tree.specs.declared.clause.SumClause.{SumClause}
use Rattle.sum_module.specs.declared.scope.Context.{Context}
use Rattle.sum_module.specs.declared.scope.Context.TheVariants.{Body, InClause}
use Rattle.base.specs.Names.{same_name, is_one_of}
use Rattle.sum_tree.specs.SumData.{SumData, NumberSum, WordSum, JoinedSum}
use Rattle.sum_tree.specs.SumFunctionData.{SumFunctionData}

-- no name occurs twice
abbrev pub all_differ : List (List ℕ) → Bool
all_differ [] = true
all_differ (name ∷ names) = not (is_one_of names name) && all_differ names

abbrev pub speaks_of_result : ClauseKind → Bool
speaks_of_result Requires = false
speaks_of_result Ensures = true
speaks_of_result AbortsIf = false

-- A word is a parameter; in a clause it may be `MAX_U64`, and in an `ensures` `result`.
abbrev pub is_known : List (List ℕ) → Context → List ℕ → Bool
is_known parameters Body word = is_one_of parameters word
is_known parameters (InClause kind) word =
    is_one_of parameters word || (same_name word (codes "MAX_U64") || (speaks_of_result kind && same_name word (codes "result")))

-- each word of the sum is in scope
abbrev pub knows_sum : List (List ℕ) → Context → SumData → Bool
knows_sum parameters context (NumberSum n) = true
knows_sum parameters context (WordSum word) = is_known parameters context word
knows_sum parameters context (JoinedSum left operator right) = knows_sum parameters context left && knows_sum parameters context right

abbrev pub knows_condition : List (List ℕ) → Context → Condition → Bool
knows_condition parameters context True = true
knows_condition parameters context False = true
knows_condition parameters context (Compares left comparison right) = knows_sum parameters context left && knows_sum parameters context right

-- a spec of a function with these parameters may have this clause
abbrev pub knows_clause : List (List ℕ) → SumClause → Bool
knows_clause parameters c = knows_condition parameters (InClause c.kind) c.condition

-- at most 8 parameters, each with a name of its own
abbrev pub are_parameters : List (List ℕ) → Bool
are_parameters names = nat_le (length names) 8 && all_differ names

-- a function of such parameters, with no other words in its body
abbrev pub is_closed : SumFunctionData → Bool
is_closed f = are_parameters f.parameters && knows_sum f.parameters Body f.body
