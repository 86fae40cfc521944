-- The premises of the verification conditions of a function: its arguments have their types and meet each `requires`,
-- and its run returns, or aborts. The parameters of the function are variables, numbered in order. Source: D. Dill et
-- al., Fast and Reliable Formal Verification of Smart Contracts with the Move Prover, TACAS 2022.
use Rattle.std.specs.Prelude.{ℕ, Bool, true, false, List, [], ◌∷◌, ◌++◌, map, if◌then◌else◌}
use Rattle.std.specs.List.{flat_map}
use Rattle.base.specs.TypeData.{IntType}
use Rattle.base.specs.declared.types.Width.TheVariants.{U64}
use Rattle.fol.specs.FormulaData.{TermData, FormulaData, LeFormula, IsFormula, NotFormula, AllOfFormula, NoFormulas, MoreFormulas, formulas_of}
use Rattle.sum_tree.specs.declared.sum.Operator.{Operator}
use Rattle.sum_tree.specs.declared.sum.Operator.TheVariants.{Plus, Minus}
use Rattle.sum_tree.specs.declared.clause.ClauseKind.{ClauseKind}
use Rattle.sum_tree.specs.declared.clause.ClauseKind.TheVariants.{Requires, Ensures, AbortsIf}
use Rattle.sum_tree.specs.declared.clause.SumClause.{SumClause}
use Rattle.sum_tree.specs.SumData.{SumData, NumberSum, WordSum, JoinedSum}
use Rattle.sum_tree.specs.SumFunctionData.{SumFunctionData}
use Rattle.sum_formula.specs.Translation.{zero_term, greatest_term, word_term, operator_term, sum_term, condition_formula}

-- each parameter has a value of its type
abbrev pub argument_formula : List (List ℕ) → List ℕ → FormulaData
argument_formula parameters name = IsFormula (IntType U64) (word_term parameters zero_term name)

abbrev pub arguments_formula : SumFunctionData → FormulaData
arguments_formula f = AllOfFormula (formulas_of (map (argument_formula f.parameters) f.parameters))

abbrev pub is_kind : ClauseKind → ClauseKind → Bool
is_kind Requires Requires = true
is_kind Ensures Ensures = true
is_kind AbortsIf AbortsIf = true
is_kind _ _ = false

-- the formula of a clause of this kind, or none for another clause
abbrev pub formula_if : ClauseKind → List (List ℕ) → TermData → SumClause → List FormulaData
formula_if kind parameters returned c = if is_kind c.kind kind then condition_formula parameters returned c.condition ∷ [] else []

-- the formulas of the clauses of this kind, at the entry
abbrev pub entry_formulas : ClauseKind → SumFunctionData → List SumClause → List FormulaData
entry_formulas kind f clauses = flat_map (formula_if kind f.parameters zero_term) clauses

abbrev pub requires_formula : SumFunctionData → List SumClause → FormulaData
requires_formula f clauses = AllOfFormula (formulas_of (entry_formulas Requires f clauses))

-- the sum of u64 values is at least 0, and their difference at most the greatest u64, so one bound decides whether the
-- value is a u64
abbrev pub range_formula : Operator → TermData → FormulaData
range_formula Plus t = LeFormula t greatest_term
range_formula Minus t = LeFormula zero_term t

-- the value of each operator in the sum is a u64
abbrev pub range_formulas : List (List ℕ) → SumData → List FormulaData
range_formulas parameters (NumberSum n) = []
range_formulas parameters (WordSum word) = []
range_formulas parameters (JoinedSum left operator right) =
    range_formulas parameters left ++ (range_formulas parameters right
    ++ range_formula operator (operator_term operator (sum_term parameters zero_term left) (sum_term parameters zero_term right)) ∷ [])

-- the run of the body returns
abbrev pub returns_formula : SumFunctionData → FormulaData
returns_formula f = AllOfFormula (formulas_of (range_formulas f.parameters f.body))

-- the returned value
abbrev pub returned_term : SumFunctionData → TermData
returned_term f = sum_term f.parameters zero_term f.body

abbrev pub all_three : FormulaData → FormulaData → FormulaData → FormulaData
all_three p q r = AllOfFormula (MoreFormulas p (MoreFormulas q (MoreFormulas r NoFormulas)))

-- the premises at the entry, with the outcome: the run returns, or aborts
abbrev pub at_return : SumFunctionData → List SumClause → FormulaData
at_return f clauses = all_three (arguments_formula f) (requires_formula f clauses) (returns_formula f)

abbrev pub at_abort : SumFunctionData → List SumClause → FormulaData
at_abort f clauses = all_three (arguments_formula f) (requires_formula f clauses) (NotFormula (returns_formula f))
