-- The terms and formulas of sums and of the conditions of clauses. The parameters of a function are variables, numbered
-- in order. Source: the Move Specification Language reference, "Expressions".
use Rattle.std.specs.Prelude.{ℕ, ◌-◌, ◌^◌, pos, List, Option, Some, None, codes, if◌then◌else◌}
use Rattle.std.specs.List.{position}
use Rattle.fol.specs.FormulaData.{TermData, VarTerm, NumTerm, AddTerm, SubTerm, FormulaData, EqFormula, LeFormula, NotFormula, AllOfFormula, AnyOfFormula, NoFormulas}
use Rattle.sum_tree.specs.declared.sum.Operator.{Operator}
use Rattle.sum_tree.specs.declared.sum.Operator.TheVariants.{Plus, Minus}
use Rattle.sum_tree.specs.declared.clause.Comparison.{Comparison}
use Rattle.sum_tree.specs.declared.clause.Comparison.TheVariants.{Equal, Less, Greater, LessEqual, GreaterEqual}
use Rattle.sum_tree.specs.declared.clause.Condition.{Condition}
use Rattle.sum_tree.specs.declared.clause.Condition.TheVariants.{True, False, Compares}
use Rattle.sum_tree.specs.SumData.{SumData, NumberSum, WordSum, JoinedSum}
use Rattle.base.specs.Names.{same_name}

abbrev pub zero_term : TermData
zero_term = NumTerm (pos 0)

abbrev pub greatest_term : TermData
greatest_term = NumTerm (pos (2 ^ 64 - 1))

-- a name that is not that of a parameter: `MAX_U64`, or `result`, which is the returned term
abbrev pub free_term : TermData → List ℕ → TermData
free_term returned word =
    if same_name word (codes "MAX_U64") then greatest_term else (if same_name word (codes "result") then returned else zero_term)

abbrev pub term_at : Option ℕ → TermData → List ℕ → TermData
term_at (Some k) returned word = VarTerm k
term_at None returned word = free_term returned word

abbrev pub word_term : List (List ℕ) → TermData → List ℕ → TermData
word_term parameters returned word = term_at (position (same_name word) parameters) returned word

abbrev pub operator_term : Operator → TermData → TermData → TermData
operator_term Plus t u = AddTerm t u
operator_term Minus t u = SubTerm t u

abbrev pub sum_term : List (List ℕ) → TermData → SumData → TermData
sum_term parameters returned (NumberSum n) = NumTerm (pos n)
sum_term parameters returned (WordSum word) = word_term parameters returned word
sum_term parameters returned (JoinedSum left operator right) = operator_term operator (sum_term parameters returned left) (sum_term parameters returned right)

abbrev pub comparison_formula : Comparison → TermData → TermData → FormulaData
comparison_formula Equal t u = EqFormula t u
comparison_formula Less t u = NotFormula (LeFormula u t)
comparison_formula Greater t u = NotFormula (LeFormula t u)
comparison_formula LessEqual t u = LeFormula t u
comparison_formula GreaterEqual t u = LeFormula u t

abbrev pub condition_formula : List (List ℕ) → TermData → Condition → FormulaData
condition_formula parameters returned True = AllOfFormula NoFormulas
condition_formula parameters returned False = AnyOfFormula NoFormulas
condition_formula parameters returned (Compares left comparison right) =
    comparison_formula comparison (sum_term parameters returned left) (sum_term parameters returned right)
