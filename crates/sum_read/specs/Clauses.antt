-- Which clauses are conditions over sums, and which: `true`, `false`, or a comparison of two sums. Parentheses around a
-- condition are ignored. Source: the Move Specification Language reference, "Requires", "Ensures" and "AbortsIf
-- Condition".
use Rattle.std.specs.Prelude.{ℕ, true, false, List, Option, Some, None, option_and_then}
use Rattle.std.specs.Option.{option_map}
use Rattle.syntax_tree.specs.declared.literal.Literal.{Literal}
use Rattle.syntax_tree.specs.declared.literal.Literal.TheVariants.{Number, Truth, Address}
use Rattle.syntax_tree.specs.declared.operator.BinaryOperator.{BinaryOperator}
use Rattle.syntax_tree.specs.declared.operator.BinaryOperator.TheVariants.{Equal as equal_sign, Less as less_sign, Greater as greater_sign, LessEqual as less_equal_sign, GreaterEqual as greater_equal_sign}
use Rattle.syntax_tree.specs.declared.spec_expression.operator.SpecOperator.{SpecOperator}
use Rattle.syntax_tree.specs.declared.spec_expression.operator.SpecOperator.TheVariants.{Equivalent, Implies, Range, Common}
use Rattle.syntax_tree.specs.SpecExpressionData.{SpecExpressionData, SpecBinary, SpecLiteral, SpecParenthesized}
use Rattle.syntax_tree.specs.declared.clause.AbortCode.{AbortCode}
use Rattle.syntax_tree.specs.declared.clause.AbortCode.TheVariants.{Bare, Failure, Code}
use Rattle.syntax_tree.specs.declared.clause.Clause.{Clause as ClauseTree}
use Rattle.syntax_tree.specs.declared.clause.Clause.TheVariants.{Requires as requires_clause, Ensures as ensures_clause, AbortsIf as aborts_if_clause}
use Rattle.sum_tree.specs.SumData.{SumData}
use Rattle.sum_tree.specs.declared.clause.Comparison.{Comparison}
use Rattle.sum_tree.specs.declared.clause.Comparison.TheVariants.{Equal, Less, Greater, LessEqual, GreaterEqual}
use Rattle.sum_tree.specs.declared.clause.Condition.{Condition}
use Rattle.sum_tree.specs.declared.clause.Condition.TheVariants.{True, False, Compares}
use Rattle.sum_tree.specs.declared.clause.ClauseKind.{ClauseKind}
use Rattle.sum_tree.specs.declared.clause.ClauseKind.TheVariants.{Requires, Ensures, AbortsIf}
use Rattle.sum_tree.specs.declared.clause.SumClause.{SumClause}
use Rattle.sum_read.specs.Each.{each}
use Rattle.sum_read.specs.Sums.{spec_sum_of}

-- ---- conditions

abbrev pub truth_condition : Literal → Option Condition
truth_condition (Number n) = None
truth_condition (Truth span true) = Some True
truth_condition (Truth span false) = Some False
truth_condition (Address span address) = None

abbrev pub common_comparison : BinaryOperator → Option Comparison
common_comparison equal_sign = Some Equal
common_comparison less_sign = Some Less
common_comparison greater_sign = Some Greater
common_comparison less_equal_sign = Some LessEqual
common_comparison greater_equal_sign = Some GreaterEqual
common_comparison _ = None

abbrev pub comparison_of : SpecOperator → Option Comparison
comparison_of Equivalent = None
comparison_of Implies = None
comparison_of Range = None
comparison_of (Common operator) = common_comparison operator

abbrev pub compared : Option Comparison → Option SumData → Option SumData → Option Condition
compared comparison left right =
    option_and_then (λ c. option_and_then (λ l. option_map (λ r. Compares l c r) right) left) comparison

abbrev pub condition_of : SpecExpressionData → Option Condition
condition_of (SpecLiteral literal) = truth_condition literal
condition_of (SpecBinary left operator span right) = compared (comparison_of operator) (spec_sum_of left) (spec_sum_of right)
condition_of (SpecParenthesized span inner) = condition_of inner
condition_of _ = None

-- ---- clauses

-- a clause of this kind, whose first byte is at this offset
abbrev pub clause_at : ClauseKind → ℕ → SpecExpressionData → Option SumClause
clause_at kind start e = option_map (λ c. record { kind = kind; condition = c; start = start }) (condition_of e)

abbrev pub bare_clause : AbortCode → Option SumClause → Option SumClause
bare_clause Bare c = c
bare_clause Failure c = None
bare_clause (Code e) c = None

abbrev pub clause_of : ClauseTree → Option SumClause
clause_of (requires_clause span e) = clause_at Requires span.start e
clause_of (ensures_clause span e) = clause_at Ensures span.start e
clause_of (aborts_if_clause span e code) = bare_clause code (clause_at AbortsIf span.start e)
clause_of _ = None

-- all of them, if each is one
abbrev pub clauses_of : List ClauseTree → Option (List SumClause)
clauses_of clauses = each clause_of clauses
