-- Which expressions are sums of u64 values, in code and in specs, and which sum each is. Parentheses around a part are
-- ignored. Source: The Move Book, "Integers"; the Move Specification Language reference, "Expressions".
use Rattle.std.specs.Prelude.{◌^◌, Bool, true, false, ◌&&◌, nat_lt, if◌then◌else◌, Option, Some, None, option_and_then}
use Rattle.std.specs.Option.{option_map}
use Rattle.tokens.specs.declared.token.NumberSuffix.{NumberSuffix}
use Rattle.tokens.specs.declared.token.NumberSuffix.TheVariants.{Absent}
use Rattle.syntax_tree.specs.declared.lexeme.Numeral.{Numeral}
use Rattle.syntax_tree.specs.declared.literal.Literal.{Literal}
use Rattle.syntax_tree.specs.declared.literal.Literal.TheVariants.{Number, Truth, Address}
use Rattle.syntax_tree.specs.declared.path.Path.{Path}
use Rattle.syntax_tree.specs.declared.path.Path.TheVariants.{Name as name_path, Member as member_path, Full as full_path}
use Rattle.syntax_tree.specs.declared.operator.BinaryOperator.{BinaryOperator}
use Rattle.syntax_tree.specs.declared.operator.BinaryOperator.TheVariants.{Add, Subtract}
use Rattle.syntax_tree.specs.ExpressionData.{ExpressionData, BinaryExpression, LiteralExpression, PathExpression, TupleExpression, ExpressionsData, NoExpressions, MoreExpressions}
use Rattle.syntax_tree.specs.declared.spec_expression.operator.SpecOperator.{SpecOperator}
use Rattle.syntax_tree.specs.declared.spec_expression.operator.SpecOperator.TheVariants.{Equivalent, Implies, Range, Common}
use Rattle.syntax_tree.specs.SpecExpressionData.{SpecExpressionData, SpecBinary, SpecLiteral, SpecPath, SpecParenthesized}
use Rattle.sum_tree.specs.declared.sum.Operator.{Operator}
use Rattle.sum_tree.specs.declared.sum.Operator.TheVariants.{Plus, Minus}
use Rattle.sum_tree.specs.SumData.{SumData, NumberSum, WordSum, JoinedSum}

-- ---- numbers, words, operators

abbrev pub is_absent : NumberSuffix → Bool
is_absent Absent = true
is_absent _ = false

-- a number without a suffix that is a u64
abbrev pub number_sum : Numeral → Option SumData
number_sum n = if is_absent n.literal.suffix && nat_lt n.literal.value (2 ^ 64) then Some (NumberSum n.literal.value) else None

abbrev pub literal_sum : Literal → Option SumData
literal_sum (Number n) = number_sum n
literal_sum (Truth span value) = None
literal_sum (Address span address) = None

abbrev pub word_sum : Path → Option SumData
word_sum (name_path i) = Some (WordSum i.text)
word_sum (member_path owner name) = None
word_sum (full_path owner name) = None

abbrev pub operator_of : BinaryOperator → Option Operator
operator_of Add = Some Plus
operator_of Subtract = Some Minus
operator_of _ = None

abbrev pub joined : Option Operator → Option SumData → Option SumData → Option SumData
joined operator left right =
    option_and_then (λ o. option_and_then (λ l. option_map (λ r. JoinedSum l o r) right) left) operator

-- ---- in code

abbrev mutual
  pub sum_of : ExpressionData → Option SumData
  sum_of (LiteralExpression literal) = literal_sum literal
  sum_of (PathExpression path) = word_sum path
  sum_of (BinaryExpression left operator span right) = joined (operator_of operator) (sum_of left) (sum_of right)
  sum_of (TupleExpression span items last) = if last then None else only_sum items
  sum_of _ = None

  -- the sum of the only expression
  pub only_sum : ExpressionsData → Option SumData
  only_sum NoExpressions = None
  only_sum (MoreExpressions one NoExpressions) = sum_of one
  only_sum (MoreExpressions one (MoreExpressions two more)) = None

-- ---- in specs

abbrev pub spec_operator_of : SpecOperator → Option Operator
spec_operator_of Equivalent = None
spec_operator_of Implies = None
spec_operator_of Range = None
spec_operator_of (Common operator) = operator_of operator

abbrev pub spec_sum_of : SpecExpressionData → Option SumData
spec_sum_of (SpecLiteral literal) = literal_sum literal
spec_sum_of (SpecPath path) = word_sum path
spec_sum_of (SpecBinary left operator span right) = joined (spec_operator_of operator) (spec_sum_of left) (spec_sum_of right)
spec_sum_of (SpecParenthesized span inner) = spec_sum_of inner
spec_sum_of _ = None
