-- The reader of binary operators.
use Rattle.std.specs.Prelude.{Bool, false, ◌&&◌, ◌||◌, if◌then◌else◌, List, [], ◌∷◌, Option, Some, None, option_and_then, codes}
use Rattle.std.specs.Option.{option_map_or}
use Rattle.base.specs.declared.span.Span.{Span}
use Rattle.tokens.specs.declared.token.Token.{Token}
use Rattle.tokens.specs.declared.token.TokenKind.{TokenKind}
use Rattle.tokens.specs.declared.token.TokenKind.TheVariants.{Word, Number, ByteString, Punctuation}
use Rattle.tokens.specs.declared.token.Punctuation.{Punctuation as Sign}
use Rattle.tokens.specs.declared.token.Punctuation.TheVariants.{PipePipe, AmpersandAmpersand, EqualEqual, ExclaimEqual, Less as less_sign, LessEqual as less_equal_sign, Greater as greater_sign, GreaterEqual as greater_equal_sign, Pipe, Caret, Ampersand, LessLess, Plus, Minus, Star, Slash, Percent}
use Rattle.syntax_tree.specs.declared.operator.BinaryOperator.{BinaryOperator}
use Rattle.syntax_tree.specs.declared.operator.BinaryOperator.TheVariants.{Or, And, Equal, NotEqual, Less, LessEqual, Greater, GreaterEqual, BitOr, BitXor, BitAnd, ShiftLeft, ShiftRight, Add, Subtract, Multiply, Divide, Remainder}
use Rattle.syntax_tree.specs.ExpressionData.{ExpressionData, BinaryExpression, UnaryExpression, PathExpression}
use Rattle.syntax_tree.specs.ExpressionSpelling.{ends_in_path}
use Rattle.syntax_tree.specs.ProperExpressions.{operator_level, right_level}
use Rattle.parser_base.specs.TokenReading.{Read}
use Rattle.parser_base.specs.ChainReading.{Joints}
use Rattle.parser_base.specs.PathReading.{is_single}
use Rattle.parser_base.specs.LeafReading.{after_glued}

abbrev pub binary_of_sign : Sign → Option BinaryOperator
binary_of_sign PipePipe = Some Or
binary_of_sign AmpersandAmpersand = Some And
binary_of_sign EqualEqual = Some Equal
binary_of_sign ExclaimEqual = Some NotEqual
binary_of_sign less_sign = Some Less
binary_of_sign less_equal_sign = Some LessEqual
binary_of_sign greater_sign = Some Greater
binary_of_sign greater_equal_sign = Some GreaterEqual
binary_of_sign Pipe = Some BitOr
binary_of_sign Caret = Some BitXor
binary_of_sign Ampersand = Some BitAnd
binary_of_sign LessLess = Some ShiftLeft
binary_of_sign Plus = Some Add
binary_of_sign Minus = Some Subtract
binary_of_sign Star = Some Multiply
binary_of_sign Slash = Some Divide
binary_of_sign Percent = Some Remainder
binary_of_sign _ = None

abbrev pub binary_of : TokenKind → Option BinaryOperator
binary_of (Punctuation sign) = binary_of_sign sign
binary_of (Word name) = None
binary_of (Number number) = None
binary_of (ByteString text) = None

-- decides whether the expression ends in the path `vector`
abbrev pub ends_in_vector : ExpressionData → Bool
ends_in_vector (PathExpression path) = is_single (codes "vector") path
ends_in_vector (BinaryExpression left operator span right) = ends_in_vector right
ends_in_vector (UnaryExpression operator span operand) = ends_in_vector operand
ends_in_vector _ = false

-- a `<` or `<<` glued to a path opens type arguments, and a `<` after `vector` always does
abbrev pub opens_arguments : BinaryOperator → ExpressionData → Bool → Bool
opens_arguments Less left glued = (ends_in_path left && glued) || ends_in_vector left
opens_arguments ShiftLeft left glued = ends_in_path left && glued
opens_arguments _ left glued = false

-- two `>`, the second of which is glued, are one operator
abbrev pub whole_operator : BinaryOperator → Span → List Token → (BinaryOperator × Span) × List Token
whole_operator Greater span ts = option_map_or (λ rest. ((ShiftRight, span), rest)) (after_glued greater_sign ts) ((Greater, span), ts)
whole_operator operator span ts = ((operator, span), ts)

unfoldable pub operator_behind : ExpressionData → List Token → Read (BinaryOperator × Span)
operator_behind left [] = None
operator_behind left (t ∷ ts) = option_and_then (λ operator. if opens_arguments operator left t.glued then None else Some (whole_operator operator t.span ts)) (binary_of t.kind)

abbrev pub joints : Joints ExpressionData (BinaryOperator × Span)
joints = record {
  operator_at = operator_behind;
  level = λ o. operator_level o.0;
  right = λ o. right_level o.0;
  join = λ l o r. BinaryExpression l o.0 o.1 r;
}
