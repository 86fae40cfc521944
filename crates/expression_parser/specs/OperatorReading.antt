-- The reader of the operators of spec expressions, and what they join.
use Rattle.std.specs.Prelude.{Bool, true, false, ◌&&◌, if◌then◌else◌, List, [], ◌∷◌, Option, Some, None, option_and_then}
use Rattle.std.specs.Option.{option_map, option_map_or}
use Rattle.base.specs.declared.span.Span.{Span}
use Rattle.tokens.specs.declared.token.Token.{Token}
use Rattle.tokens.specs.declared.token.TokenKind.{TokenKind}
use Rattle.tokens.specs.declared.token.TokenKind.TheVariants.{Word, Number, ByteString, Punctuation}
use Rattle.tokens.specs.declared.token.Punctuation.{Punctuation as Sign}
use Rattle.tokens.specs.declared.token.Punctuation.TheVariants.{PeriodPeriod, EqualEqualGreater, LessEqualEqualGreater, Greater as greater_sign}
use Rattle.syntax_tree.specs.declared.operator.BinaryOperator.TheVariants.{Less, Greater, ShiftLeft, ShiftRight}
use Rattle.syntax_tree.specs.declared.spec_expression.operator.SpecOperator.{SpecOperator}
use Rattle.syntax_tree.specs.declared.spec_expression.operator.SpecOperator.TheVariants.{Equivalent, Implies, Range, Common}
use Rattle.syntax_tree.specs.SpecExpressionData.{SpecExpressionData, SpecBinary}
use Rattle.syntax_tree.specs.SpecExpressionSpelling.{ends_in_path}
use Rattle.syntax_tree.specs.ProperSpecExpressions.{spec_operator_level, right_level}
use Rattle.parser_base.specs.TokenReading.{Read}
use Rattle.parser_base.specs.ChainReading.{Joints}
use Rattle.parser_base.specs.LeafReading.{after_glued}
use Rattle.parser_base.specs.OperatorReading.{binary_of_sign}

-- the operator that begins with a sign; for `>` the comparison
abbrev pub sign_operator : Sign → Option SpecOperator
sign_operator LessEqualEqualGreater = Some Equivalent
sign_operator EqualEqualGreater = Some Implies
sign_operator PeriodPeriod = Some Range
sign_operator sign = option_map Common (binary_of_sign sign)

abbrev pub kind_operator : TokenKind → Option SpecOperator
kind_operator (Punctuation sign) = sign_operator sign
kind_operator (Word name) = None
kind_operator (Number number) = None
kind_operator (ByteString text) = None

-- decides whether an operator glued to a path would open type arguments
abbrev pub opens_arguments : SpecOperator → Bool
opens_arguments (Common Less) = true
opens_arguments (Common ShiftLeft) = true
opens_arguments _ = false

-- the operator after its first sign: a `>` glued to a `>` is a shift
abbrev pub lengthened : SpecOperator → Span → List Token → (SpecOperator × Span) × List Token
lengthened (Common Greater) span ts = option_map_or (λ rest. ((Common ShiftRight, span), rest)) (after_glued greater_sign ts) ((Common Greater, span), ts)
lengthened operator span ts = ((operator, span), ts)

-- an operator and its span, after a path or not
unfoldable pub spec_operator_at : Bool → List Token → Read (SpecOperator × Span)
spec_operator_at after_path [] = None
spec_operator_at after_path (t ∷ ts) =
    option_and_then (λ operator. if after_path && (t.glued && opens_arguments operator) then None else Some (lengthened operator t.span ts)) (kind_operator t.kind)

-- how operators join spec expressions
abbrev pub spec_joints : Joints SpecExpressionData (SpecOperator × Span)
spec_joints = record {
  operator_at = λ left ts. spec_operator_at (ends_in_path left) ts;
  level = λ operator. spec_operator_level operator.0;
  right = λ operator. right_level operator.0;
  join = λ left operator right. SpecBinary left operator.0 operator.1 right;
}
