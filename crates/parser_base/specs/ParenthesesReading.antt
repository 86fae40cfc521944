-- Two or more expressions in parentheses (the grammar of Move: a unit, an expression in parentheses, or a tuple).
use Rattle.std.specs.Prelude.{List, [], ◌∷◌, Some, None}
use Rattle.base.specs.declared.span.Span.{Span}
use Rattle.tokens.specs.declared.token.Token.{Token}
use Rattle.syntax_tree.specs.ExpressionData.{ExpressionData, TupleExpression, expressions_of}
use Rattle.parser_base.specs.TokenReading.{Read}
use Rattle.parser_base.specs.ListReading.{Items}

-- two or more expressions, after the first one
abbrev pub several : Span → ExpressionData → Items ExpressionData → List Token → Read ExpressionData
several span first ([], last) rest = None
several span first (x ∷ xs, last) rest = Some (TupleExpression span (expressions_of (first ∷ x ∷ xs)) last, rest)
