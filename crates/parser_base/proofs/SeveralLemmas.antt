-- Two or more expressions in parentheses, by the number after the first.
use Rattle.std.proofs.Common.{◌≡◌, ◌<◌, Bool, List, [], ◌∷◌, Some, None, length, refl, sym, ap, arith}
use Rattle.base.specs.declared.span.Span.{Span}
use Rattle.tokens.specs.declared.token.Token.{Token}
use Rattle.syntax_tree.specs.ExpressionData.{ExpressionData, TupleExpression, expressions_of}
use Rattle.parser_base.specs.ParenthesesReading.{several}

pub several_none : (span : Span) (first : ExpressionData) (xs : List ExpressionData) (last : Bool) (rest : List Token) → length xs ≡ 0 → several span first (xs, last) rest ≡ None
several_none span first [] last rest e = refl
several_none span first (x ∷ xs) last rest e = absurd (omega (arith, e))

pub several_some : (span : Span) (first : ExpressionData) (xs ys : List ExpressionData) (last : Bool) (rest : List Token) → 0 < length xs → ys ≡ first ∷ xs → several span first (xs, last) rest ≡ Some (TupleExpression span (expressions_of ys) last, rest)
several_some span first [] ys last rest e h = absurd (omega (arith, e))
several_some span first (x ∷ xs) ys last rest e h = ap (λ zs. Some (TupleExpression span (expressions_of zs) last, rest)) (sym h)
