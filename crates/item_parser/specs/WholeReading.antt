-- The reader of a spec expression that takes all tokens. The number bounds its nesting.
use Rattle.std.specs.Prelude.{ℕ, true, List, [], ◌∷◌, Option, Some, None, option_and_then}
use Rattle.tokens.specs.declared.token.Token.{Token}
use Rattle.syntax_tree.specs.SpecExpressionData.{SpecExpressionData}
use Rattle.expression_parser.specs.SpecReading.{spec_at}

abbrev pub at_end : SpecExpressionData → List Token → Option SpecExpressionData
at_end e [] = Some e
at_end e (t ∷ ts) = None

unfoldable pub whole_at : ℕ → List Token → Option SpecExpressionData
whole_at n ts = option_and_then (λ e. at_end e.0 e.1) (spec_at n true 0 ts)
