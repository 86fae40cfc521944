-- The spelling of the operators of specifications. Source: the Move Specification Language reference, "Expressions",
-- including `==>` and `<==>`.
use Rattle.std.specs.Prelude.{Bool, List, [], ◌∷◌, Some, codes}
use Rattle.base.specs.declared.span.Span.{Span}
use Rattle.tokens.specs.declared.token.Punctuation.TheVariants.{LessEqualEqualGreater, EqualEqualGreater, PeriodPeriod}
use Rattle.syntax_tree.specs.declared.lexeme.Lexeme.{Lexeme}
use Rattle.syntax_tree.specs.Lexemes.{word, sign_at}
use Rattle.syntax_tree.specs.OperatorSpelling.{operator_spelling}
use Rattle.syntax_tree.specs.declared.spec_expression.operator.SpecOperator.{SpecOperator}
use Rattle.syntax_tree.specs.declared.spec_expression.operator.SpecOperator.TheVariants.{Equivalent, Implies, Range, Common}
use Rattle.syntax_tree.specs.declared.spec_expression.operator.Quantifier.{Quantifier}
use Rattle.syntax_tree.specs.declared.spec_expression.operator.Quantifier.TheVariants.{ForAll, Exists}

abbrev pub spec_operator_spelling : SpecOperator → Span → Bool → List Lexeme
spec_operator_spelling Equivalent span after_path = sign_at span LessEqualEqualGreater ∷ []
spec_operator_spelling Implies span after_path = sign_at span EqualEqualGreater ∷ []
spec_operator_spelling Range span after_path = sign_at span PeriodPeriod ∷ []
spec_operator_spelling (Common operator) span after_path = operator_spelling operator span after_path

abbrev pub quantifier_spelling : Quantifier → Span → List Lexeme
quantifier_spelling ForAll span = word (codes "forall") (Some span) ∷ []
quantifier_spelling Exists span = word (codes "exists") (Some span) ∷ []
