use Rattle.syntax_tree.specs.ExpressionData.{expression_size}
use Rattle.body_names.proofs.code.spans.+first_span.Given as goal

abbrev pub decreases-first_span : goal.decreases-first_span
decreases-first_span l = expression_size l.expression.now
