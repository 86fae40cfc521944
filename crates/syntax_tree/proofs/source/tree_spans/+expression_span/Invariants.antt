use Rattle.syntax_tree.specs.ExpressionData.{expression_size}
use Rattle.syntax_tree.proofs.source.tree_spans.+expression_span.Given as goal

abbrev pub decreases-expression_span : goal.decreases-expression_span
decreases-expression_span l = expression_size l.expression.now
