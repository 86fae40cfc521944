use Rattle.syntax_tree.specs.SpecExpressionData.{spec_expression_size}
use Rattle.syntax_tree.proofs.source.tree_spans.+spec_expression_span.Given as goal

abbrev pub decreases-spec_expression_span : goal.decreases-spec_expression_span
decreases-spec_expression_span l = spec_expression_size l.expression.now
