use Rattle.syntax_tree.specs.SpecExpressionData.{spec_expression_size}
use Rattle.body_names.proofs.spec.spans.+first_span.Given as goal

abbrev pub decreases-first_span : goal.decreases-first_span
decreases-first_span l = spec_expression_size l.expression.now
