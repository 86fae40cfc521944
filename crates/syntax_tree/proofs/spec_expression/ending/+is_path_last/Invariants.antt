use Rattle.syntax_tree.specs.SpecExpressionData.{spec_expression_size}
use Rattle.syntax_tree.proofs.spec_expression.ending.+is_path_last.Given as goal

abbrev pub decreases-is_path_last : goal.decreases-is_path_last
decreases-is_path_last l = spec_expression_size l.expression.now
