use Rattle.syntax_tree.specs.ExpressionData.{expression_size}
use Rattle.syntax_tree.proofs.expression.ending.+is_path_last.Given as goal

abbrev pub decreases-is_path_last : goal.decreases-is_path_last
decreases-is_path_last l = expression_size l.expression.now
