use Rattle.syntax_tree.specs.ExpressionData.{expression_size}
use Rattle.sum_read.proofs.sum.+read_sum.Given as goal

abbrev pub decreases-read_sum : goal.decreases-read_sum
decreases-read_sum l = expression_size l.expression.now
