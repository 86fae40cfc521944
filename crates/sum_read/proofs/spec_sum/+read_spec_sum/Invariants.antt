use Rattle.syntax_tree.specs.SpecExpressionData.{spec_expression_size}
use Rattle.sum_read.proofs.spec_sum.+read_spec_sum.Given as goal

abbrev pub decreases-read_spec_sum : goal.decreases-read_spec_sum
decreases-read_spec_sum l = spec_expression_size l.expression.now
