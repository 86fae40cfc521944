use Rattle.syntax_tree.specs.SpecExpressionData.{spec_expression_size}
use Rattle.sum_read.proofs.condition.+read_condition.Given as goal

abbrev pub decreases-read_condition : goal.decreases-read_condition
decreases-read_condition l = spec_expression_size l.expression.now
