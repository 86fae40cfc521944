use Rattle.std.proofs.Common.{◌+◌, ◌*◌}
use Rattle.row_reasoning.proofs.walk.+sums.Given as goal

abbrev pub decreases-new_sum : goal.decreases-new_sum
decreases-new_sum l = 2 * l.number

abbrev pub decreases-sum_of : goal.decreases-sum_of
decreases-sum_of l = 2 * l.number + 1
