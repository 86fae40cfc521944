use Rattle.std.proofs.Common.{◌+◌, ◌*◌}
use Rattle.row_reasoning.proofs.differences.sums.+sums.Given as goal

abbrev pub decreases-chosen_sum : goal.decreases-chosen_sum
decreases-chosen_sum l = 3 * l.term + 2

abbrev pub decreases-new_sum : goal.decreases-new_sum
decreases-new_sum l = 3 * l.term + 1

abbrev pub decreases-joined : goal.decreases-joined
decreases-joined l = 3 * l.term
