use Rattle.sum_tree.specs.SumData.{sum_size}
use Rattle.sum_formula.proofs.premises.+push_ranges.Given as goal

abbrev pub decreases-push_ranges : goal.decreases-push_ranges
decreases-push_ranges l = sum_size l.sum.now
