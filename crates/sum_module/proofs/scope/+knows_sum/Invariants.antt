use Rattle.sum_tree.specs.SumData.{sum_size}
use Rattle.sum_module.proofs.scope.+knows_sum.Given as goal

abbrev pub decreases-knows_sum : goal.decreases-knows_sum
decreases-knows_sum l = sum_size l.sum.now
