use Rattle.sum_tree.specs.SumData.{sum_size}
use Rattle.sum_formula.proofs.translation.+sum_term.Given as goal

abbrev pub decreases-sum : goal.decreases-sum
decreases-sum l = sum_size l.sum_of.now
