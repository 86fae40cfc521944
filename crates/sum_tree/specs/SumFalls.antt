-- Each part of a sum is smaller than the whole.
use Rattle.std.specs.Prelude.{◌≤◌, max}
use Rattle.std.proofs.Common.{arith}
use Rattle.sum_tree.specs.SumData.{sum_size}
use Rattle.sum_tree.specs.SumView.{sum_of_node}
use Rattle.sum_tree.specs.declared.sum.SumNode.{SumNode}
use Rattle.sum_tree.specs.declared.sum.SumNode.TheVariants.{Number, Word, Joined}
use Rattle.sum_tree.specs.declared.sum.Sum.TheDeep.{deep-SumNode}

pub sum_falls : (n : SumNode) → max (deep-SumNode n) 0 ≤ sum_size (sum_of_node n)
sum_falls (Number n) = omega arith
sum_falls (Word w) = omega arith
sum_falls (Joined left operator right) = omega arith
