-- One level of a sum, with its children as pure data.
use Rattle.sum_tree.specs.SumData.{SumData, NumberSum, WordSum, JoinedSum}
use Rattle.sum_tree.specs.declared.sum.SumNode.{SumNode}
use Rattle.sum_tree.specs.declared.sum.SumNode.TheVariants.{Number, Word, Joined}

abbrev pub sum_of_node : SumNode → SumData
sum_of_node (Number n) = NumberSum n
sum_of_node (Word w) = WordSum w
sum_of_node (Joined left operator right) = JoinedSum left.value operator right.value
