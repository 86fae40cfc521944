use Rattle.std.proofs.Common.{arith}
use Rattle.row_reasoning.proofs.ChosenLemmas.{no_sum_answer}
use Rattle.row_reasoning.proofs.closings.chosen.is_no_sum.Goals as goal

pub returns-in-Some : goal.returns-in-Some
returns-in-Some c = no_sum_answer c.args.pool.now c.args.term c.in-Some.node c.in-Some.ensures c.is_no_sum_node.result c.is_no_sum_node.ensures

pub returns-in-None : goal.returns-in-None
returns-in-None c = absurd (let w = c.in-None.ensures in let v = c.requires.within in omega (arith, w, v))
