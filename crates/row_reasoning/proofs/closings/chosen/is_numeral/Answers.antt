use Rattle.std.proofs.Common.{sym}
use Rattle.row_reasoning.proofs.ShapeLemmas.{numeral_past}
use Rattle.row_reasoning.proofs.ChosenLemmas.{numeral_answer}
use Rattle.row_reasoning.proofs.closings.chosen.is_numeral.Goals as goal

pub returns-in-Some : goal.returns-in-Some
returns-in-Some c = numeral_answer c.args.pool.now c.args.term c.in-Some.node c.in-Some.ensures c.is_numeral_node.result c.is_numeral_node.ensures

pub returns-in-None : goal.returns-in-None
returns-in-None c = sym (numeral_past c.args.pool.now c.args.term c.in-None.ensures)
