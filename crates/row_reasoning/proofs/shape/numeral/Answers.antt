use Rattle.std.proofs.Common.{◌∙◌}
use Rattle.row_reasoning.proofs.ShapeLemmas.{numeral_made, numeral_past}
use Rattle.row_reasoning.proofs.shape.numeral.Goals as goal

pub returns-in-Some : goal.returns-in-Some
returns-in-Some c = c.node_numeral.ensures ∙ numeral_made c.args.pool.now c.args.number c.in-Some.node c.in-Some.ensures

pub returns-in-None : goal.returns-in-None
returns-in-None c = numeral_past c.args.pool.now c.args.number c.in-None.ensures
