use Rattle.row_reasoning.proofs.DifferencesSumLemmas.{numeral_left}
use Rattle.row_reasoning.proofs.differences.shape.shape_of.Goals as goal

pub returns-in-None : goal.returns-in-None
returns-in-None c = numeral_left c.args.pool.now c.args.term c.requires (λ s. (let t = c.if-is_no_sum.ensures.1 s in let f = c.if-is_no_sum.false in cc)) c.in-None.ensures
