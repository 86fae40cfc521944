use Rattle.row_reasoning.specs.DifferencesSums.{Past}
use Rattle.row_reasoning.proofs.DifferencesSumLemmas.{pair_made}
use Rattle.row_reasoning.proofs.differences.shape.pair_of.Goals as goal

pub returns-in-Some : goal.returns-in-Some
returns-in-Some c = pair_made c.args.pool.now c.args.number c.in-Some.node c.in-Some.ensures c.pair_in.result c.pair_in.ensures

pub returns-in-None : goal.returns-in-None
returns-in-None c = Past c.in-None.ensures
