use Rattle.ematching.proofs.TypeLemmas.{variable_is}
use Rattle.ematching.proofs.types.is_variable.Goals as goal

pub returns-in-Some : goal.returns-in-Some
returns-in-Some c = variable_is c.args.pool.now c.args.term c.in-Some.node c.in-Some.ensures c.requires c.are_one.result c.args.variable c.are_one.ensures
