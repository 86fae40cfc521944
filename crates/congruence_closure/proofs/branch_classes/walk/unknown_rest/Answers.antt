use Rattle.congruence_closure.proofs.NumberLemmas.{rest_less, rest_inside}
use Rattle.congruence_closure.proofs.branch_classes.walk.unknown_rest.Goals as goal

pub returns-in-Some-clause-less : goal.returns-in-Some-clause-less
returns-in-Some-clause-less c = rest_less c.args.pool.now c.args.list c.in-Some.node c.rest_of.result c.in-Some.ensures c.rest_of.ensures

pub returns-in-Some-clause-inside : goal.returns-in-Some-clause-inside
returns-in-Some-clause-inside c = rest_inside c.args.pool.now c.args.list c.in-Some.node c.rest_of.result c.in-Some.ensures c.rest_of.ensures
