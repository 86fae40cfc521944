use Rattle.congruence_closure.specs.Numbers.{number_at}
use Rattle.explanations.proofs.GrowthLemmas.{far_term}
use Rattle.explanations.proofs.RouteLemmas.{put_at}
use Rattle.explanations.proofs.derived.route.pass.Goals as goal

pub returns-in-Some-clause-at : goal.returns-in-Some-clause-at
returns-in-Some-clause-at c =
    let can = c.requires.pass in
    put_at c.args.pool.now c.put_right.new.pool c.put_right.ensures.extends c.put_right.new.self c.args.left c.number_of-to.result (number_at c.args.numbers.now c.args.join.far) c.number_of-to.ensures c.requires.source.left_term
    (far_term c.args.pool.now c.args.chain.now can.position (number_at c.args.numbers.now c.args.join.near) (number_at c.args.numbers.now c.args.join.far) can.equation) c.put_right.result c.put_right.ensures.at
