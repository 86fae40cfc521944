use Rattle.typing_rules.specs.Flows.{Broken, Either, Jump}
use Rattle.typing_rules.specs.Pieces.{piece_at}
use Rattle.definite_assignment.proofs.points.entering.at_while.Goals as goal

pub returns : goal.returns
returns c = λ i base pieces state h all.
    let f = (piece_at pieces c.args.test).flow in
    let g = (piece_at pieces c.args.body).flow in
    let test = (all.each c.args.test c.summary_at.result.now c.summary_at.ensures).flow in
    let body = (all.each c.args.body c.summary_at-2.result.now c.summary_at-2.ensures).flow in
    c.at_turns.ensures i base f (Either (Jump Broken) g) state h test (c.either-body.ensures base (Jump Broken) g (c.broken.ensures base) body)
