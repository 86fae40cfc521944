use Rattle.std.proofs.Common.{ℕ, List, map, take, get_or, subst, sym, take_all}
use Rattle.typing_rules.specs.Flows.{Flow, quiet}
use Rattle.typing_rules.specs.Pieces.{in_order, piece_at}
use Rattle.definite_assignment.specs.Shown.{Shows}
use Rattle.definite_assignment.proofs.PieceLaws.{order_next}
use Rattle.definite_assignment.proofs.forms.in_order.Goals as goal

pub loop-part-preserved : goal.loop-part-preserved
loop-part-preserved c = λ base done all.
    let parts = c.args.parts.now in
    let k = c.loop-part.part-index in
    let part = get_or parts k 0 in
    let one = all.each part c.summary_at.result.now c.summary_at.ensures in
    subst (λ (flow : Flow). Shows base c.then-effects.result flow) (sym (order_next done parts k c.loop-part-test.true))
    (c.then-effects.ensures base (in_order quiet (map (piece_at done) (take k parts))) (piece_at done part).flow (c.loop-part.invariant base done all) one.flow)

pub returns : goal.returns
returns c = λ base done all.
    subst (λ (xs : List ℕ). Shows base c.loop-part.effects (in_order quiet (map (piece_at done) xs))) (take_all c.loop-part.part-index c.args.parts.now c.loop-part-test.false) (c.loop-part.invariant base done all)
