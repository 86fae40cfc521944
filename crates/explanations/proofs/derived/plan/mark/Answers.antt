use Rattle.std.proofs.Common.{subst, length}
use Rattle.std.proofs.lemmas.List.{take_all}
use Rattle.explanations.specs.Plans.{IsOn, AreMarked}
use Rattle.explanations.proofs.PlanLemmas.{route_begun, route_link, route_next}
use Rattle.explanations.proofs.derived.plan.mark.Goals as goal

pub loop-join-init : goal.loop-join-init
loop-join-init c = route_begun c.args.route.now c.args.needed.now.items

pub mark_one-requires : goal.mark_one-requires
mark_one-requires c = route_link c.args.route.now c.loop-join.join-index (length c.args.needed.now.items) (length c.loop-join.needed.items) _ c.loop-join-test.true c.loop-join.invariant.long c.requires

pub loop-join-preserved : goal.loop-join-preserved
loop-join-preserved c = route_next c.args.route.now c.loop-join.join-index _ c.args.needed.now.items c.loop-join.needed.items c.mark_one.new.needed.items c.loop-join-test.true c.loop-join.invariant c.mark_one.ensures

pub returns : goal.returns
returns c = subst (λ route. AreMarked (IsOn route) c.args.needed.now.items c.loop-join.needed.items) (take_all c.loop-join.join-index c.args.route.now c.loop-join-test.false) c.loop-join.invariant
