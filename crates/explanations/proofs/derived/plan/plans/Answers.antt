use Rattle.std.proofs.Common.{◌-◌, arith}
use Rattle.explanations.proofs.PlanLemmas.{plans_next}
use Rattle.explanations.proofs.derived.plan.plans.Goals as goal

pub loop-rest-preserved : goal.loop-rest-preserved
loop-rest-preserved c = record {
  plans = plans_next c.args.pool.now c.args.graph.nodes.now c.args.graph.links.now c.args.graph.numbers.now c.requires.graph c.loop-rest.rest (c.loop-rest.rest - 1) c.loop-rest.needed.items c.next_plan.new.needed.items c.loop-rest.plans.items c.push.new.self.items c.in_ok-plan.plan (omega (arith, c.loop-rest-test.true)) c.loop-rest.invariant.plans c.in_ok-plan.ensures.needed c.in_ok-plan.ensures.plan c.in_ok-push.ensures.items;
  stays = λ k h. c.in_ok-plan.ensures.stays k (c.loop-rest.invariant.stays k h);
}
