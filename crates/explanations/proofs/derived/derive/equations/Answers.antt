use Rattle.std.proofs.Common.{◌∙◌, length, sym, ap, subst, arith}
use Rattle.std.proofs.lemmas.List.{length_push, nil_from_length}
use Rattle.term_pool.proofs.GrowthLemmas.{extends_itself, extends_then}
use Rattle.explanations.proofs.ChainLemmas.{keeps_itself}
use Rattle.explanations.specs.Derivations.{ArePlaced}
use Rattle.explanations.proofs.GrowthLemmas.{keeps_then}
use Rattle.explanations.proofs.DeriveLemmas.{next_ready, next_begun, plan_next, plans_left}
use Rattle.explanations.proofs.derived.derive.equations.Goals as goal

pub loop-plan-init : goal.loop-plan-init
loop-plan-init c = record {
  extends = extends_itself c.args.pool.now;
  positions = c.requires.positions;
  keeps = keeps_itself c.args.chain.now;
  count = (let l = ap length c.new-equations.ensures.items in let o = c.requires.plans.one_each in omega (arith, l, o));
  each = c.requires.plans.each;
  placed = record { each = λ i w n. absurd (let l = ap length c.new-equations.ensures.items in omega (arith, w, l)) };
  chain = λ b h can. h;
}

pub next_equation-requires-clause-ready : goal.next_equation-requires-clause-ready
next_equation-requires-clause-ready c =
    let of = plan_next c.args.pool.now c.args.graph.nodes.now c.args.graph.links.now c.args.graph.numbers.now c.args.needed.now c.loop-plan.plans.items c.pop.new.self.items c.in-Some.plan (length c.loop-plan.equations.items) c.in-Some.ensures.items c.loop-plan.invariant.count c.loop-plan.invariant.each in
    next_ready c.args.pool.now c.loop-plan.pool c.args.graph.nodes.now c.loop-plan.invariant.extends c.args.graph.links.now c.args.graph.numbers.now c.requires.graph c.args.chain.now c.loop-plan.chain c.loop-plan.invariant.keeps c.requires.said c.args.needed.now c.loop-plan.equations.items c.in-Some.plan c.as_slice-found.result.now c.as_slice-found.ensures.value of c.loop-plan.invariant.placed

pub loop-plan-smaller : goal.loop-plan-smaller
loop-plan-smaller c = let l = ap length c.in-Some.ensures.items ∙ length_push c.pop.new.self.items c.in-Some.plan in omega (arith, l)

pub loop-plan-preserved : goal.loop-plan-preserved
loop-plan-preserved c =
    let of = plan_next c.args.pool.now c.args.graph.nodes.now c.args.graph.links.now c.args.graph.numbers.now c.args.needed.now c.loop-plan.plans.items c.pop.new.self.items c.in-Some.plan (length c.loop-plan.equations.items) c.in-Some.ensures.items c.loop-plan.invariant.count c.loop-plan.invariant.each in
    record {
      extends = extends_then c.loop-plan.invariant.extends c.next_equation.ensures.extends;
      positions = c.in_ok-next_equation.ensures.positions;
      keeps = keeps_then c.args.chain.now c.loop-plan.chain c.next_equation.new.chain c.loop-plan.invariant.keeps c.in_ok-next_equation.ensures.keeps;
      count = (let l = ap length c.in-Some.ensures.items ∙ length_push c.pop.new.self.items c.in-Some.plan in let m = c.in_ok-next_equation.ensures.long in let o = c.loop-plan.invariant.count in omega (arith, l, m, o));
      each = plans_left c.args.pool.now c.args.graph.nodes.now c.args.graph.links.now c.args.graph.numbers.now c.args.needed.now c.loop-plan.plans.items c.pop.new.self.items c.in-Some.plan c.in-Some.ensures.items c.loop-plan.invariant.each;
      placed = c.in_ok-next_equation.ensures.placed;
      chain = λ b h can. c.in_ok-next_equation.ensures.chain b (c.loop-plan.invariant.chain b h can) (next_begun c.args.pool.now c.loop-plan.pool c.args.graph.nodes.now c.loop-plan.invariant.extends c.args.graph.links.now c.args.graph.numbers.now c.requires.graph b c.args.chain.now c.loop-plan.chain c.loop-plan.invariant.keeps c.args.needed.now (length c.loop-plan.equations.items) c.in-Some.plan c.as_slice-found.result.now c.as_slice-found.ensures.value of can);
    }

pub returns-clause-placed : goal.returns-clause-placed
returns-clause-placed c =
    let none = ap length (nil_from_length c.loop-plan.plans.items (sym c.loop-plan.plans.ok.0 ∙ c.in_default.ensures.cases.0)) in
    let o = c.loop-plan.invariant.count in
    subst (ArePlaced c.loop-plan.pool c.loop-plan.chain c.args.graph.links.now c.args.graph.numbers.now c.args.needed.now c.loop-plan.equations.items) (omega (arith, none, o)) c.loop-plan.invariant.placed
