use Rattle.std.proofs.Common.{Bool, IsTrue, subst}
use Rattle.unification.specs.Slots.{Becomes}
use Rattle.unification.specs.Asks.{Has, EachHas}
use Rattle.unification.proofs.Becoming.{then}
use Rattle.unification.proofs.Asking.{within_less}
use Rattle.unification.proofs.Joining.{taken, refused, accepted}
use Rattle.unification.proofs.type_variables.joins.run.Goals as goal

pub step-requires-clause-variable : goal.step-requires-clause-variable
step-requires-clause-variable c = (within_less _ c.loop-ask.asks.items c.pop.new.self.items c.in-Some.ask c.in-Some.ensures.items c.loop-ask.invariant.asks).0

pub step-requires-clause-term : goal.step-requires-clause-term
step-requires-clause-term c = (within_less _ c.loop-ask.asks.items c.pop.new.self.items c.in-Some.ask c.in-Some.ensures.items c.loop-ask.invariant.asks).1

pub step-requires-clause-asks : goal.step-requires-clause-asks
step-requires-clause-asks c = (within_less _ c.loop-ask.asks.items c.pop.new.self.items c.in-Some.ask c.in-Some.ensures.items c.loop-ask.invariant.asks).2

pub returns-then-not-branch : goal.returns-then-not-branch
returns-then-not-branch c = refused c.args.slots.now c.step.new.slots c.step.new.asks.items (λ t. EachHas t c.args.asks.now.items)
    (then c.loop-ask.invariant.becomes (then (taken c.loop-ask.slots c.loop-ask.asks.items c.pop.new.self.items c.in-Some.ask c.loop-ask.invariant.becomes.fits c.in-Some.ensures.items)
    (subst (λ (b : Bool). Becomes c.loop-ask.slots (λ t. Has t c.in-Some.ask × EachHas t c.pop.new.self.items) c.step.new.slots (λ t. IsTrue b × EachHas t c.step.new.asks.items)) c.if-not-branch.true c.in_ok-step.ensures.becomes)))

pub loop-ask-preserved : goal.loop-ask-preserved
loop-ask-preserved c = record {
  becomes = accepted c.args.slots.now c.step.new.slots c.step.new.asks.items (λ t. EachHas t c.args.asks.now.items)
      (then c.loop-ask.invariant.becomes (then (taken c.loop-ask.slots c.loop-ask.asks.items c.pop.new.self.items c.in-Some.ask c.loop-ask.invariant.becomes.fits c.in-Some.ensures.items)
      (subst (λ (b : Bool). Becomes c.loop-ask.slots (λ t. Has t c.in-Some.ask × EachHas t c.pop.new.self.items) c.step.new.slots (λ t. IsTrue b × EachHas t c.step.new.asks.items)) c.if-not-branch.false c.in_ok-step.ensures.becomes)));
  asks = c.in_ok-step.ensures.asks;
}
