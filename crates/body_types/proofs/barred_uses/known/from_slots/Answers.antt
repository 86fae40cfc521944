use Rattle.unification.specs.Slots.{Typing, Meets}
use Rattle.unification.specs.Ranked.{IsRanking}
use Rattle.unification.proofs.Options.{at_none, at_some}
use Rattle.body_types.proofs.Steps.{none_known, some_known}
use Rattle.body_types.proofs.barred_uses.known.from_slots.Goals as goal

pub returns-in-None : goal.returns-in-None
returns-in-None c s is = none_known s c.args.variables c.args.steps c.args.slots.items c.deref.result.now c.deref.ensures.value
    (at_none _ ((t : Typing) → Meets c.deref.result.now t → ⊥) (λ r. IsRanking c.deref.result.now r.ranks.items r.order.items) c.in-None.is c.in_ok-ranks.ensures) is

pub returns : goal.returns
returns c s is = some_known s (record { variables = c.args.variables; slots = c.args.slots; ranking = c.in-Some.ranking; steps = c.args.steps }) c.deref.result.now c.deref.ensures.value
    (at_some _ ((t : Typing) → Meets c.deref.result.now t → ⊥) (λ r. IsRanking c.deref.result.now r.ranks.items r.order.items) c.in-Some.ranking c.in-Some.is c.in_ok-ranks.ensures) is
