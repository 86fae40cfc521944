use Rattle.std.proofs.Common.{subst}
use Rattle.base.specs.TypeData.{TypeData}
use Rattle.unification.specs.Slots.{Typing, Meets}
use Rattle.unification.specs.declared.type_variables.slots.Sort.TheVariants.{Integer}
use Rattle.unification.specs.Ranked.{IsRanking}
use Rattle.unification.proofs.Options.{at_none, at_some}
use Rattle.unification.specs.Given.{Gives, AnyVariable}
use Rattle.unification.proofs.Deciding.{untypable, first_defaults}
use Rattle.unification.proofs.solution.choice.with_defaults.Goals as goal

pub returns-in-None : goal.returns-in-None
returns-in-None c = untypable c.args.slots.now
    (at_none _ ((t : Typing) → Meets c.args.slots.now t → ⊥) (λ r. IsRanking c.args.slots.now r.ranks.items r.order.items) c.in-None.is c.in_ok-ranks.ensures)

pub returns-in_ok-slots-in-Some : goal.returns-in_ok-slots-in-Some
returns-in_ok-slots-in-Some c = first_defaults c.args.slots.now _ c.requires.fits
    (at_some _ ((t : Typing) → Meets c.args.slots.now t → ⊥) (λ r. IsRanking c.args.slots.now r.ranks.items r.order.items) c.in-Some.ranking c.in-Some.is c.in_ok-ranks.ensures)
    c.in_ok-roots-in-Some.ensures
    (subst (λ (of : TypeData). Gives c.args.slots.now c.in_ok-slots-in-Some.slots.items Integer of AnyVariable) c.requires.integer c.in_ok-slots-in-Some.ensures)
