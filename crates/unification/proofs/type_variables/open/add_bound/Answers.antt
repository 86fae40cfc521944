use Rattle.std.proofs.Common.{sym, subst, List}
use Rattle.unification.specs.Grown.{Grows}
use Rattle.unification.specs.declared.type_variables.slots.Slot.{Slot}
use Rattle.unification.proofs.Adding.{added}
use Rattle.unification.proofs.type_variables.open.add_bound.Goals as goal

pub returns-clause-grows : goal.returns-clause-grows
returns-clause-grows c = subst (λ (new : List Slot). Grows c.args.slots.now.items (λ t. Unit {0}) new (λ t. Unit {0})) (sym c.in_ok-push.ensures.items)
    (added c.args.slots.now.items c.args.term c.requires.fits c.requires.term)
