use Rattle.std.proofs.Common.{List, sym, subst}
use Rattle.std.proofs.lemmas.Result.{IfOk-weaker}
use Rattle.unification.specs.Slots.{Fits}
use Rattle.unification.specs.declared.type_variables.slots.Slot.{Slot}
use Rattle.body_types.specs.SpecKnown.{IsKnown}
use Rattle.body_types.proofs.Telling.{known_whole, known_stopped, clash_untypable, variables_inside}
use Rattle.body_types.proofs.spec.typing.typing_of.Goals as goal

pub whole_typing-requires-clause-fits : goal.whole_typing-requires-clause-fits
whole_typing-requires-clause-fits c =
    subst (λ (xs : List Slot). Fits xs) (sym c.deref.ensures.value) (known_whole c.requires.0 c.args.walk.now c.in-Whole.is c.requires.1).0.knows.fits

pub whole_typing-requires-clause-variables : goal.whole_typing-requires-clause-variables
whole_typing-requires-clause-variables c =
    let k : IsKnown c.requires.0 c.deref.result.now c.args.walk.now.variables = subst (λ (xs : List Slot). IsKnown c.requires.0 xs c.args.walk.now.variables) (sym c.deref.ensures.value) (known_whole c.requires.0 c.args.walk.now c.in-Whole.is c.requires.1).0 in
    variables_inside c.requires.0 c.deref.result.now c.args.walk.now.variables k

pub stopped_typing-requires-clause-fits : goal.stopped_typing-requires-clause-fits
stopped_typing-requires-clause-fits c =
    subst (λ (xs : List Slot). Fits xs) (sym c.deref-in-Stopped.ensures.value) (known_stopped c.requires.0 c.args.walk.now c.in-Stopped.is c.requires.1).0.knows.fits

pub stopped_typing-requires-clause-variables : goal.stopped_typing-requires-clause-variables
stopped_typing-requires-clause-variables c =
    let k : IsKnown c.requires.0 c.deref-in-Stopped.result.now c.args.walk.now.variables = subst (λ (xs : List Slot). IsKnown c.requires.0 xs c.args.walk.now.variables) (sym c.deref-in-Stopped.ensures.value) (known_stopped c.requires.0 c.args.walk.now c.in-Stopped.is c.requires.1).0 in
    variables_inside c.requires.0 c.deref-in-Stopped.result.now c.args.walk.now.variables k

pub returns-in-Whole-clause-says : goal.returns-in-Whole-clause-says
returns-in-Whole-clause-says c =
    IfOk-weaker c.whole_typing.result _ _
    (λ typing h s is. let known = known_whole s c.args.walk.now c.in-Whole.is is in
    h s (subst (λ (xs : List Slot). IsKnown s xs c.args.walk.now.variables) (sym c.deref.ensures.value) known.0) known.1)
    c.whole_typing.ensures.says

pub returns-in-Stopped-clause-says : goal.returns-in-Stopped-clause-says
returns-in-Stopped-clause-says c =
    IfOk-weaker c.stopped_typing.result _ _
    (λ typing h s is. let known = known_stopped s c.args.walk.now c.in-Stopped.is is in
    h s (subst (λ (xs : List Slot). IsKnown s xs c.args.walk.now.variables) (sym c.deref-in-Stopped.ensures.value) known.0) known.1)
    c.stopped_typing.ensures.says

pub returns-in-Clash-clause-says : goal.returns-in-Clash-clause-says
returns-in-Clash-clause-says c s is = clash_untypable s c.args.walk.now c.in-Clash.is is
