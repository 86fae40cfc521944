use Rattle.std.proofs.Common.{ℕ, List, subst}
use Rattle.std.specs.Prelude.{slice_index}
use Rattle.unification.specs.Slots.{slot_at}
use Rattle.unification.specs.declared.type_variables.slots.Slot.{Slot}
use Rattle.unification.specs.Given.{WidthOf}
use Rattle.unification.proofs.Deciding.{width_says}
use Rattle.unification.proofs.solution.choice.integer_width.Goals as goal

pub returns : goal.returns
returns c = width_says c.args.defaulted.now c.args.variable c.width_at.result c.requires.sound c.requires.within
    (subst (λ (ss : List Slot). WidthOf (slot_at ss (slice_index c.args.defaulted.now.roots.items c.args.variable)) c.width_at.result) c.deref.ensures.value
    (subst (λ (rs : List ℕ). WidthOf (slot_at c.deref.result.now (slice_index rs c.args.variable)) c.width_at.result) c.deref-2.ensures.value c.width_at.ensures))
