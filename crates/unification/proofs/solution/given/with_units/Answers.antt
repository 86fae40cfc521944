use Rattle.std.proofs.Common.{◌<◌, ℕ, List, length, sym, ap, subst, ◌∙◌}
use Rattle.std.specs.Prelude.{slice_index}
use Rattle.unification.specs.declared.type_variables.slots.Sort.TheVariants.{Any}
use Rattle.unification.specs.declared.type_variables.slots.Slot.{Slot}
use Rattle.unification.proofs.WritingBack.{written_back}
use Rattle.unification.specs.Roots.{AreRoots}
use Rattle.unification.specs.Given.{Gives, IsDropped}
use Rattle.unification.proofs.solution.given.with_units.Goals as goal

pub give_units-requires-clause-roots : goal.give_units-requires-clause-roots
give_units-requires-clause-roots c = subst (λ (s : List Slot). AreRoots s c.args.roots.now (length s)) (sym c.deref_mut.ensures.value) c.requires.roots

pub give_units-requires-clause-within : goal.give_units-requires-clause-within
give_units-requires-clause-within c = subst (λ (s : List Slot). (k : ℕ) → k < length c.args.dropped.now → slice_index c.args.dropped.now k < length s) (sym c.deref_mut.ensures.value) c.requires.within

pub returns : goal.returns
returns c = subst (λ (s : List Slot). Gives c.args.slots.items s Any c.args.unit.now (IsDropped c.args.roots.now c.args.dropped.now (length c.args.dropped.now)))
    (sym (written_back c.args.slots.len c.args.slots.items c.give_units.new.slots c.args.slots.ok.0 (c.give_units.auto.slots ∙ ap length c.deref_mut.ensures.value)))
    (subst (λ (s : List Slot). Gives s c.give_units.new.slots Any c.args.unit.now (IsDropped c.args.roots.now c.args.dropped.now (length c.args.dropped.now))) c.deref_mut.ensures.value c.give_units.ensures)
