use Rattle.std.proofs.Common.{◌≡◌, ◌<◌, ◌∙◌, List, length, ap, sym, subst}
use Rattle.unification.specs.Slots.{Typing, Meets, IsRoot, slot_at}
use Rattle.unification.specs.declared.type_variables.slots.Slot.{Slot}
use Rattle.unification.proofs.WritingBack.{stays_in, written_back}
use Rattle.unification.proofs.type_variables.heads.root_in.Goals as goal

pub returns-clause-grows : goal.returns-clause-grows
returns-clause-grows c = stays_in c.args.slots.now.len c.args.slots.now.items c.deref_mut.result.now c.root.new.slots c.args.slots.now.ok.0 c.root.auto.slots c.deref_mut.ensures.value c.root.ensures.becomes

pub returns-clause-within : goal.returns-clause-within
returns-clause-within c = subst (λ (s : List Slot). c.root.result < length s) (sym (written_back c.args.slots.now.len c.args.slots.now.items c.root.new.slots c.args.slots.now.ok.0 (c.root.auto.slots ∙ ap length c.deref_mut.ensures.value))) c.root.ensures.within

pub returns-clause-root : goal.returns-clause-root
returns-clause-root c = subst (λ (s : List Slot). IsRoot (slot_at s c.root.result)) (sym (written_back c.args.slots.now.len c.args.slots.now.items c.root.new.slots c.args.slots.now.ok.0 (c.root.auto.slots ∙ ap length c.deref_mut.ensures.value))) c.root.ensures.root

pub returns-clause-same : goal.returns-clause-same
returns-clause-same c = subst (λ (s : List Slot). (t : Typing) → Meets s t → t c.args.variable ≡ t c.root.result) (sym (written_back c.args.slots.now.len c.args.slots.now.items c.root.new.slots c.args.slots.now.ok.0 (c.root.auto.slots ∙ ap length c.deref_mut.ensures.value))) c.root.ensures.same
