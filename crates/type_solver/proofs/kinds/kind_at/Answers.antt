use Rattle.std.proofs.Common.{◌∙◌, List, length, ap, sym, subst}
use Rattle.unification.specs.Slots.{Typing, Meets}
use Rattle.unification.specs.Heads.{KindOf, KindWithin, KindOpen}
use Rattle.unification.specs.declared.type_variables.slots.Slot.{Slot}
use Rattle.unification.proofs.WritingBack.{stays_in, written_back}
use Rattle.type_solver.proofs.kinds.kind_at.Goals as goal

pub returns-clause-keeps : goal.returns-clause-keeps
returns-clause-keeps c = stays_in c.args.slots.now.len c.args.slots.now.items c.deref_mut.result.now c.kind_seen.new.slots c.args.slots.now.ok.0 c.kind_seen.auto.slots c.deref_mut.ensures.value c.kind_seen.ensures.becomes

pub returns-clause-said : goal.returns-clause-said
returns-clause-said c = record {
  grows = stays_in c.args.slots.now.len c.args.slots.now.items c.deref_mut.result.now c.kind_seen.new.slots c.args.slots.now.ok.0 c.kind_seen.auto.slots c.deref_mut.ensures.value c.kind_seen.ensures.becomes;
  of = subst (λ (s : List Slot). (t : Typing) → Meets s t → KindOf t (t c.args.variable) c.kind_seen.result) (sym (written_back c.args.slots.now.len c.args.slots.now.items c.kind_seen.new.slots c.args.slots.now.ok.0 (c.kind_seen.auto.slots ∙ ap length c.deref_mut.ensures.value))) c.kind_seen.ensures.of;
  within = subst (λ (s : List Slot). KindWithin (length s) c.kind_seen.result) (sym (written_back c.args.slots.now.len c.args.slots.now.items c.kind_seen.new.slots c.args.slots.now.ok.0 (c.kind_seen.auto.slots ∙ ap length c.deref_mut.ensures.value))) c.kind_seen.ensures.within;
  unseen = subst (λ (s : List Slot). KindOpen s c.args.variable c.kind_seen.result) (sym (written_back c.args.slots.now.len c.args.slots.now.items c.kind_seen.new.slots c.args.slots.now.ok.0 (c.kind_seen.auto.slots ∙ ap length c.deref_mut.ensures.value))) c.kind_seen.ensures.open;
}
