use Rattle.std.proofs.Common.{◌+◌, ◌∙◌, length, ℕ, List, ap, sym, subst}
use Rattle.unification.specs.Slots.{Meets, Fits}
use Rattle.unification.specs.declared.type_variables.slots.Sort.TheVariants.{Any}
use Rattle.unification.specs.declared.type_variables.slots.Slot.{Slot}
use Rattle.unification.specs.declared.type_variables.slots.Slot.TheVariants.{Open}
use Rattle.unification.proofs.Adding.{fits_more, meets_open, length_more}
use Rattle.unification.proofs.type_variables.open.open_slots.Goals as goal

pub loop-i-preserved : goal.loop-i-preserved
loop-i-preserved c =
    let pushed = c.in_ok-push.ensures.items in
    record {
      same_length = ap length pushed ∙ length_more c.loop-i.slots.items (Open Any) ∙ ap (λ (n : ℕ). n + 1) c.loop-i.invariant.same_length;
      fits = subst (λ (s : List Slot). Fits s) (sym pushed) (fits_more c.loop-i.slots.items (Open Any) c.loop-i.invariant.fits tt);
      start = λ t. subst (λ (s : List Slot). Meets s t) (sym pushed) (meets_open c.loop-i.slots.items t (c.loop-i.invariant.start t));
    }
