-- The representative of one more variable.
use Rattle.std.proofs.Common.{◌≡◌, ℕ, ◌+◌, ◌<◌, List, [], ◌∷◌, ◌++◌, length, length-append, refl, sym, ap, subst, ◌∙◌, inl, inr, arith}
use Rattle.std.specs.Prelude.{slice_index}
use Rattle.std.proofs.lemmas.Bool.Decides.{eqb_tells}
use Rattle.std.proofs.lemmas.List.{get_or_push, get_or_append_left}
use Rattle.unification.specs.Slots.{SlotMeets, SlotFits, Fits, IsRoot, slot_at}
use Rattle.unification.specs.declared.type_variables.slots.Term.TheVariants.{Variable}
use Rattle.unification.specs.declared.type_variables.slots.Slot.{Slot}
use Rattle.unification.specs.declared.type_variables.slots.Slot.TheVariants.{Bound}
use Rattle.unification.specs.Roots.{IsRootOf, AreRoots}

pub no_roots : (slots : List Slot) → AreRoots slots [] 0
no_roots slots = record {
  count = refl;
  each = λ p lt. absurd (omega (arith, lt));
}

pub root_more : (slots : List Slot) (roots : List ℕ) (i q : ℕ) → AreRoots slots roots i → IsRootOf slots i q → AreRoots slots (roots ++ q ∷ []) (i + 1)
root_more slots roots i q are is = record {
  count = length-append roots (q ∷ []) ∙ ap (λ (n : ℕ). n + 1) are.count;
  each = λ p lp. elim (eqb_tells p i) [
    | inl e ↦ subst (λ (x : ℕ). IsRootOf slots x (slice_index (roots ++ q ∷ []) x)) (sym e.1)
        (subst (λ (x : ℕ). IsRootOf slots i x) (sym (get_or_push roots q 0 i are.count)) is)
    | inr e ↦ (let less : p < i = omega (arith, lp, e.1) in
        subst (λ (x : ℕ). IsRootOf slots p x) (sym (get_or_append_left roots (q ∷ []) 0 p (subst (λ (n : ℕ). p < n) (sym are.count) less))) (are.each p less))
  ];
}

pub own_root : (slots : List Slot) (p : ℕ) → p < length slots → IsRoot (slot_at slots p) → IsRootOf slots p p
own_root slots p lt is = record { within = lt; is_root = is; same = λ t m. refl }

pub linked_below : (slots : List Slot) (p next : ℕ) → Fits slots → p < length slots → slot_at slots p ≡ Bound (Variable next) → next < p
linked_below slots p next fits lt e = let h : next < p = subst (λ (x : Slot). SlotFits (length slots) p x) e (fits.each p lt) in h

pub linked_root : (slots : List Slot) (roots : List ℕ) (p next : ℕ) → Fits slots → AreRoots slots roots p → p < length slots → slot_at slots p ≡ Bound (Variable next) →
    IsRootOf slots p (slice_index roots next)
linked_root slots roots p next fits are lt e =
    let h = are.each next (linked_below slots p next fits lt e) in record {
      within = h.within;
      is_root = h.is_root;
      same = λ t m. (let s : t p ≡ t next = subst (λ (x : Slot). SlotMeets t p x) e (m.each p lt) in s) ∙ h.same t m;
    }
