-- Slots that are changed as a slice of a vector.
use Rattle.std.proofs.Common.{◌≡◌, ℕ, ◌++◌, List, [], length, take, drop, sym, ap, subst, ◌∙◌}
use Rattle.std.proofs.Math.Seq.{take-length, drop-length}
use Rattle.std.proofs.lemmas.List.{append-nil}
use Rattle.unification.specs.Slots.{Typing, Becomes}
use Rattle.unification.specs.Grown.{Grows}
use Rattle.unification.specs.declared.type_variables.slots.Slot.{Slot}
use Rattle.unification.proofs.Growing.{stays}

none_left : (xs : List Slot) (n : ℕ) → n ≡ length xs → drop n xs ≡ []
none_left xs n e = ap (λ (k : ℕ). drop k xs) e ∙ drop-length xs

pub written_back : (n : ℕ) (old new : List Slot) → n ≡ length old → length new ≡ length old → take n (new ++ drop (length new) old) ≡ new
written_back n old new e len = ap (λ (rest : List Slot). take n (new ++ rest)) (none_left old (length new) len) ∙ ap (take n) (append-nil new) ∙ ap (λ (k : ℕ). take k new) (e ∙ sym len) ∙ take-length new

pub stays_in : {F G : Typing → Type 0} → (n : ℕ) (old slice new : List Slot) → n ≡ length old → length new ≡ length slice → slice ≡ old →
    Becomes slice F new G → Grows old F (take n (new ++ drop (length new) old)) G
stays_in {F} {G} n old slice new e len same b =
    subst (λ (after : List Slot). Grows old F after G) (sym (written_back n old new e (len ∙ ap length same)))
    (subst (λ (before : List Slot). Grows before F new G) same (stays b))
