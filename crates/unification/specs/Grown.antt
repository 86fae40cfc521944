-- Slots that are extended.
use Rattle.std.specs.Prelude.{◌≡◌, ℕ, ◌<◌, ◌≤◌, List, length}
use Rattle.unification.specs.Slots.{Typing, Meets, Fits, IsOpen, slot_at}
use Rattle.unification.specs.declared.type_variables.slots.Slot.{Slot}

-- two typings give the first n type variables the same types
abbrev pub SameTo : ℕ → Typing → Typing → Type 0
SameTo n t u = (p : ℕ) → p < n → u p ≡ t p

-- The typings that meet the old slots and F are, as far as the old type variables go, those that meet the new slots and
-- G. No bound variable becomes open, and no new one is open.
pub record Grows (old : List Slot) (F : Typing → Type 0) (new : List Slot) (G : Typing → Type 0) : Type 0 where
  pub fits : Fits new
  pub longer : length old ≤ length new
  pub opens : (p : ℕ) → p < length new → IsOpen (slot_at new p) → (p < length old) × IsOpen (slot_at old p)
  pub forth : (t : Typing) → Meets old t → F t → (u : Typing) × (SameTo (length old) t u × Meets new u × G u)
  pub back : (t : Typing) → Meets new t → G t → Meets old t × F t
