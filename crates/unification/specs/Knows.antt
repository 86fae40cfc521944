-- The set of typings that slots describe.
use Rattle.std.specs.Prelude.{ℕ, ◌<◌, ◌≤◌, List, length}
use Rattle.unification.specs.Slots.{Typing, Meets, Fits, IsOpen, slot_at}
use Rattle.unification.specs.Grown.{SameTo}
use Rattle.unification.specs.declared.type_variables.slots.Slot.{Slot}

-- Restricted to the first n type variables, the typings that meet the slots are these; and each open variable is one of
-- those n.
pub record Knows (slots : List Slot) (n : ℕ) (These : Typing → Type 0) : Type 0 where
  pub fits : Fits slots
  pub longer : n ≤ length slots
  pub opens : (p : ℕ) → p < length slots → IsOpen (slot_at slots p) → p < n
  pub to : (t : Typing) → These t → (u : Typing) × (SameTo n t u × Meets slots u)
  pub from : (t : Typing) → Meets slots t → These t
