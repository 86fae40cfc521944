-- The representatives of unified type variables.
use Rattle.std.specs.Prelude.{◌≡◌, ℕ, ◌<◌, List, length, slice_index}
use Rattle.unification.specs.Slots.{Typing, Meets, IsRoot, slot_at}
use Rattle.unification.specs.declared.type_variables.slots.Slot.{Slot}

-- the second type variable is the representative of the first: it refers to no other variable, and both have one type
pub record IsRootOf (slots : List Slot) (p q : ℕ) : Type 0 where
  pub within : q < length slots
  pub is_root : IsRoot (slot_at slots q)
  pub same : (t : Typing) → Meets slots t → t p ≡ t q

-- the representatives of the first so many
pub record AreRoots (slots : List Slot) (roots : List ℕ) (n : ℕ) : Type 0 where
  pub count : length roots ≡ n
  pub each : (p : ℕ) → p < n → IsRootOf slots p (slice_index roots p)
