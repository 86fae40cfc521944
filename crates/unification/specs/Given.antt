-- Open slots that are given a default type.
use Rattle.std.specs.Prelude.{◌≡◌, ◌⊎◌, ℕ, ◌<◌, false, List, length, slice_index, Option, Some, None}
use Rattle.base.specs.TypeData.{TypeData, IntType}
use Rattle.base.specs.declared.types.Width.{Width}
use Rattle.typing_rules.specs.Sorts.{is_integer}
use Rattle.unification.specs.Slots.{slot_at}
use Rattle.unification.specs.declared.type_variables.slots.Sort.{Sort}
use Rattle.unification.specs.declared.type_variables.slots.Term.TheVariants.{Variable, Closed, Made, Grouped}
use Rattle.unification.specs.declared.type_variables.slots.Slot.{Slot}
use Rattle.unification.specs.declared.type_variables.slots.Slot.TheVariants.{Open, Bound}

-- the slot has this type, as a written one
abbrev pub IsGiven : TypeData → Slot → Type 0
IsGiven of (Open s) = ⊥
IsGiven of (Bound (Variable q)) = ⊥
IsGiven of (Bound (Closed x)) = x.now ≡ of
IsGiven of (Bound (Made w q)) = ⊥
IsGiven of (Bound (Grouped g first n)) = ⊥

-- the slot has no written integer type
abbrev pub GivesNoInteger : Slot → Type 0
GivesNoInteger (Open s) = Unit {0}
GivesNoInteger (Bound (Variable q)) = Unit {0}
GivesNoInteger (Bound (Closed x)) = is_integer x.now ≡ false
GivesNoInteger (Bound (Made w q)) = Unit {0}
GivesNoInteger (Bound (Grouped g first n)) = Unit {0}

-- the width of the integer type that a slot has
abbrev pub WidthOf : Slot → Option Width → Type 0
WidthOf slot None = GivesNoInteger slot
WidthOf slot (Some w) = IsGiven (IntType w) slot

-- an open slot of this sort is given the type, any other one is unchanged
abbrev pub GivesOne : Sort → TypeData → Slot → Slot → Type 0
GivesOne sort of old new = ((old ≡ Open sort) × IsGiven of new) ⊎ ((new ≡ old) × (old ≡ Open sort → ⊥))

-- the first so many slots
pub record GivesTo (old new : List Slot) (sort : Sort) (of : TypeData) (n : ℕ) : Type 0 where
  pub count : length new ≡ n
  pub each : (p : ℕ) → p < n → GivesOne sort of (slot_at old p) (slot_at new p)

-- Those open slots of this sort for which `Required` holds are given the type, and no other slot changes.
pub record Gives (old new : List Slot) (sort : Sort) (of : TypeData) (Required : ℕ → Type 0) : Type 0 where
  pub same_length : length new ≡ length old
  pub each : (p : ℕ) → p < length old → (slot_at new p ≡ slot_at old p) ⊎ ((slot_at old p ≡ Open sort) × IsGiven of (slot_at new p))
  pub given : (p : ℕ) → p < length old → Required p → slot_at old p ≡ Open sort → IsGiven of (slot_at new p)
  pub only : (p : ℕ) → p < length old → slot_at old p ≡ Open sort → IsGiven of (slot_at new p) → Required p

abbrev pub AnyVariable : ℕ → Type 0
AnyVariable p = Unit {0}

-- the type variable is the representative of one of the first so many dropped ones
abbrev pub IsDropped : List ℕ → List ℕ → ℕ → ℕ → Type 0
IsDropped roots dropped n p = (k : ℕ) × ((k < n) × (slice_index roots (slice_index dropped k) ≡ p))
