-- The struct that the type of a variable is, or points at, as slots determine it.
use Rattle.std.specs.Prelude.{◌≡◌, ℕ, List, Option, Some, None, slice_index}
use Rattle.base.specs.declared.types.StructId.{StructId}
use Rattle.unification.specs.Slots.{Typing, Meets, slot_at}
use Rattle.unification.specs.declared.type_variables.slots.Wrap.{Wrap}
use Rattle.unification.specs.declared.type_variables.slots.Wrap.TheVariants.{Vector, Shared, Mutable}
use Rattle.unification.specs.declared.type_variables.slots.Group.{Group}
use Rattle.unification.specs.declared.type_variables.slots.Group.TheVariants.{Struct, Tuple}
use Rattle.unification.specs.declared.type_variables.slots.Term.TheVariants.{Variable, Closed, Made, Grouped}
use Rattle.unification.specs.declared.type_variables.slots.Slot.{Slot}
use Rattle.unification.specs.declared.type_variables.slots.Slot.TheVariants.{Open, Bound}
use Rattle.typing_rules.specs.Sorts.{behind, struct_in}

-- the struct that it is, or points at, in all typings; or a typing in which there is none
abbrev pub OwnerSays : List Slot → ℕ → Option StructId → Type 0
OwnerSays slots p None = (t : Typing) × (Meets slots t × (struct_in (behind (t p)) ≡ None))
OwnerSays slots p (Some id) = (t : Typing) → Meets slots t → struct_in (behind (t p)) ≡ Some id

abbrev pub GroupIs : Group → Option StructId → Type 0
GroupIs (Struct s) found = found ≡ Some s.now
GroupIs Tuple found = found ≡ None

-- the struct of a slot that does not refer to another variable
abbrev pub SlotIs : Slot → Option StructId → Type 0
SlotIs (Open s) found = found ≡ None
SlotIs (Bound (Variable q)) found = Unit {0}
SlotIs (Bound (Closed of)) found = found ≡ struct_in of.now
SlotIs (Bound (Made w q)) found = found ≡ None
SlotIs (Bound (Grouped g first n)) found = GroupIs g found

-- the struct that a reference points at, where this slot is that of its target
abbrev pub MadeOwner : Slot → Wrap → Option StructId → Type 0
MadeOwner to Vector found = found ≡ None
MadeOwner to Shared found = SlotIs to found
MadeOwner to Mutable found = SlotIs to found

-- the struct that the type of a slot is, or points at
abbrev pub SlotOwner : List Slot → List ℕ → Slot → Option StructId → Type 0
SlotOwner slots roots (Open s) found = found ≡ None
SlotOwner slots roots (Bound (Variable q)) found = Unit {0}
SlotOwner slots roots (Bound (Closed of)) found = found ≡ struct_in (behind of.now)
SlotOwner slots roots (Bound (Made w q)) found = MadeOwner (slot_at slots (slice_index roots q)) w found
SlotOwner slots roots (Bound (Grouped g first n)) found = GroupIs g found
