-- What is known of the owner of a field.
use Rattle.std.specs.Prelude.{◌≡◌, ℕ, List, length, Option, Some, None}
use Rattle.typing_rules.specs.Sorts as R
use Rattle.typing_rules.specs.Rules.{Agree}
use Rattle.unification.specs.Slots.{Typing, value, Meets, TermWithin}
use Rattle.unification.specs.Heads.{StructOf, StructWithin, StructOpen}
use Rattle.unification.specs.declared.type_variables.slots.Slot.{Slot}
use Rattle.unification.specs.declared.type_variables.slots.Term.{Term}
use Rattle.unification.specs.declared.type_variables.heads.StructSeen.{StructSeen}
use Rattle.type_solver.specs.Equations.{Keeps}

-- it is settled whether the type of the variable is a reference, and the term is that type, or the type that it points
-- at
pub record OwnerSaid (old new : List Slot) (from : ℕ) (x : Term) : Type 0 where
  pub grows : Keeps old new
  pub settled : Agree (Meets old) R.kind from
  pub is : (t : Typing) → Meets new t → R.behind (t from) ≡ value t x
  pub within : TermWithin (length new) x

pub record OwnerOpen (old : List Slot) (from : ℕ) : Type 0 where
  pub differ : (t : Typing) → Meets old t → Agree (Meets old) R.kind from → ⊥

abbrev pub OwnerSays : List Slot → List Slot → ℕ → Option Term → Type 0
OwnerSays old new from None = OwnerOpen old from
OwnerSays old new from (Some x) = OwnerSaid old new from x

-- and what is known of its struct
pub record StructSaid (old new : List Slot) (from : ℕ) (x : Term) (seen : StructSeen) : Type 0 where
  pub owner : OwnerSaid old new from x
  pub of : (t : Typing) → Meets new t → StructOf t (value t x) seen
  pub within : StructWithin (length new) seen
  pub unseen : StructOpen new x seen
