-- Returned tuples, part by part.
use Rattle.std.specs.Prelude.{◌≡◌, ◌⊎◌, ℕ, ◌+◌, ◌<◌, ◌≤◌, Bool, true, false, List, [], ◌∷◌, length, Option, Some, None}
use Rattle.base.specs.TypeData.{TypeData, TypesData, SharedType, TupleType, types_of}
use Rattle.typing_rules.specs.Sorts as R
use Rattle.typing_rules.specs.Rules.{Agree, Lends}
use Rattle.unification.specs.Slots.{Typing, value, list_at, Meets}
use Rattle.unification.specs.declared.type_variables.slots.Slot.{Slot}
use Rattle.unification.specs.declared.type_variables.slots.Term.{Term}
use Rattle.type_solver.specs.declared.tuples.Parts.{Parts}
use Rattle.type_solver.specs.Equations.{Keeps}

abbrev pub is_shared : TypeData → Bool
is_shared (SharedType t) = true
is_shared _ = false

-- the type is the tuple of the types of these variables, or no tuple
abbrev pub TupleIs : Typing → TypeData → Option Parts → Type 0
TupleIs t a None = (ts : TypesData) → a ≡ TupleType ts → ⊥
TupleIs t a (Some parts) = a ≡ TupleType (types_of (list_at t parts.first parts.count))

-- A variable has the tuple of the types of these; or, where it has a tuple, the kind of no part is settled.
abbrev pub TupleSeen : List Slot → ℕ → Option Parts → Type 0
TupleSeen slots p None = (t : Typing) → Meets slots t → (ts : TypesData) → t p ≡ TupleType ts → (i : ℕ) → Agree (Meets slots) (R.part_kind i) p → ⊥
TupleSeen slots p (Some parts) = (t : Typing) → Meets slots t → TupleIs t (t p) (Some parts)

abbrev pub PartsWithin : ℕ → Option Parts → Type 0
PartsWithin n None = Unit {0}
PartsWithin n (Some parts) = parts.first + parts.count ≤ n

-- the variable e has the tuple of the types of these variables
pub record TupleSaid (old new : List Slot) (e : ℕ) (parts : Parts) : Type 0 where
  pub grows : Keeps old new
  pub inside : e < length old
  pub is : (t : Typing) → Meets new t → TupleIs t (t e) (Some parts)

-- the kind of the part with the number i of the variable e is that of the variable p
pub record PartAt (old new : List Slot) (e i p : ℕ) : Type 0 where
  pub grows : Keeps old new
  pub inside : e < length old
  pub is : (t : Typing) → Meets new t → R.part_kind i (t e) ≡ R.kind (t p)

-- the part with the number i of the variable e fits the returned type
abbrev pub PartFits : (Typing → Type 0) → ℕ → ℕ → TypeData → TypeData → Type 0
PartFits Before e i of wanted = (of ≡ wanted) ⊎ (Agree Before (R.part_kind i) e × Lends of wanted)

-- A term has the returned type if and only if the part, whose type is that of the variable p, fits it.
pub record PartSaid (old new : List Slot) (e i p : ℕ) (wanted : TypeData) (x : Term) : Type 0 where
  pub to : (t : Typing) → Meets new t → PartFits (Meets old) e i (t p) wanted → value t x ≡ wanted
  pub from : (t : Typing) → Meets new t → value t x ≡ wanted → PartFits (Meets old) e i (t p) wanted

-- the same for each part, the first of which has the number i
abbrev pub PartsSaid : List Slot → List Slot → ℕ → ℕ → ℕ → List TypeData → List Term → Type 0
PartsSaid old new e i p [] [] = Unit {0}
PartsSaid old new e i p [] (x ∷ xs) = ⊥
PartsSaid old new e i p (b ∷ bs) [] = ⊥
PartsSaid old new e i p (b ∷ bs) (x ∷ xs) = PartSaid old new e i p b x × PartsSaid old new e (i + 1) (p + 1) bs xs
