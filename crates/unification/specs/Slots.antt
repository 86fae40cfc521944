-- What is known of the types of type variables, and which typings meet it.
use Rattle.std.specs.Prelude.{◌≡◌, ℕ, zero, suc, ◌+◌, ◌<◌, ◌≤◌, IsTrue, List, [], ◌∷◌, length, slice_index_or, sum_by}
use Rattle.base.specs.TypeData.{TypeData, VectorType, StructType, SharedType, MutableType, TupleType, TypesData, types_of, type_size}
use Rattle.unification.specs.Sorts.{is_of}
use Rattle.unification.specs.declared.type_variables.slots.Sort.TheVariants.{Any}
use Rattle.unification.specs.declared.type_variables.slots.Wrap.{Wrap}
use Rattle.unification.specs.declared.type_variables.slots.Wrap.TheVariants.{Vector, Shared, Mutable}
use Rattle.unification.specs.declared.type_variables.slots.Group.{Group}
use Rattle.unification.specs.declared.type_variables.slots.Group.TheVariants.{Struct, Tuple}
use Rattle.unification.specs.declared.type_variables.slots.Term.{Term}
use Rattle.unification.specs.declared.type_variables.slots.Term.TheVariants.{Variable, Closed, Made, Grouped}
use Rattle.unification.specs.declared.type_variables.slots.Slot.{Slot}
use Rattle.unification.specs.declared.type_variables.slots.Slot.TheVariants.{Open, Bound}

-- a typing gives each type variable a type
abbrev pub Typing : Type 0
Typing = ℕ → TypeData

abbrev pub wrapped : Wrap → TypeData → TypeData
wrapped Vector t = VectorType t
wrapped Shared t = SharedType t
wrapped Mutable t = MutableType t

abbrev pub grouped : Group → TypesData → TypeData
grouped (Struct s) ts = StructType s.now ts
grouped Tuple ts = TupleType ts

-- the types of consecutive type variables
abbrev pub list_at : Typing → ℕ → ℕ → List TypeData
list_at t first zero = []
list_at t first (suc n) = t first ∷ list_at t (first + 1) n

-- the type that a term has in a typing
abbrev pub value : Typing → Term → TypeData
value t (Variable p) = t p
value t (Closed of) = of.now
value t (Made w p) = wrapped w (t p)
value t (Grouped g first n) = grouped g (types_of (list_at t first n))

-- a typing meets what is known of a type variable
abbrev pub SlotMeets : Typing → ℕ → Slot → Type 0
SlotMeets t p (Open s) = IsTrue (is_of s (t p))
SlotMeets t p (Bound x) = t p ≡ value t x

abbrev pub slot_at : List Slot → ℕ → Slot
slot_at slots p = slice_index_or slots p (Open Any)

pub record Meets (slots : List Slot) (t : Typing) : Type 0 where
  pub each : (p : ℕ) → p < length slots → SlotMeets t p (slot_at slots p)

-- the variables of a term are among the first n
abbrev pub TermWithin : ℕ → Term → Type 0
TermWithin n (Variable q) = q < n
TermWithin n (Closed of) = Unit {0}
TermWithin n (Made w q) = q < n
TermWithin n (Grouped g first m) = first + m ≤ n

-- a type variable is bound to a smaller one, or to a term over existing ones
abbrev pub TermFits : ℕ → ℕ → Term → Type 0
TermFits n p (Variable q) = q < p
TermFits n p (Closed of) = Unit {0}
TermFits n p (Made w q) = q < n
TermFits n p (Grouped g first m) = first + m ≤ n

abbrev pub SlotFits : ℕ → ℕ → Slot → Type 0
SlotFits n p (Open s) = Unit {0}
SlotFits n p (Bound x) = TermFits n p x

pub record Fits (slots : List Slot) : Type 0 where
  pub each : (p : ℕ) → p < length slots → SlotFits (length slots) p (slot_at slots p)

abbrev pub IsOpen : Slot → Type 0
IsOpen (Open s) = Unit {0}
IsOpen (Bound x) = ⊥

-- The typings that meet the old slots and F are those that meet the new slots and G. No bound variable becomes open.
pub record Becomes (old : List Slot) (F : Typing → Type 0) (new : List Slot) (G : Typing → Type 0) : Type 0 where
  pub fits : Fits new
  pub same_length : length new ≡ length old
  pub opens : (p : ℕ) → p < length new → IsOpen (slot_at new p) → IsOpen (slot_at old p)
  pub forth : (t : Typing) → Meets old t → F t → Meets new t × G t
  pub back : (t : Typing) → Meets new t → G t → Meets old t × F t

-- a term that is no type variable
abbrev pub IsMade : Term → Type 0
IsMade (Variable q) = ⊥
IsMade (Closed of) = Unit {0}
IsMade (Made w q) = Unit {0}
IsMade (Grouped g first m) = Unit {0}

-- a term made of the types of type variables
abbrev pub HasParts : Term → Type 0
HasParts (Variable q) = ⊥
HasParts (Closed of) = ⊥
HasParts (Made w q) = Unit {0}
HasParts (Grouped g first m) = Unit {0}

-- a slot that does not refer to another variable as one of the same type
abbrev pub IsRoot : Slot → Type 0
IsRoot (Open s) = Unit {0}
IsRoot (Bound x) = IsMade x

-- the work that a slot may still cause: one for itself, and its parts
abbrev pub term_work : Term → ℕ
term_work (Variable q) = 0
term_work (Closed of) = type_size of.now
term_work (Made w q) = 2
term_work (Grouped g first n) = 1 + n

abbrev pub slot_work : Slot → ℕ
slot_work (Open s) = 1
slot_work (Bound x) = term_work x

abbrev pub work : List Slot → ℕ
work slots = sum_by slot_work slots
