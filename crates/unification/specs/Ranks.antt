-- Ranks of type variables above those that they refer to, and typings that give the open ones types.
use Rattle.std.specs.Prelude.{ℕ, zero, suc, ◌+◌, ◌*◌, ◌<◌, ◌≤◌, List, length}
use Rattle.base.specs.TypeData.{TypeData, BoolType, type_size}
use Rattle.unification.specs.Slots.{Typing, value, slot_at}
use Rattle.unification.specs.declared.type_variables.slots.Sort.{Sort}
use Rattle.unification.specs.declared.type_variables.slots.Term.{Term}
use Rattle.unification.specs.declared.type_variables.slots.Term.TheVariants.{Variable, Closed, Made, Grouped}
use Rattle.unification.specs.declared.type_variables.slots.Slot.{Slot}
use Rattle.unification.specs.declared.type_variables.slots.Slot.TheVariants.{Open, Bound}

-- each type variable of a term
abbrev pub EachIn : (ℕ → Type 0) → Term → Type 0
EachIn P (Variable q) = P q
EachIn P (Closed of) = Unit {0}
EachIn P (Made w q) = P q
EachIn P (Grouped g first count) = (q : ℕ) → first ≤ q → q < first + count → P q

abbrev pub EachLed : (ℕ → Type 0) → Slot → Type 0
EachLed P (Open s) = Unit {0}
EachLed P (Bound x) = EachIn P x

-- a type variable that a slot refers to exists, and has a lower rank
abbrev pub Lower : ℕ → (ℕ → ℕ) → ℕ → ℕ → Type 0
Lower n r k q = (q < n) × (r q < k)

-- each type variable refers to ones of lower ranks
pub record IsRank (slots : List Slot) (r : ℕ → ℕ) : Type 0 where
  pub each : (p : ℕ) → p < length slots → EachLed (Lower (length slots) r (r p)) (slot_at slots p)

-- the type of a variable from those of lower ranks, where W gives the type of an open one
abbrev pub filled : Typing → (Sort → TypeData) → Slot → TypeData
filled f W (Open s) = W s
filled f W (Bound x) = value f x

abbrev pub fill : List Slot → (ℕ → Sort → TypeData) → ℕ → ℕ → TypeData
fill slots W zero p = BoolType
fill slots W (suc n) p = filled (fill slots W n) (W p) (slot_at slots p)

-- the typing in which W gives the types of the open variables
abbrev pub refill_by : List Slot → (ℕ → Sort → TypeData) → (ℕ → ℕ) → Typing
refill_by slots W r p = fill slots W (suc (r p)) p

-- the rank that a typing gives
abbrev pub rank_by : List Slot → Typing → ℕ → ℕ
rank_by slots t p = type_size (t p) * length slots + p
