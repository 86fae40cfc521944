-- The depth-first traversal of the type variables that type variables refer to.
use Rattle.std.specs.Prelude.{◌≡◌, ℕ, ◌+◌, ◌-◌, ◌*◌, ◌<◌, ◌≤◌, Bool, true, false, List, [], ◌∷◌, length, reverse, slice_index}
use Rattle.unification.specs.Slots.{Typing, Meets, slot_at}
use Rattle.unification.specs.declared.type_variables.slots.Term.TheVariants.{Variable, Closed, Made, Grouped}
use Rattle.unification.specs.declared.type_variables.slots.Slot.{Slot}
use Rattle.unification.specs.declared.type_variables.slots.Slot.TheVariants.{Open, Bound}
use Rattle.unification.specs.Ranked.{rank_at, IsRanked, unranked}
use Rattle.unification.specs.declared.walk.Walk.{Walk}

-- a slot refers to consecutive type variables: the first of them, and how many
abbrev pub first_part : Slot → ℕ
first_part (Open s) = 0
first_part (Bound (Variable q)) = q
first_part (Bound (Closed of)) = 0
first_part (Bound (Made w q)) = q
first_part (Bound (Grouped g first count)) = first

abbrev pub part_count : Slot → ℕ
part_count (Open s) = 0
part_count (Bound (Variable q)) = 1
part_count (Bound (Closed of)) = 0
part_count (Bound (Made w q)) = 1
part_count (Bound (Grouped g first count)) = count

-- the slot refers to the type variable
abbrev pub IsPart : Slot → ℕ → Type 0
IsPart slot q = (first_part slot ≤ q) × (q < first_part slot + part_count slot)

-- the invariant of the traversal
pub record IsWalk (slots : List Slot) (ranks order seen : List ℕ) : Type 0 where
  pub ranked : IsRanked slots ranks order
  pub long : length seen ≡ length slots
  pub most : (p : ℕ) → p < length slots → slice_index seen p ≤ part_count (slot_at slots p)
  pub seen_ranked : (p i : ℕ) → p < length slots → i < slice_index seen p → 0 < rank_at ranks (first_part (slot_at slots p) + i)

-- a path is listed from its end: the variable before refers to this one
abbrev pub LedTo : List Slot → ℕ → List ℕ → Type 0
LedTo slots q [] = Unit {0}
LedTo slots q (p ∷ way) = IsPart (slot_at slots p) q

-- each variable of the path has no rank, and refers to the next one
abbrev pub IsWay : List Slot → List ℕ → List ℕ → Type 0
IsWay slots ranks [] = Unit {0}
IsWay slots ranks (p ∷ way) = (p < length slots) × (rank_at ranks p ≡ 0) × LedTo slots p way × IsWay slots ranks way

-- the path begins at this variable, or it is empty and the variable has a rank
abbrev pub BeginsAt : ℕ → List ℕ → List ℕ → Type 0
BeginsAt start ranks [] = 0 < rank_at ranks start
BeginsAt start ranks (p ∷ []) = p ≡ start
BeginsAt start ranks (p ∷ q ∷ way) = BeginsAt start ranks (q ∷ way)

pub record IsOnWay (slots : List Slot) (start : ℕ) (ranks way : List ℕ) : Type 0 where
  pub variables : IsWay slots ranks way
  pub begins : BeginsAt start ranks way

-- no rank is lost
abbrev pub KeepsRanks : List ℕ → List ℕ → Type 0
KeepsRanks old new = (p : ℕ) → 0 < rank_at old p → 0 < rank_at new p

-- the termination measure: ranks that are not given, and steps until the path is too long
abbrev pub steps_left : ℕ → List ℕ → List ℕ → ℕ
steps_left n ranks way = unranked ranks * (n + 3) + ((n + 2) - length way)

pub record Goes (slots : List Slot) (start : ℕ) (ranks way : List ℕ) (new : Walk) : Type 0 where
  pub walk : IsWalk slots new.ranks.items new.order.items new.seen.items
  pub on_way : IsOnWay slots start new.ranks.items (reverse new.way.items)
  pub keeps : KeepsRanks ranks new.ranks.items
  pub less : steps_left (length slots) new.ranks.items (reverse new.way.items) < steps_left (length slots) ranks way

-- the result of a step: the traversal goes on, or there is no typing
abbrev pub GoesOn : List Slot → ℕ → List ℕ → List ℕ → Walk → Bool → Type 0
GoesOn slots start ranks way new true = Goes slots start ranks way new
GoesOn slots start ranks way new false = (t : Typing) → Meets slots t → ⊥

pub record Ends (slots : List Slot) (start : ℕ) (ranks : List ℕ) (new : Walk) : Type 0 where
  pub walk : IsWalk slots new.ranks.items new.order.items new.seen.items
  pub empty : new.way.items ≡ []
  pub keeps : KeepsRanks ranks new.ranks.items
  pub start_ranked : 0 < rank_at new.ranks.items start

-- the result of a traversal from one variable: it ends, or there is no typing
abbrev pub EndsWell : List Slot → ℕ → List ℕ → Walk → Bool → Type 0
EndsWell slots start ranks new true = Ends slots start ranks new
EndsWell slots start ranks new false = (t : Typing) → Meets slots t → ⊥
