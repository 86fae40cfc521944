-- Slots that describe the unifiers of pairs.
use Rattle.std.specs.Prelude.{ℕ, ◌<◌, ◌≤◌, List, length}
use Rattle.base.specs.TypeData.{TypeData, IntType, ParamType}
use Rattle.base.specs.declared.types.Width.TheVariants.{U8}
use Rattle.unification.specs.Slots.{Typing, Meets, Fits, IsOpen, slot_at}
use Rattle.unification.specs.Grown.{SameTo}
use Rattle.unification.specs.Ranks.{refill_by}
use Rattle.unification.specs.declared.type_variables.slots.Sort.{Sort}
use Rattle.unification.specs.declared.type_variables.slots.Sort.TheVariants.{Any, Single, Value, Integer}
use Rattle.unification.specs.declared.type_variables.slots.Slot.{Slot}
use Rattle.unification.specs.declared.pairs.TypePair.{TypePair}
use Rattle.unification.specs.Unifiers.{Unifies}
use Rattle.unification.specs.Ranked.{rank_at}

-- the typings that meet the slots are the unifiers, with types for further type variables
pub record Solves (n : ℕ) (pairs : List TypePair) (slots : List Slot) : Type 0 where
  pub fits : Fits slots
  pub longer : n ≤ length slots
  pub opens : (p : ℕ) → p < length slots → IsOpen (slot_at slots p) → p < n
  pub forth : (t : Typing) → Unifies n t pairs → (u : Typing) × (SameTo n t u × Meets slots u)
  pub back : (t : Typing) → Meets slots t → Unifies n t pairs

-- an open type variable is mapped to itself, as a type parameter
abbrev pub own : ℕ → Sort → TypeData
own p Any = ParamType p
own p Single = ParamType p
own p Value = ParamType p
own p Integer = IntType U8

-- the substitution that slots and ranks give
abbrev pub unifier : List Slot → List ℕ → Typing
unifier slots ranks = refill_by slots own (rank_at ranks)
