-- The solution with defaults, from what slots know of a system.
use Rattle.std.specs.Prelude.{◌≡◌, ℕ, ◌<◌, false, List, [], length, map, All, Option, Some, None}
use Rattle.base.specs.TypeData.{TypeData, IntType}
use Rattle.base.specs.declared.types.Width.{Width}
use Rattle.unification.specs.Slots.{Typing, Fits, slot_at}
use Rattle.unification.specs.Knows.{Knows}
use Rattle.unification.specs.declared.type_variables.slots.Sort.TheVariants.{Integer}
use Rattle.unification.specs.declared.type_variables.slots.Slot.{Slot}
use Rattle.unification.specs.declared.type_variables.slots.Slot.TheVariants.{Open}
use Rattle.unification.specs.Ranked.{IsRanking}
use Rattle.typing_rules.specs.Sorts.{is_integer}
use Rattle.typing_rules.specs.Rules.{HasOpenHead}
use Rattle.typing_rules.specs.Settings.{u64_type}
use Rattle.typing_rules.specs.Answers.{System, Typings, HasTyping, IsDefaulted, IsSettledTyping, HasType, IsTyped, IsAmbiguous, IsUntypable}
use Rattle.typing_rules.specs.Pools.{type_at, types}
use Rattle.typing_rules.specs.declared.type_pool.PoolType.{PoolType}
use Rattle.unification.specs.Roots.{AreRoots}
use Rattle.unification.specs.Numbers.{number_at}
use Rattle.unification.specs.declared.solution.choice.Defaulted.{Defaulted}

-- no integer type is open
abbrev pub NoOpenInteger : List Slot → Type 0
NoOpenInteger slots = (p : ℕ) → p < length slots → slot_at slots p ≡ Open Integer → ⊥

-- the components fit together, and no integer type is open
pub record IsSound (d : Defaulted) : Type 0 where
  pub fits : Fits d.slots.items
  pub roots : AreRoots d.slots.items d.roots.items (length d.slots.items)
  pub ranking : IsRanking d.slots.items d.ranking.ranks.items d.ranking.order.items
  pub chosen : NoOpenInteger d.slots.items

-- the system has typings, and the slots know exactly those with default integer types
pub record HasDefaults (s : System) (d : Defaulted) : Type 0 where
  pub exists : HasTyping s
  pub knows : Knows d.slots.items s.variables (IsDefaulted s)

-- where an integer type is open, its default is `u64`
abbrev pub ChoosesU64 : System → List Slot → Type 0
ChoosesU64 s slots = (p : ℕ) → p < length slots → slot_at slots p ≡ Open Integer → s.open_integer ≡ Some u64_type

pub record DefaultsOf (slots : List Slot) (d : Defaulted) : Type 0 where
  pub sound : IsSound d
  pub has : (s : System) → ChoosesU64 s slots → Knows slots s.variables (Typings s) → HasDefaults s d

-- no system whose typings the slots know has a typing
abbrev pub LeavesNoTyping : List Slot → Type 0
LeavesNoTyping slots = (s : System) → Knows slots s.variables (Typings s) → IsUntypable s

-- for each system whose typings the slots know
abbrev pub DefaultsSay : List Slot → Option Defaulted → Type 0
DefaultsSay slots None = LeavesNoTyping slots
DefaultsSay slots (Some d) = DefaultsOf slots d

-- whether the type of a type variable is an integer type, and of which width
abbrev pub WidthSays : Defaulted → ℕ → Option Width → Type 0
WidthSays d p None = (s : System) → HasDefaults s d → p < s.variables → (t : Typing) × (IsDefaulted s t × (is_integer (t p) ≡ false))
WidthSays d p (Some w) = (s : System) → HasDefaults s d → p < s.variables → (t : Typing) → IsDefaulted s t → t p ≡ IntType w

-- the number of the type of the variable, or it has none
abbrev pub VariableSays : System → List PoolType → ℕ → Option ℕ → Type 0
VariableSays s pool p None = (of : TypeData) → HasType s p of → ⊥
VariableSays s pool p (Some n) = (n < length pool) × HasType s p (type_at (types pool) n)

-- typings exist, and the numbers are those of the types of the variables that have one
pub record AreTypes (s : System) (pool : List PoolType) (numbers : List (Option ℕ)) : Type 0 where
  pub settles : (t : Typing) × IsSettledTyping s t
  pub same_length : length numbers ≡ s.variables
  pub each : (p : ℕ) → p < s.variables → VariableSays s pool p (number_at numbers p)

-- for each system whose typings with default integer types are known
abbrev pub TypesSay : Defaulted → List ℕ → ℕ → List PoolType → List (Option ℕ) → Type 0
TypesSay d dropped variables pool numbers = (s : System) → HasDefaults s d → s.dropped ≡ dropped → s.variables ≡ variables → AreTypes s pool numbers

-- a system without defaults: no default integer type, and no dropped value
pub record ChoosesNothing (s : System) : Type 0 where
  pub no_default : s.open_integer ≡ None
  pub no_drop : s.dropped ≡ []

-- for each such system whose typings the slots know
abbrev pub TypesAsKnown : List Slot → ℕ → List PoolType → List (Option ℕ) → Type 0
TypesAsKnown slots variables pool numbers = (s : System) → ChoosesNothing s → Knows slots s.variables (Typings s) → s.variables ≡ variables → AreTypes s pool numbers

-- the numbers are those of the types of all type variables, each of which is in the pool, or the type of one is not
-- forced
abbrev pub ChoiceSays : List (Option ℕ) → Option (List ℕ) → Type 0
ChoiceSays numbers None = (s : System) (pool : List PoolType) → AreTypes s pool numbers → IsAmbiguous s
ChoiceSays numbers (Some found) =
    (s : System) (pool : List PoolType) → AreTypes s pool numbers → All (λ n. n < length pool) found × ((HasOpenHead s.reading s.steps → ⊥) → IsTyped s (map (type_at (types pool)) found))
