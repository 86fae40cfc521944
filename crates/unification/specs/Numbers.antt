-- The numbers of types in a pool.
use Rattle.std.specs.Prelude.{◌≡◌, ℕ, ◌+◌, ◌<◌, ◌≤◌, List, length, slice_index, slice_index_or, Option, Some, None}
use Rattle.base.specs.TypeData.{TypeData}
use Rattle.unification.specs.Slots.{Typing, value, Meets, slot_at}
use Rattle.unification.specs.Ranks.{EachIn, EachLed}
use Rattle.unification.specs.Agree.{IsForced}
use Rattle.unification.specs.declared.type_variables.slots.Term.{Term}
use Rattle.unification.specs.declared.type_variables.slots.Term.TheVariants.{Variable, Closed, Made, Grouped}
use Rattle.unification.specs.declared.type_variables.slots.Slot.{Slot}
use Rattle.typing_rules.specs.Pools.{type_at, types}
use Rattle.typing_rules.specs.declared.type_pool.PoolType.{PoolType}

-- types keep their numbers
pub record Keeps (old new : List PoolType) : Type 0 where
  pub longer : length old ≤ length new
  pub same : (n : ℕ) → n < length old → type_at (types new) n ≡ type_at (types old) n

-- the number of a type variable, if it has one
abbrev pub number_at : List (Option ℕ) → ℕ → Option ℕ
number_at numbers p = slice_index_or numbers p None

-- consecutive type variables have these numbers
pub record AreParts (numbers : List (Option ℕ)) (first count : ℕ) (parts : List ℕ) : Type 0 where
  pub same_length : length parts ≡ count
  pub each : (i : ℕ) → i < count → number_at numbers (first + i) ≡ Some (slice_index parts i)

-- the numbers of consecutive type variables, or one of them has none
abbrev pub PartsSay : List (Option ℕ) → ℕ → ℕ → Option (List ℕ) → Type 0
PartsSay numbers first count None = (q : ℕ) × ((first ≤ q) × (q < first + count) × (number_at numbers q ≡ None))
PartsSay numbers first count (Some parts) = AreParts numbers first count parts

-- the number, if there is one, is that of some type in the pool
abbrev pub IsInPool : List PoolType → Option ℕ → Type 0
IsInPool pool None = Unit {0}
IsInPool pool (Some n) = n < length pool

-- the number, if there is one, is that of the type
abbrev pub IsTypeAt : List PoolType → TypeData → Option ℕ → Type 0
IsTypeAt pool of None = Unit {0}
IsTypeAt pool of (Some n) = of ≡ type_at (types pool) n

-- a type variable of the term
abbrev pub SomeIn : (ℕ → Type 0) → Term → Type 0
SomeIn P (Variable q) = P q
SomeIn P (Closed of) = ⊥
SomeIn P (Made w q) = P q
SomeIn P (Grouped g first count) = (q : ℕ) × ((first ≤ q) × (q < first + count) × P q)

-- the number of the type of a term, from those of its type variables, or one of these has none
abbrev pub TermSays : List PoolType → List PoolType → List (Option ℕ) → Term → Option ℕ → Type 0
TermSays old new numbers x None = SomeIn (λ q. number_at numbers q ≡ None) x
TermSays old new numbers x (Some n) = (n < length new) × ((t : Typing) → EachIn (λ q. IsTypeAt old (t q) (number_at numbers q)) x → value t x ≡ type_at (types new) n)

-- the number is that of the type that the variable has in every typing
pub record IsNumberOf (slots : List Slot) (pool : List PoolType) (p number : ℕ) : Type 0 where
  pub within : number < length pool
  pub is : (t : Typing) → Meets slots t → t p ≡ type_at (types pool) number

-- the number of the type of a type variable, or typings give it different types, if there are any
abbrev pub NumberSays : List Slot → List PoolType → ℕ → Option ℕ → Type 0
NumberSays slots pool p None = (t : Typing) → Meets slots t → IsForced (Meets slots) p → ⊥
NumberSays slots pool p (Some n) = IsNumberOf slots pool p n

-- the type variable is in the order before this index
abbrev pub IsBefore : List ℕ → ℕ → ℕ → Type 0
IsBefore order k p = (j : ℕ) × ((j < k) × (slice_index order j ≡ p))

-- an order of all type variables, in which each comes after those that it refers to
pub record IsOrder (slots : List Slot) (order : List ℕ) : Type 0 where
  pub within : (k : ℕ) → k < length order → slice_index order k < length slots
  pub behind : (k : ℕ) → k < length order → EachLed (IsBefore order k) (slot_at slots (slice_index order k))
  pub all : (p : ℕ) → p < length slots → IsBefore order (length order) p

-- the numbers of the first so many type variables of the order
pub record AreNumbers (slots : List Slot) (pool : List PoolType) (order : List ℕ) (numbers : List (Option ℕ)) (n : ℕ) : Type 0 where
  pub same_length : length numbers ≡ length slots
  pub each : (k : ℕ) → k < n → NumberSays slots pool (slice_index order k) (number_at numbers (slice_index order k))

-- the numbers of the first so many type variables
pub record TableSays (slots : List Slot) (variables : ℕ) (pool : List PoolType) (numbers : List (Option ℕ)) : Type 0 where
  pub same_length : length numbers ≡ variables
  pub each : (p : ℕ) → p < variables → NumberSays slots pool p (number_at numbers p)
