-- Systems of typing constraints, their solutions with defaults, and when there is none.
use Rattle.std.specs.Prelude.{◌≡◌, ◌⊎◌, ◌<◌, ℕ, suc, IsTrue, List, length, Contains, Option, Some, slice_index_or}
use Rattle.base.specs.TypeData.{TypeData}
use Rattle.typing_rules.specs.Sorts.{is_integer}
use Rattle.typing_rules.specs.Constraint.{Typing, Constraint}
use Rattle.typing_rules.specs.Rules.{TypeReading, IsTyping, HasOpenHead, IsRead}
use Rattle.typing_rules.specs.Settings.{unit_type}

-- The system of a function, a constant or a clause: the constraints of each step, in order: first those of the declared
-- types, then those of each node, and last those of the whole.
pub record System : Type 0 where
  pub reading : TypeReading
  pub steps : List (List Constraint)
  -- the number of type variables
  pub variables : ℕ
  -- the type variables of the whole values of `e;`
  pub dropped : List ℕ
  -- the default integer type; none in specifications, where no rule requires an integer type of Move
  pub open_integer : Option TypeData

abbrev pub Typings : System → Typing → Type 0
Typings s = IsTyping s.reading s.steps

-- all of these typings give the type variable one type
abbrev pub IsForced : (Typing → Type 0) → ℕ → Type 0
IsForced These p = (t u : Typing) → These t → These u → t p ≡ u p

-- all of these typings give the type variable an integer type
abbrev pub IsIntegerVariable : (Typing → Type 0) → ℕ → Type 0
IsIntegerVariable These p = (t : Typing) → These t → IsTrue (is_integer (t p))

-- A typing in which each type variable with an integer type that is not forced has the default type, if there is one
pub record IsDefaulted (s : System) (t : Typing) : Type 0 where
  pub typing : Typings s t
  pub integers : (of : TypeData) → s.open_integer ≡ Some of → (p : ℕ) → p < s.variables → IsIntegerVariable (Typings s) p → (IsForced (Typings s) p → ⊥) → t p ≡ of

-- and in which the whole value of an `e;`, where these typings do not force its type, has type `()` if it can
pub record IsSettledTyping (s : System) (t : Typing) : Type 0 where
  pub defaulted : IsDefaulted s t
  pub nothing : (p : ℕ) → Contains s.dropped p → (IsForced (IsDefaulted s) p → ⊥) → (u : Typing) → IsDefaulted s u → u p ≡ unit_type → t p ≡ unit_type

-- ---- answers

abbrev pub HasTyping : System → Type 0
HasTyping s = (t : Typing) × Typings s t

-- no typing exists
abbrev pub IsUntypable : System → Type 0
IsUntypable s = (t : Typing) → Typings s t → ⊥

-- typings exist, and this is the type of the type variable
pub record HasType (s : System) (p : ℕ) (of : TypeData) : Type 0 where
  pub typing : Typing
  pub settled : IsSettledTyping s typing
  pub each : (t : Typing) → IsSettledTyping s t → t p ≡ of

-- all nodes are read, typings exist, and each type variable has its type
pub record IsTyped (s : System) (types : List TypeData) : Type 0 where
  pub whole : HasOpenHead s.reading s.steps → ⊥
  pub exists : HasTyping s
  pub same_length : length types ≡ s.variables
  pub each : (p : ℕ) → p < s.variables → HasType s p (slice_index_or types p unit_type)

-- typings exist, and a head is open, or the type of a type variable is not forced
pub record IsAmbiguous (s : System) : Type 0 where
  pub exists : HasTyping s
  pub why : HasOpenHead s.reading s.steps ⊎ ((p : ℕ) × (p < s.variables) × (IsForced (IsSettledTyping s) p → ⊥))

-- the node with this number is read: the step before the first node is that of the declared types
abbrev pub NodeIsRead : System → ℕ → Type 0
NodeIsRead s n = IsRead s.reading s.steps (suc n)
