-- Typing constraints. Type variables are numbers; a typing gives each of them a type.
use Rattle.std.specs.Prelude.{ℕ, ◌+◌, zero, suc, nat_lt, List, if◌then◌else◌}
use Rattle.base.specs.TypeData.{TypeData, TypesData, ParamType, StructType, NoTypes, MoreTypes}
use Rattle.base.specs.declared.types.StructId.{StructId}
use Rattle.typing_rules.specs.declared.sort.Wrap.{Wrap}
use Rattle.typing_rules.specs.declared.sort.Sort.{Sort}
use Rattle.typing_rules.specs.Instances.{instance}

-- a type for each type variable
abbrev pub Typing : Type 0
Typing = ℕ → TypeData

-- A type as a rule names it
pub data TypeForm : Type 0 where
  -- a type that is written in the code itself
  Written : TypeData → TypeForm
  -- a type of a declaration, whose type parameters are the type variables from this one on, so many
  Declared : TypeData → ℕ → ℕ → TypeForm
  -- a struct, whose type arguments are the type variables from this one on, so many
  Applied : StructId → ℕ → ℕ → TypeForm

-- the types of so many type variables, from this one on
abbrev pub types_at : Typing → ℕ → ℕ → TypesData
types_at t first zero = NoTypes
types_at t first (suc n) = MoreTypes (t first) (types_at t (first + 1) n)

-- the substitution for type parameters: the types of so many type variables, from this one on
abbrev pub arguments : Typing → ℕ → ℕ → ℕ → TypeData
arguments t first count n = if nat_lt n count then t (first + n) else ParamType n

abbrev pub form_type : Typing → TypeForm → TypeData
form_type t (Written of) = of
form_type t (Declared of first count) = instance (arguments t first count) of
form_type t (Applied s first count) = StructType s (types_at t first count)

pub data Constraint : Type 0 where
  -- two type variables have one type
  Same : ℕ → ℕ → Constraint
  -- a type variable has this type
  Has : ℕ → TypeForm → Constraint
  -- a type variable has the type that this constructor makes of another's
  MadeOf : ℕ → Wrap → ℕ → Constraint
  -- a type variable has the tuple of the types of these
  TupleOf : ℕ → List ℕ → Constraint
  -- a type variable has a type of this sort
  IsOf : Sort → ℕ → Constraint
  -- two values with the types of these variables are compared
  Alike : ℕ → ℕ → Constraint
  -- a value of the variable's type is used where this type is required
  Takes : ℕ → TypeForm → Constraint
  -- a value of the variable's type is returned where the result has this type
  Returns : ℕ → TypeForm → Constraint
  -- the first variable is the type of the field of this name of the second
  FieldOf : ℕ → ℕ → List ℕ → Constraint
  -- the first variable is the type that the second points at
  TargetOf : ℕ → ℕ → Constraint
  -- a value is written, or borrowed mutably, through the variable's type, if that is a reference
  Through : ℕ → Constraint
  -- a value is written to what the variable's type points at
  Behind : ℕ → Constraint
  -- no typing exists
  Barred : Constraint
