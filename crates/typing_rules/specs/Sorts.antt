-- Kinds, heads and sorts of types. Source: The Move Book, "Integers", "References" and "Tuples and Unit".
use Rattle.std.specs.Prelude.{ℕ, Bool, true, false, Option, Some, None, slice_get, option_and_then}
use Rattle.base.specs.TypeData.{TypeData, IntType, VectorType, StructType, SharedType, MutableType, TupleType, list_of_types}
use Rattle.base.specs.declared.types.StructId.{StructId}
use Rattle.typing_rules.specs.declared.sort.Reference.{Reference}
use Rattle.typing_rules.specs.declared.sort.Reference.TheVariants.{Shared, Mutable}
use Rattle.typing_rules.specs.declared.sort.Wrap.{Wrap}
use Rattle.typing_rules.specs.declared.sort.Wrap.TheVariants.{Vector, Shared as wrap_shared, Mutable as wrap_mutable}
use Rattle.typing_rules.specs.declared.sort.Sort.{Sort}
use Rattle.typing_rules.specs.declared.sort.Sort.TheVariants.{Single, Value, Integer}

-- the kind of a type that is a reference
abbrev pub kind : TypeData → Option Reference
kind (SharedType t) = Some Shared
kind (MutableType t) = Some Mutable
kind _ = None

-- the type that a reference of either kind points at
abbrev pub target : TypeData → Option TypeData
target (SharedType t) = Some t
target (MutableType t) = Some t
target _ = None

-- the type that a reference points at; any other type itself
abbrev pub behind : TypeData → TypeData
behind (SharedType t) = t
behind (MutableType t) = t
behind t = t

-- the struct of a type that is a struct
abbrev pub struct_in : TypeData → Option StructId
struct_in (StructType s ts) = Some s
struct_in _ = None

-- The head of a type: whether it is a reference, of which kind, and which struct, if any, it is or points at.
pub record Head : Type 0 where
  pub kind : Option Reference
  pub of : Option StructId

abbrev pub head : TypeData → Head
head t = record { kind = kind t; of = struct_in (behind t) }

-- the kind of a part of a tuple that is a reference
abbrev pub part_kind : ℕ → TypeData → Option Reference
part_kind i (TupleType ts) = option_and_then kind (slice_get (list_of_types ts) i)
part_kind i _ = None

abbrev pub is_single : TypeData → Bool
is_single (TupleType ts) = false
is_single _ = true

abbrev pub is_value : TypeData → Bool
is_value (SharedType t) = false
is_value (MutableType t) = false
is_value (TupleType ts) = false
is_value _ = true

abbrev pub is_integer : TypeData → Bool
is_integer (IntType w) = true
is_integer _ = false

-- a type is of a sort: not a tuple; neither a reference nor a tuple; an integer type of Move
abbrev pub is_of : Sort → TypeData → Bool
is_of Single t = is_single t
is_of Value t = is_value t
is_of Integer t = is_integer t

-- the type that a type constructor makes of a type
abbrev pub made : Wrap → TypeData → TypeData
made Vector t = VectorType t
made wrap_shared t = SharedType t
made wrap_mutable t = MutableType t
