-- Which types may be written. A reference is never part of a struct, a vector or another reference, and never a type
-- argument; a tuple is part of no other type; a struct has as many type arguments as its declaration has type
-- parameters. Source: The Move Book, "References", "Tuples and Unit", "Generics" and "Structs".
use Rattle.std.specs.Prelude.{ℕ, ◌==◌, Bool, true, false, ◌&&◌, length, Option, Some, None}
use Rattle.std.specs.Map.{lookup}
use Rattle.base.specs.TypeData.{TypeData, TypesData, BoolType, IntType, NumType, AddressType, SignerType, VectorType, StructType, ParamType, SharedType, MutableType, TupleType, NoTypes, MoreTypes, list_of_types}
use Rattle.program.specs.declared.declaration.Struct.{Struct}
use Rattle.program.specs.Same.{same_struct}
use Rattle.program.specs.Types.{Structs}

-- the struct is declared with so many type parameters
abbrev pub has_parameters : Option Struct → ℕ → Bool
has_parameters None n = false
has_parameters (Some s) n = length s.type_parameters == n

abbrev mutual
  -- a type that a field, an element or a type parameter may have
  pub is_proper_value : Structs → TypeData → Bool
  is_proper_value structs BoolType = true
  is_proper_value structs (IntType w) = true
  is_proper_value structs NumType = true
  is_proper_value structs AddressType = true
  is_proper_value structs SignerType = true
  is_proper_value structs (VectorType t) = is_proper_value structs t
  is_proper_value structs (StructType s ts) = has_parameters (lookup (same_struct s) structs) (length (list_of_types ts)) && are_proper_values structs ts
  is_proper_value structs (ParamType n) = true
  is_proper_value structs (SharedType t) = false
  is_proper_value structs (MutableType t) = false
  is_proper_value structs (TupleType ts) = false

  pub are_proper_values : Structs → TypesData → Bool
  are_proper_values structs NoTypes = true
  are_proper_values structs (MoreTypes t ts) = is_proper_value structs t && are_proper_values structs ts

-- a type that a local may have
abbrev pub is_proper_single : Structs → TypeData → Bool
is_proper_single structs (SharedType t) = is_proper_value structs t
is_proper_single structs (MutableType t) = is_proper_value structs t
is_proper_single structs t = is_proper_value structs t

abbrev pub are_proper_singles : Structs → TypesData → Bool
are_proper_singles structs NoTypes = true
are_proper_singles structs (MoreTypes t ts) = is_proper_single structs t && are_proper_singles structs ts

-- a type that a result may have
abbrev pub is_proper : Structs → TypeData → Bool
is_proper structs (TupleType ts) = are_proper_singles structs ts
is_proper structs t = is_proper_single structs t
