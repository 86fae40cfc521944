-- Types of declarations with type arguments substituted, and types as specifications read them. Source: The Move Book,
-- "Generics"; the Move Specification Language reference, "Type System": every integer type is read as `num`, and a
-- reference as the type that it points at.
use Rattle.std.specs.Prelude.{ℕ, Bool, slice_index_or, if◌then◌else◌}
use Rattle.base.specs.TypeData.{TypeData, TypesData, BoolType, IntType, NumType, AddressType, SignerType, VectorType, StructType, ParamType, SharedType, MutableType, TupleType, NoTypes, MoreTypes, list_of_types}

-- a type with these types substituted for its type parameters
abbrev mutual
  pub instance : (ℕ → TypeData) → TypeData → TypeData
  instance f BoolType = BoolType
  instance f (IntType w) = IntType w
  instance f NumType = NumType
  instance f AddressType = AddressType
  instance f SignerType = SignerType
  instance f (VectorType t) = VectorType (instance f t)
  instance f (StructType s ts) = StructType s (instances f ts)
  instance f (ParamType n) = f n
  instance f (SharedType t) = SharedType (instance f t)
  instance f (MutableType t) = MutableType (instance f t)
  instance f (TupleType ts) = TupleType (instances f ts)

  pub instances : (ℕ → TypeData) → TypesData → TypesData
  instances f NoTypes = NoTypes
  instances f (MoreTypes t ts) = MoreTypes (instance f t) (instances f ts)

-- the type argument with this number
abbrev pub argument_in : TypesData → ℕ → TypeData
argument_in ts n = slice_index_or (list_of_types ts) n (ParamType n)

-- a type as a specification reads it
abbrev mutual
  pub spec_type : TypeData → TypeData
  spec_type BoolType = BoolType
  spec_type (IntType w) = NumType
  spec_type NumType = NumType
  spec_type AddressType = AddressType
  spec_type SignerType = SignerType
  spec_type (VectorType t) = VectorType (spec_type t)
  spec_type (StructType s ts) = StructType s (spec_types ts)
  spec_type (ParamType n) = ParamType n
  spec_type (SharedType t) = spec_type t
  spec_type (MutableType t) = spec_type t
  spec_type (TupleType ts) = TupleType (spec_types ts)

  pub spec_types : TypesData → TypesData
  spec_types NoTypes = NoTypes
  spec_types (MoreTypes t ts) = MoreTypes (spec_type t) (spec_types ts)

-- a written type, as it is read in code or in a specification
abbrev pub read_type : Bool → TypeData → TypeData
read_type is_spec t = if is_spec then spec_type t else t
