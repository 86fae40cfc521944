-- The values of each type, given the shapes of structs. Source: The Move Book, "Primitive Types" and "Structs and
-- Resources"; the Move Specification Language reference, "Type System", on `num`.
use Rattle.std.specs.Prelude.{ℕ, ◌-◌, ◌^◌, ℤ, pos, negsuc, Bool, true, false, ◌&&◌, nat_lt, nat_le, ◌==◌, List, [], ◌∷◌, length, map, slice_index_or, Option, Some, None, if◌then◌else◌}
use Rattle.base.specs.TypeData.{TypeData, TypesData, BoolType, IntType, NumType, AddressType, SignerType, VectorType, StructType, ParamType, SharedType, MutableType, TupleType, NoTypes, MoreTypes, list_of_types, struct_code}
use Rattle.base.specs.declared.types.StructId.{StructId}
use Rattle.base.specs.declared.types.Width.{Width}
use Rattle.base.specs.declared.types.Width.TheVariants.{U128}
use Rattle.fol.specs.declared.shapes.Shape.{Shape}
use Rattle.fol.specs.Val.{Val, NumberValue, TruthValue, VectorValue, StructValue, Vals, NoValues, MoreValues, list_of_values, same_type}
use Rattle.fol.specs.TreeOrder.{same_tree}
use Rattle.fol.specs.Whole.{bits_of}

-- ---- types with type arguments in place of type parameters

abbrev mutual
  pub put_types : (ℕ → TypeData) → TypeData → TypeData
  put_types named BoolType = BoolType
  put_types named (IntType w) = IntType w
  put_types named NumType = NumType
  put_types named AddressType = AddressType
  put_types named SignerType = SignerType
  put_types named (VectorType t) = VectorType (put_types named t)
  put_types named (StructType s ts) = StructType s (put_types_in named ts)
  put_types named (ParamType n) = named n
  put_types named (SharedType t) = SharedType (put_types named t)
  put_types named (MutableType t) = MutableType (put_types named t)
  put_types named (TupleType ts) = TupleType (put_types_in named ts)

  pub put_types_in : (ℕ → TypeData) → TypesData → TypesData
  put_types_in named NoTypes = NoTypes
  put_types_in named (MoreTypes t ts) = MoreTypes (put_types named t) (put_types_in named ts)

-- the type argument with this number; a parameter without an argument is unchanged, and has no values
abbrev pub argument : TypesData → ℕ → TypeData
argument args n = slice_index_or (list_of_types args) n (ParamType n)

-- ---- structs

abbrev pub same_struct : StructId → StructId → Bool
same_struct a b = same_tree (struct_code a) (struct_code b)

-- the types of the fields of a struct with these type arguments; none where the shapes lack the struct, or it has
-- another number of type parameters
abbrev pub field_types : List Shape → StructId → TypesData → Option (List TypeData)
field_types [] s args = None
field_types (shape ∷ shapes) s args = if same_struct shape.name s then (if length (list_of_types args) == shape.parameters then Some (map (put_types (argument args)) (list_of_types shape.fields)) else None) else field_types shapes s args

-- ---- values of types

-- a number from 0 to the greatest of the width
abbrev pub is_in_width : Width → ℤ → Bool
is_in_width w (pos n) = nat_lt n (2 ^ bits_of w)
is_in_width w (negsuc n) = false

abbrev some_and : {A : Type 0} → Option A → (A → Bool) → Bool
some_and None test = false
some_and (Some x) test = test x

abbrev mutual
  -- decides whether the value is of the type; references, tuples and type parameters have no values
  pub has_type : List Shape → TypeData → Val → Bool
  has_type shapes BoolType (TruthValue b) = true
  has_type shapes (IntType w) (NumberValue z) = is_in_width w z
  has_type shapes NumType (NumberValue z) = true
  has_type shapes AddressType (NumberValue z) = is_in_width U128 z
  has_type shapes SignerType (NumberValue z) = is_in_width U128 z
  has_type shapes (VectorType t) (VectorValue vs) = nat_le (length (list_of_values vs)) (2 ^ 64 - 1) && all_have_type shapes t vs
  has_type shapes (StructType s args) (StructValue u vs) = same_type (StructType s args) u && some_and (field_types shapes s args) (λ ts. have_types shapes ts vs)
  has_type shapes _ _ = false

  pub all_have_type : List Shape → TypeData → Vals → Bool
  all_have_type shapes t NoValues = true
  all_have_type shapes t (MoreValues v vs) = has_type shapes t v && all_have_type shapes t vs

  -- decides whether there is one value for each type, and of this type
  pub have_types : List Shape → List TypeData → Vals → Bool
  have_types shapes [] NoValues = true
  have_types shapes (t ∷ ts) (MoreValues v vs) = has_type shapes t v && have_types shapes ts vs
  have_types shapes _ _ = false
