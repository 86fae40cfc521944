-- The fields of struct types, by the shapes of structs.
use Rattle.std.specs.Prelude.{◌≡◌, ℕ, ◌<◌, List, [], ◌∷◌, length, slice_get, Option, Some, None, if◌then◌else◌}
use Rattle.base.specs.TypeData.{TypeData, TypesData, BoolType, IntType, NumType, AddressType, SignerType, VectorType, StructType, ParamType, SharedType, MutableType, TupleType, NoTypes, MoreTypes, list_of_types}
use Rattle.base.specs.declared.types.StructId.{StructId}
use Rattle.fol.specs.declared.shapes.Shape.{Shape}
use Rattle.fol.specs.TypedValue.{same_struct}

-- the shape of the struct with this name: the first one
abbrev pub shape_of : List Shape → StructId → Option Shape
shape_of [] s = None
shape_of (shape ∷ shapes) s = if same_struct shape.name s then Some shape else shape_of shapes s

-- the type is that of a struct of this shape, with these type arguments, as many as the shape has type parameters
abbrev pub IsStruct : List Shape → TypeData → Shape → TypesData → Type 0
IsStruct shapes a shape args =
    (s : StructId) × (a ≡ StructType s args) × (shape_of shapes s ≡ Some shape) × (length (list_of_types args) ≡ shape.parameters)

-- the type is that of a struct with this many fields
unfoldable pub HasFields : List Shape → TypeData → ℕ → Type 0
HasFields shapes a n =
    (shape : Shape) × (args : TypesData) × IsStruct shapes a shape args × (length (list_of_types shape.fields) ≡ n)

-- the type is that of a struct with a field of this number
unfoldable pub HasField : List Shape → TypeData → ℕ → Type 0
HasField shapes a k =
    (shape : Shape) × (args : TypesData) × IsStruct shapes a shape args × (k < length (list_of_types shape.fields))

abbrev mutual
  -- b is the type a with type arguments substituted for its type parameters, each of which has one
  pub IsPut : List TypeData → TypeData → TypeData → Type 0
  IsPut args (ParamType n) b = slice_get args n ≡ Some b
  IsPut args (VectorType a) (VectorType b) = IsPut args a b
  IsPut args (StructType s as') (StructType r bs) = (s ≡ r) × ArePut args as' bs
  IsPut args (SharedType a) (SharedType b) = IsPut args a b
  IsPut args (MutableType a) (MutableType b) = IsPut args a b
  IsPut args (TupleType as') (TupleType bs) = ArePut args as' bs
  IsPut args (IntType v) (IntType w) = v ≡ w
  IsPut args BoolType BoolType = Unit {0}
  IsPut args NumType NumType = Unit {0}
  IsPut args AddressType AddressType = Unit {0}
  IsPut args SignerType SignerType = Unit {0}
  IsPut args _ _ = ⊥

  pub ArePut : List TypeData → TypesData → TypesData → Type 0
  ArePut args NoTypes NoTypes = Unit {0}
  ArePut args (MoreTypes a as') (MoreTypes b bs) = IsPut args a b × ArePut args as' bs
  ArePut args _ _ = ⊥

-- the type is that of a struct whose field with this number has the type a
unfoldable pub HasFieldType : List Shape → TypeData → ℕ → TypeData → Type 0
HasFieldType shapes s k a =
    (shape : Shape) × (args : TypesData) × (f : TypeData) × IsStruct shapes s shape args × (slice_get (list_of_types shape.fields) k ≡ Some f) × IsPut (list_of_types args) f a
