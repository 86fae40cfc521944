-- The types of the fields of a struct type, with its type arguments substituted, by the numbers of a pool.
use Rattle.std.specs.Prelude.{◌≡◌, ℕ, List, [], ◌∷◌, Option, MatchOption}
use Rattle.base.specs.TypeData.{TypeData, TypesData, StructType, list_of_types}
use Rattle.base.specs.declared.types.StructId.{StructId}
use Rattle.fol.specs.declared.shapes.Shape.{Shape}
use Rattle.axioms.specs.Fields.{IsStruct, IsPut}
use Rattle.term_pool.specs.Items.{types_in}
use Rattle.term_pool.specs.Pools.{item_at}
use Rattle.term_pool.specs.declared.node.Node.{Node}
use Rattle.axiom_instances.specs.Puts.{type_at, IsTypeNumber, IsTypesNumber}

-- ---- type arguments

pub record IsNoStructType (a : TypeData) : Type 0 where
  pub none : (s : StructId) (args : TypesData) → a ≡ StructType s args → ⊥

-- the second number is that of the list of the type arguments of a struct type
pub record AreArguments (ns : List Node) (of args : ℕ) : Type 0 where
  pub id : StructId
  pub is : type_at ns of ≡ StructType id (types_in (item_at ns args))
  pub list : IsTypesNumber ns args

-- ---- fields

-- the type is no struct type with a shape, or has the wrong number of type arguments
pub record HasNoShape (shapes : List Shape) (a : TypeData) : Type 0 where
  pub none : (shape : Shape) (args : TypesData) → IsStruct shapes a shape args → ⊥

-- a type parameter of a field's type has no argument
pub record HasNoType (args : List TypeData) (field : TypeData) : Type 0 where
  pub none : (a : TypeData) → IsPut args field a → ⊥

-- the number is that of the field's type with the arguments substituted
pub record IsTypeWith (ns : List Node) (args : List TypeData) (field : TypeData) (n : ℕ) : Type 0 where
  pub number : IsTypeNumber ns n
  pub put : IsPut args field (type_at ns n)

abbrev pub IsPutResult : List Node → List TypeData → TypeData → Option ℕ → Type 0
IsPutResult ns args field found = MatchOption found (HasNoType args field) (IsTypeWith ns args field)

pub data ArePutResults (ns : List Node) (args : List TypeData) : List TypeData → List (Option ℕ) → Type 0 where
  NoResults : ArePutResults ns args [] []
  MoreResults : (field : TypeData) (found : Option ℕ) (fields : List TypeData) (founds : List (Option ℕ)) → IsPutResult ns args field found → ArePutResults ns args fields founds → ArePutResults ns args (field ∷ fields) (found ∷ founds)

-- the types of the fields of a struct type
pub record AreFieldTypes (ns : List Node) (shapes : List Shape) (a : TypeData) (found : List (Option ℕ)) : Type 0 where
  pub shape : Shape
  pub args : TypesData
  pub is_struct : IsStruct shapes a shape args
  pub results : ArePutResults ns (list_of_types args) (list_of_types shape.fields) found
