-- Substitution of type arguments for type parameters, by the numbers of a pool.
use Rattle.std.specs.Prelude.{◌≡◌, ℕ, ◌<◌, Bool, true, false, List, [], ◌∷◌, slice_get, Some}
use Rattle.base.specs.TypeData.{TypeData, list_of_types}
use Rattle.axioms.specs.Fields.{IsPut, ArePut}
use Rattle.term_pool.specs.Items.{Item, TypeItem, TypesItem, type_in, types_in}
use Rattle.term_pool.specs.Pools.{item_at, IsItem}
use Rattle.term_pool.specs.declared.node.Leaf.{Leaf}
use Rattle.term_pool.specs.declared.node.Leaf.TheVariants.{TypeBool, TypeInt, TypeNum, TypeAddress, TypeSigner, NilTypes}
use Rattle.term_pool.specs.declared.node.Node.{Node}

abbrev pub type_at : List Node → ℕ → TypeData
type_at ns n = type_in (item_at ns n)

-- the types of a list
abbrev pub types_at : List Node → ℕ → List TypeData
types_at ns n = list_of_types (types_in (item_at ns n))

-- the number is that of a type; of a list of types
abbrev pub IsTypeNumber : List Node → ℕ → Type 0
IsTypeNumber ns n = IsItem ns n (TypeItem (type_at ns n))

abbrev pub IsTypesNumber : List Node → ℕ → Type 0
IsTypesNumber ns n = IsItem ns n (TypesItem (types_in (item_at ns n)))

-- the first type of a list and the rest
pub record IsNextType (ns : List Node) (list : ℕ) (p : ℕ × ℕ) : Type 0 where
  pub first : IsTypeNumber ns p.0
  pub rest : IsTypesNumber ns p.1
  pub earlier : p.1 < list
  pub is : types_at ns list ≡ type_at ns p.0 ∷ types_at ns p.1

-- the type of a list at this index
pub record IsArgument (ns : List Node) (args : List TypeData) (position n : ℕ) : Type 0 where
  pub number : IsTypeNumber ns n
  pub found : slice_get args position ≡ Some (type_at ns n)

-- a type other than a type parameter, or the empty list of types
abbrev pub is_fixed : Leaf → Bool
is_fixed TypeBool = true
is_fixed (TypeInt w) = true
is_fixed TypeNum = true
is_fixed TypeAddress = true
is_fixed TypeSigner = true
is_fixed NilTypes = true
is_fixed _ = false

-- the second item is the first, a type or a list of types, with type arguments substituted for its type parameters
abbrev pub IsPutItem : List TypeData → Item → Item → Type 0
IsPutItem args (TypeItem a) (TypeItem b) = IsPut args a b
IsPutItem args (TypesItem as') (TypesItem bs) = ArePut args as' bs
IsPutItem args _ _ = ⊥

-- some type parameter has no argument
pub record HasNoPut (args : List TypeData) (x : Item) : Type 0 where
  pub none : (y : Item) → IsPutItem args x y → ⊥

-- the number is that of the item with the type arguments substituted
pub record IsPutNumber (ns : List Node) (args : List TypeData) (x : Item) (n : ℕ) : Type 0 where
  pub item : Item
  pub is : IsItem ns n item
  pub put : IsPutItem args x item
