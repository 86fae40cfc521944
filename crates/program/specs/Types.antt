-- The abilities of types. Source: The Move Book, "Abilities": those of builtin types, "Annotating Structs", and
-- "Conditional Abilities and Generic Types".
use Rattle.std.specs.Prelude.{ℕ, ◌+◌, Bool, true, false, ◌&&◌, List, [], Option, Some, None, if◌then◌else◌, slice_get}
use Rattle.std.specs.Map.{lookup}
use Rattle.base.specs.declared.types.StructId.{StructId}
use Rattle.base.specs.TypeData.{TypeData, TypesData, BoolType, IntType, NumType, AddressType, SignerType, VectorType, StructType, ParamType, SharedType, MutableType, TupleType, NoTypes, MoreTypes}
use Rattle.program.specs.declared.declaration.AbilitySet.{AbilitySet}
use Rattle.program.specs.declared.declaration.TypeParameter.{TypeParameter}
use Rattle.program.specs.declared.declaration.Struct.{Struct}
use Rattle.program.specs.Same.{same_struct}
use Rattle.program.specs.Sets.{all_abilities, no_abilities, both}

abbrev pub Structs : Type 0
Structs = List (StructId × Struct)

-- integers, `bool`, `address`, and the numbers of specifications
abbrev pub of_value : AbilitySet
of_value = record { has_copy = true; has_drop = true; has_store = true; has_key = false }

abbrev pub of_signer : AbilitySet
of_signer = record { has_copy = false; has_drop = true; has_store = false; has_key = false }

abbrev pub of_reference : AbilitySet
of_reference = record { has_copy = true; has_drop = true; has_store = false; has_key = false }

-- a vector has those of copy, drop and store that its elements have
abbrev pub of_vector : AbilitySet → AbilitySet
of_vector a = both of_value a

-- a tuple has those of copy and drop that its items have, and is never stored
abbrev pub of_tuple : AbilitySet → AbilitySet
of_tuple a = both of_reference a

-- a type parameter has its given abilities
abbrev pub of_parameter : Option AbilitySet → AbilitySet
of_parameter None = no_abilities
of_parameter (Some a) = a

-- a struct has those of its declared abilities that its arguments, except phantom ones, support: copy, drop and store
-- where all of them have it, and key where all of them have store
abbrev pub applied : AbilitySet → AbilitySet → AbilitySet
applied declared common = record {
  has_copy = declared.has_copy && common.has_copy;
  has_drop = declared.has_drop && common.has_drop;
  has_store = declared.has_store && common.has_store;
  has_key = declared.has_key && common.has_store;
}

abbrev pub is_phantom : Option TypeParameter → Bool
is_phantom None = false
is_phantom (Some p) = p.is_phantom

-- the abilities of a struct, given its declaration and the abilities that its arguments have in common
abbrev pub declared_applied : Option Struct → (List TypeParameter → AbilitySet) → AbilitySet
declared_applied None common = no_abilities
declared_applied (Some s) common = applied s.abilities (common s.type_parameters)

abbrev mutual
  pub of_type : Structs → List AbilitySet → TypeData → AbilitySet
  of_type structs params BoolType = of_value
  of_type structs params (IntType w) = of_value
  of_type structs params NumType = of_value
  of_type structs params AddressType = of_value
  of_type structs params SignerType = of_signer
  of_type structs params (VectorType t) = of_vector (of_type structs params t)
  of_type structs params (StructType s ts) = declared_applied (lookup (same_struct s) structs) (λ parameters. common structs params parameters 0 ts)
  of_type structs params (ParamType n) = of_parameter (slice_get params n)
  of_type structs params (SharedType t) = of_reference
  of_type structs params (MutableType t) = of_reference
  of_type structs params (TupleType ts) = of_tuple (common structs params [] 0 ts)

  -- the abilities that these types have in common, except those for phantom parameters, where the first type is that of
  -- the parameter with number n
  pub common : Structs → List AbilitySet → List TypeParameter → ℕ → TypesData → AbilitySet
  common structs params parameters n NoTypes = all_abilities
  common structs params parameters n (MoreTypes t ts) =
      if is_phantom (slice_get parameters n) then common structs params parameters (n + 1) ts
      else both (of_type structs params t) (common structs params parameters (n + 1) ts)

abbrev pub of_struct : Structs → List AbilitySet → StructId → TypesData → AbilitySet
of_struct structs params s ts = of_type structs params (StructType s ts)
