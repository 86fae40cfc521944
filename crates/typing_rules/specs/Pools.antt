-- The types that the entries of a pool are, each after its parts.
use Rattle.std.specs.Prelude.{◌≡◌, ℕ, ◌<◌, List, [], ◌∷◌, ◌++◌, length, map, All, slice_index_or}
use Rattle.base.specs.TypeData.{TypeData, BoolType, IntType, NumType, AddressType, SignerType, StructType, ParamType, TupleType, NoTypes, types_of}
use Rattle.typing_rules.specs.Sorts.{made}
use Rattle.typing_rules.specs.declared.type_pool.PlainType.{PlainType}
use Rattle.typing_rules.specs.declared.type_pool.PlainType.TheVariants.{Bool, Int, Num, Address, Signer, Param}
use Rattle.typing_rules.specs.declared.type_pool.PoolType.{PoolType}
use Rattle.typing_rules.specs.declared.type_pool.PoolType.TheVariants.{Plain, Made, Struct, Tuple}

abbrev pub plain_type : PlainType → TypeData
plain_type Bool = BoolType
plain_type (Int w) = IntType w
plain_type Num = NumType
plain_type Address = AddressType
plain_type Signer = SignerType
plain_type (Param n) = ParamType n

-- the type with a number
abbrev pub type_at : List TypeData → ℕ → TypeData
type_at ts n = slice_index_or ts n (TupleType NoTypes)

-- the type of an entry, given the types of the entries before it
abbrev pub type_of : List TypeData → PoolType → TypeData
type_of ts (Plain p) = plain_type p
type_of ts (Made wrap n) = made wrap (type_at ts n)
type_of ts (Struct s ns) = StructType s (types_of (map (type_at ts) ns))
type_of ts (Tuple ns) = TupleType (types_of (map (type_at ts) ns))

-- the types of entries, each from those before it
abbrev pub types_in : List TypeData → List PoolType → List TypeData
types_in done [] = done
types_in done (e ∷ es) = types_in (done ++ type_of done e ∷ []) es

abbrev pub types : List PoolType → List TypeData
types es = types_in [] es

-- each part of the entry has a number below this one
abbrev pub IsBelow : ℕ → PoolType → Type 0
IsBelow n (Plain p) = Unit {0}
IsBelow n (Made wrap m) = m < n
IsBelow n (Struct s ms) = All (λ m. m < n) ms
IsBelow n (Tuple ms) = All (λ m. m < n) ms

-- each entry comes after its parts
abbrev pub AreBelow : List PoolType → Type 0
AreBelow es = (n : ℕ) (d : PoolType) → n < length es → IsBelow n (slice_index_or es n d)

-- the new list is the old one, possibly with more at its end
abbrev pub Grows : {A : Type 0} → List A → List A → Type 0
Grows {A} old new = (more : List A) × (new ≡ old ++ more)
