-- Types as pure data, as contracts see them, and their code. The integer, truth, address and vector types and the
-- references are those of The Move Book, "Primitive Types" and "References"; `num` is the type of integers of any size
-- of the Move Specification Language reference, "Type System".
use base.Stored.{Gv, gnil, gnum, gcons, num}
use Rattle.std.specs.Prelude.{◌≡◌, ℕ, ◌+◌, List, [], ◌∷◌, refl}
use Rattle.std.specs.Coded.{Coded, code_by}
use denote.Struct.Codes.{itself}
use Rattle.std.proofs.Common.{ap, sym, ◌∙◌}
use Rattle.base.specs.Codes.{pick, numbers_code, numbers_back, numbers_back-code}
use Rattle.base.specs.declared.types.StructId.{StructId}
use Rattle.base.specs.declared.types.Width.{Width}
use Rattle.base.specs.declared.types.Width.TheVariants.{U8, U16, U32, U64, U128}

mutual
  pub data TypeData : Type 0 where
    BoolType : TypeData
    IntType : Width → TypeData
    NumType : TypeData
    AddressType : TypeData
    SignerType : TypeData
    VectorType : TypeData → TypeData
    StructType : StructId → TypesData → TypeData
    ParamType : ℕ → TypeData
    SharedType : TypeData → TypeData
    MutableType : TypeData → TypeData
    TupleType : TypesData → TypeData

  pub data TypesData : Type 0 where
    NoTypes : TypesData
    MoreTypes : TypeData → TypesData → TypesData

-- a list of types as types, and back
abbrev pub types_of : List TypeData → TypesData
types_of [] = NoTypes
types_of (t ∷ ts) = MoreTypes t (types_of ts)

abbrev pub list_of_types : TypesData → List TypeData
list_of_types NoTypes = []
list_of_types (MoreTypes t ts) = t ∷ list_of_types ts

pub list_of_types-types_of : (ts : List TypeData) → list_of_types (types_of ts) ≡ ts
list_of_types-types_of [] = refl
list_of_types-types_of (t ∷ ts) = ap (λ us. t ∷ us) (list_of_types-types_of ts)

pub types_of-list_of_types : (ts : TypesData) → types_of (list_of_types ts) ≡ ts
types_of-list_of_types NoTypes = refl
types_of-list_of_types (MoreTypes t ts) = ap (MoreTypes t) (types_of-list_of_types ts)

-- lists of the same types are equal
pub types_of_injective : (ts us : List TypeData) → types_of ts ≡ types_of us → ts ≡ us
types_of_injective ts us e =
    sym (list_of_types-types_of ts) ∙ ap list_of_types e ∙ list_of_types-types_of us

-- the number of nodes
abbrev mutual
  pub type_size : TypeData → ℕ
  type_size BoolType = 1
  type_size (IntType w) = 1
  type_size NumType = 1
  type_size AddressType = 1
  type_size SignerType = 1
  type_size (VectorType t) = 1 + type_size t
  type_size (StructType s ts) = 1 + types_size ts
  type_size (ParamType n) = 1
  type_size (SharedType t) = 1 + type_size t
  type_size (MutableType t) = 1 + type_size t
  type_size (TupleType ts) = 1 + types_size ts

  pub types_size : TypesData → ℕ
  types_size NoTypes = 1
  types_size (MoreTypes t ts) = 1 + (type_size t + types_size ts)

abbrev width_code : Width → Gv
width_code U8 = gnum 0
width_code U16 = gnum 1
width_code U32 = gnum 2
width_code U64 = gnum 3
width_code U128 = gnum 4

abbrev pub width_back : Gv → Width
width_back g = pick (num g) U8 (U8 ∷ U16 ∷ U32 ∷ U64 ∷ U128 ∷ [])

pub width_back-code : (w : Width) → width_back (width_code w) ≡ w
width_back-code U8 = refl
width_back-code U16 = refl
width_back-code U32 = refl
width_back-code U64 = refl
width_back-code U128 = refl

abbrev pub struct_code : StructId → Gv
struct_code s = gcons (gnum s.address) (gcons (numbers_code s.module) (numbers_code s.name))

abbrev pub struct_back : Gv → StructId
struct_back gnil = record { address = 0; «module» = []; name = [] }
struct_back (gnum n) = record { address = 0; «module» = []; name = [] }
struct_back (gcons a gnil) = record { address = num a; «module» = []; name = [] }
struct_back (gcons a (gnum n)) = record { address = num a; «module» = []; name = [] }
struct_back (gcons a (gcons b c)) = record { address = num a; «module» = numbers_back b; name = numbers_back c }

pub struct_back-code : (s : StructId) → struct_back (struct_code s) ≡ s
struct_back-code s = λ i. record { address = s.address; «module» = numbers_back-code s.module i; name = numbers_back-code s.name i }

-- a numbered tree with three subtrees
abbrev tree : ℕ → Gv → Gv → Gv → Gv
tree n a b c = gcons (gnum n) (gcons a (gcons b c))

abbrev mutual
  pub type_code : TypeData → Gv
  type_code BoolType = tree 0 gnil gnil gnil
  type_code (IntType w) = tree 1 (width_code w) gnil gnil
  type_code NumType = tree 2 gnil gnil gnil
  type_code AddressType = tree 3 gnil gnil gnil
  type_code SignerType = tree 4 gnil gnil gnil
  type_code (VectorType t) = tree 5 (type_code t) gnil gnil
  type_code (StructType s ts) = tree 6 (struct_code s) (types_code ts) gnil
  type_code (ParamType n) = tree 7 (gnum n) gnil gnil
  type_code (SharedType t) = tree 8 (type_code t) gnil gnil
  type_code (MutableType t) = tree 9 (type_code t) gnil gnil
  type_code (TupleType ts) = tree 10 (types_code ts) gnil gnil

  pub types_code : TypesData → Gv
  types_code NoTypes = gnil
  types_code (MoreTypes t ts) = gcons (type_code t) (types_code ts)

abbrev mutual
  pub type_back : Gv → TypeData
  type_back (gcons (gnum n) (gcons a (gcons b c))) =
      pick n BoolType (BoolType ∷ IntType (width_back a) ∷ NumType ∷ AddressType ∷ SignerType ∷ VectorType (type_back a) ∷ StructType (struct_back a) (types_back b) ∷ ParamType (num a) ∷ SharedType (type_back a) ∷ MutableType (type_back a) ∷ TupleType (types_back a) ∷ [])
  type_back _ = BoolType

  pub types_back : Gv → TypesData
  types_back gnil = NoTypes
  types_back (gnum n) = NoTypes
  types_back (gcons a b) = MoreTypes (type_back a) (types_back b)

mutual
  pub type_back-code : (t : TypeData) → type_back (type_code t) ≡ t
  type_back-code BoolType = refl
  type_back-code (IntType w) = ap IntType (width_back-code w)
  type_back-code NumType = refl
  type_back-code AddressType = refl
  type_back-code SignerType = refl
  type_back-code (VectorType t) = ap VectorType (type_back-code t)
  type_back-code (StructType s ts) = λ i. StructType (struct_back-code s i) (types_back-code ts i)
  type_back-code (ParamType n) = refl
  type_back-code (SharedType t) = ap SharedType (type_back-code t)
  type_back-code (MutableType t) = ap MutableType (type_back-code t)
  type_back-code (TupleType ts) = ap TupleType (types_back-code ts)

  pub types_back-code : (ts : TypesData) → types_back (types_code ts) ≡ ts
  types_back-code NoTypes = refl
  types_back-code (MoreTypes t ts) = λ i. MoreTypes (type_back-code t i) (types_back-code ts i)

abbrev pub coded_type : Coded TypeData
coded_type = code_by Gv itself type_code type_back type_back-code

abbrev pub coded_types : Coded TypesData
coded_types = code_by Gv itself types_code types_back types_back-code
