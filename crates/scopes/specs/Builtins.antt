-- The builtins of the language. Source: The Move Book, "Primitive Types", "Vector", "Signer" and "Global Storage
-- Operators"; the Move Specification Language reference, "Builtin Functions".
use Rattle.std.specs.Prelude.{ℕ, Bool, ◌&&◌, List, [], ◌∷◌, ◌++◌, map, codes, Option, Some, None, if◌then◌else◌}
use Rattle.base.specs.Names.{same_name}
use Rattle.base.specs.TypeData.{TypeData, BoolType, IntType, NumType, AddressType, SignerType}
use Rattle.base.specs.declared.types.Width.TheVariants.{U8, U16, U32, U64, U128}
use Rattle.base.specs.declared.types.FunctionId.{FunctionId}
use Rattle.program.specs.declared.program.ModuleId.{ModuleId}
use Rattle.program.specs.declared.code.Callee.{Callee}
use Rattle.program.specs.declared.code.Callee.TheVariants.{Function as plain_function, Vector, AddressOf}
use Rattle.program.specs.declared.operator.StorageOperation.{StorageOperation}
use Rattle.program.specs.declared.operator.StorageOperation.TheVariants.{MoveTo, MoveFrom, BorrowGlobal, BorrowGlobalMut, Exists}
use Rattle.program.specs.declared.operator.VectorFunction.{VectorFunction}
use Rattle.program.specs.declared.operator.VectorFunction.TheVariants.{Empty, Length, Borrow, PushBack, BorrowMut, PopBack, DestroyEmpty, Swap}
use Rattle.program.specs.declared.operator.SpecBuiltin.{SpecBuiltin}
use Rattle.program.specs.declared.operator.SpecBuiltin.TheVariants.{Old, Length as spec_length, InRange, Exists as spec_exists, Global, AddressOf as spec_address_of}
use Rattle.scopes.specs.declared.member.MemberKind.TheVariants.{Function}
use Rattle.scopes.specs.declared.member.MemberId.{MemberId}
use Rattle.scopes.specs.declared.member.Declaration.{Declaration}
use Rattle.scopes.specs.MemberNames.{same_module}

-- the value paired with the first of these words that is equal to this one
abbrev pub beside : {A : Type 0} → List (List ℕ × A) → List ℕ → Option A
beside [] word = None
beside (one ∷ more) word = if same_name word one.0 then Some one.1 else beside more word

abbrev pub storage_operations : List (List ℕ × StorageOperation)
storage_operations =
    (codes "move_to", MoveTo) ∷ (codes "move_from", MoveFrom) ∷ (codes "borrow_global", BorrowGlobal)
    ∷ (codes "borrow_global_mut", BorrowGlobalMut) ∷ (codes "exists", Exists) ∷ []

abbrev pub vector_functions : List (List ℕ × VectorFunction)
vector_functions =
    (codes "empty", Empty) ∷ (codes "length", Length) ∷ (codes "borrow", Borrow) ∷ (codes "push_back", PushBack)
    ∷ (codes "borrow_mut", BorrowMut) ∷ (codes "pop_back", PopBack) ∷ (codes "destroy_empty", DestroyEmpty) ∷ (codes "swap", Swap) ∷ []

abbrev pub spec_builtins : List (List ℕ × SpecBuiltin)
spec_builtins =
    (codes "len", spec_length) ∷ (codes "old", Old) ∷ (codes "exists", spec_exists) ∷ (codes "global", Global)
    ∷ (codes "in_range", InRange) ∷ []

-- the builtin types with names of their own in code, except `vector`
abbrev pub plain_types : List (List ℕ × TypeData)
plain_types =
    (codes "bool", BoolType) ∷ (codes "u8", IntType U8) ∷ (codes "u16", IntType U16) ∷ (codes "u32", IntType U32) ∷ (codes "u64", IntType U64)
    ∷ (codes "u128", IntType U128) ∷ (codes "address", AddressType) ∷ (codes "signer", SignerType) ∷ []

abbrev pub storage_operation : List ℕ → Option StorageOperation
storage_operation = beside storage_operations

abbrev pub vector_function : List ℕ → Option VectorFunction
vector_function = beside vector_functions

abbrev pub spec_builtin : List ℕ → Option SpecBuiltin
spec_builtin = beside spec_builtins

-- in specifications also `num`
abbrev pub plain_type : Bool → List ℕ → Option TypeData
plain_type is_spec word = if is_spec && same_name word (codes "num") then Some NumType else beside plain_types word

-- ---- builtin modules

abbrev pub vector_module : ModuleId
vector_module = record { address = 1; name = codes "vector" }

abbrev pub signer_module : ModuleId
signer_module = record { address = 1; name = codes "signer" }

-- their declarations
abbrev pub builtin_declarations : List Declaration
builtin_declarations =
    map (λ f. record { kind = Function; member = record { owner = vector_module; name = f.0 } }) vector_functions
    ++ record { kind = Function; member = record { owner = signer_module; name = codes "address_of" } } ∷ []

abbrev pub is_address_of : MemberId → Bool
is_address_of m = same_module m.owner signer_module && same_name m.name (codes "address_of")

abbrev pub vector_callee : Option VectorFunction → FunctionId → Callee
vector_callee (Some f) id = Vector f
vector_callee None id = plain_function id

-- the callee that a function name means
abbrev pub builtin_function : MemberId → Callee
builtin_function m =
    let id : FunctionId = record { address = m.owner.address; «module» = m.owner.name; name = m.name } in
    if is_address_of m then AddressOf
    else (if same_module m.owner vector_module then vector_callee (vector_function m.name) id else plain_function id)

-- the one function of Move that specifications may call
abbrev pub spec_move_function : MemberId → Option SpecBuiltin
spec_move_function m = if is_address_of m then Some spec_address_of else None
