-- The setting of a body of code, and its type variables: first its nodes by their numbers, then its locals, then the
-- type arguments of its nodes, node by node.
use Rattle.std.specs.Prelude.{ℕ, ◌+◌, List, [], ◌∷◌, length, map, take, sum_by, Option, Some, None}
use Rattle.std.specs.Map.{lookup}
use Rattle.std.specs.Option.{option_map}
use Rattle.base.specs.TypeData.{TypeData, BoolType, IntType, AddressType, SignerType, VectorType, ParamType, SharedType, MutableType, TupleType, NoTypes}
use Rattle.base.specs.declared.types.Width.TheVariants.{U64}
use Rattle.program.specs.declared.arena.Node.TheVariants.{Many}
use Rattle.program.specs.declared.code.CodeMany.{CodeMany}
use Rattle.program.specs.declared.code.CodeMany.TheVariants.{Call as call_form, Vector as vector_form, Pack, Unpack}
use Rattle.program.specs.declared.code.Callee.{Callee}
use Rattle.program.specs.declared.code.Callee.TheVariants.{Function as plain_function, Storage, Vector as vector_callee, AddressOf}
use Rattle.program.specs.declared.operator.StorageOperation.{StorageOperation}
use Rattle.program.specs.declared.operator.StorageOperation.TheVariants.{MoveTo, MoveFrom, BorrowGlobal, BorrowGlobalMut, Exists}
use Rattle.program.specs.declared.operator.VectorFunction.{VectorFunction}
use Rattle.program.specs.declared.operator.VectorFunction.TheVariants.{Empty, Length, Borrow, PushBack, BorrowMut, PopBack, DestroyEmpty, Swap}
use Rattle.program.specs.declared.declaration.Function.{Function}
use Rattle.program.specs.declared.declaration.Struct.{Struct}
use Rattle.program.specs.declared.program.Program.{Program}
use Rattle.program.specs.Same.{same_function, same_struct}
use Rattle.program.specs.CodeNodes.{CodeNode}

-- ---- signatures

-- the number of type parameters, the types of the parameters, and the type of the result
pub record Signature : Type 0 where
  pub arity : ℕ
  pub parameters : List TypeData
  pub result : TypeData

abbrev pub unit_type : TypeData
unit_type = TupleType NoTypes

abbrev pub u64_type : TypeData
u64_type = IntType U64

-- the one type parameter of the functions of the language itself
abbrev pub item : TypeData
item = ParamType 0

abbrev pub signature : ℕ → List TypeData → TypeData → Signature
signature arity parameters result_type = record { arity = arity; parameters = parameters; result = result_type }

-- The Move Book, "Global Storage Operators"
abbrev pub storage_signature : StorageOperation → Signature
storage_signature MoveTo = signature 1 (SharedType SignerType ∷ item ∷ []) unit_type
storage_signature MoveFrom = signature 1 (AddressType ∷ []) item
storage_signature BorrowGlobal = signature 1 (AddressType ∷ []) (SharedType item)
storage_signature BorrowGlobalMut = signature 1 (AddressType ∷ []) (MutableType item)
storage_signature Exists = signature 1 (AddressType ∷ []) BoolType

-- The Move Book, "Vector"
abbrev pub vector_signature : VectorFunction → Signature
vector_signature Empty = signature 1 [] (VectorType item)
vector_signature Length = signature 1 (SharedType (VectorType item) ∷ []) u64_type
vector_signature Borrow = signature 1 (SharedType (VectorType item) ∷ u64_type ∷ []) (SharedType item)
vector_signature PushBack = signature 1 (MutableType (VectorType item) ∷ item ∷ []) unit_type
vector_signature BorrowMut = signature 1 (MutableType (VectorType item) ∷ u64_type ∷ []) (MutableType item)
vector_signature PopBack = signature 1 (MutableType (VectorType item) ∷ []) item
vector_signature DestroyEmpty = signature 1 (VectorType item ∷ []) unit_type
vector_signature Swap = signature 1 (MutableType (VectorType item) ∷ u64_type ∷ u64_type ∷ []) unit_type

-- The Move Book, "Signer"
abbrev pub address_signature : Signature
address_signature = signature 0 (SharedType SignerType ∷ []) AddressType

abbrev pub function_signature : Function → Signature
function_signature f = signature (length f.type_parameters) (map (λ p. p.annotation) f.parameters) f.result

-- the signature of a callee that is declared
abbrev pub callee_signature : Program → Callee → Option Signature
callee_signature program (plain_function f) = option_map function_signature (lookup (same_function f) program.functions)
callee_signature program (Storage operation) = Some (storage_signature operation)
callee_signature program (vector_callee function) = Some (vector_signature function)
callee_signature program AddressOf = Some address_signature

-- ---- settings

-- the program, the nodes of a body, the number of its locals, and the type of its result; a constant has no result
pub record CodeSetting : Type 0 where
  pub program : Program
  pub nodes : List CodeNode
  pub locals : ℕ
  pub result : Option TypeData

-- ---- type variables

abbrev pub arity_of : Option Signature → ℕ
arity_of None = 0
arity_of (Some s) = s.arity

abbrev pub struct_arity : Option Struct → ℕ
struct_arity None = 0
struct_arity (Some s) = length s.type_parameters

-- the number of type arguments of a node, whether they are written or not
abbrev pub form_arity : Program → CodeMany → ℕ
form_arity program (call_form c) = arity_of (callee_signature program c.callee)
form_arity program (vector_form types) = 1
form_arity program (Pack fields) = struct_arity (lookup (same_struct fields.owner) program.structs)
form_arity program (Unpack fields) = struct_arity (lookup (same_struct fields.owner) program.structs)
form_arity program _ = 0

abbrev pub node_arity : Program → CodeNode → ℕ
node_arity program (Many form parts) = form_arity program form
node_arity program _ = 0

abbrev pub variable_of_local : CodeSetting → ℕ → ℕ
variable_of_local s l = length s.nodes + l

-- the type variable of the first type argument of the node with this number
abbrev pub first_argument : CodeSetting → ℕ → ℕ
first_argument s n = (length s.nodes + s.locals) + sum_by (node_arity s.program) (take n s.nodes)

-- the number of type variables
abbrev pub variable_count : CodeSetting → ℕ
variable_count s = (length s.nodes + s.locals) + sum_by (node_arity s.program) s.nodes
