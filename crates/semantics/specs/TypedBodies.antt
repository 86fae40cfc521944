-- The typed tree of a resolved body, from the types of its nodes and locals. Source: The Move Book, "Integers" (the type of the operands
-- is that of the operation), "Local Variables and Scope" (a plain use copies where the type has copy, and otherwise moves),
-- "References" and "Structs and Resources".
use Rattle.std.specs.Prelude.{ℕ, zero, suc, ◌+◌, ◌-◌, Bool, true, false, ◌||◌, pos, List, [], ◌∷◌, ◌++◌, length, map, Option, Some, None, slice_index_or, option_and_then, if◌then◌else◌}
use Rattle.std.specs.Map.{lookup}
use Rattle.std.specs.List.{position}
use Rattle.base.specs.Names.{same_name}
use Rattle.base.specs.TypeData.{TypeData, IntType, StructType, ParamType, SharedType, MutableType, TupleType, NoTypes}
use Rattle.base.specs.declared.types.FunctionId.{FunctionId}
use Rattle.base.specs.declared.types.StructId.{StructId}
use Rattle.base.specs.declared.types.Width.{Width}
use Rattle.base.specs.declared.types.Width.TheVariants.{U64}
use Rattle.program.specs.Trees.{at, trees}
use Rattle.program.specs.declared.arena.Node.{Node}
use Rattle.program.specs.declared.arena.Node.TheVariants.{Leaf, Unary, Binary, If, Many}
use Rattle.program.specs.declared.operator.BinaryOperator.{BinaryOperator}
use Rattle.program.specs.declared.operator.BinaryOperator.TheVariants.{Arithmetic, Bitwise, Shift, Comparison, Equal, NotEqual, And as and_operator, Or as or_operator}
use Rattle.program.specs.declared.code.CodeLeaf.{CodeLeaf}
use Rattle.program.specs.declared.code.CodeLeaf.TheVariants.{Number, Truth, Address, Local, Constant as constant_leaf, Return as return_leaf, Break as break_leaf, Continue as continue_leaf, Bind, Ignore}
use Rattle.program.specs.declared.code.CodeUnary.{CodeUnary}
use Rattle.program.specs.declared.code.CodeUnary.TheVariants.{Not, Dereference, Borrow, BorrowMutable, Field, Cast, Return as return_value, Abort, Loop, Discard, Declare}
use Rattle.program.specs.declared.code.CodeBinary.{CodeBinary}
use Rattle.program.specs.declared.code.CodeBinary.TheVariants.{Operator, Assign, If as if_only, While as while_loop, Assert, Let}
use Rattle.program.specs.declared.code.CodeMany.{CodeMany}
use Rattle.program.specs.declared.code.CodeMany.TheVariants.{Call, Vector, Pack, Unpack, Tuple, TuplePattern, Block}
use Rattle.program.specs.declared.code.Callee.{Callee}
use Rattle.program.specs.declared.code.Callee.TheVariants.{Function as declared_function, Storage, Vector as vector_function, AddressOf}
use Rattle.program.specs.declared.code.LocalUse.{LocalUse}
use Rattle.program.specs.declared.code.LocalUse.TheVariants.{Plain as plain_use, Move, Copy}
use Rattle.program.specs.declared.declaration.AbilitySet.{AbilitySet}
use Rattle.program.specs.declared.declaration.Constant.{Constant as ConstantData}
use Rattle.program.specs.declared.declaration.Function.{Function as FunctionData}
use Rattle.program.specs.declared.declaration.Struct.{Struct}
use Rattle.program.specs.declared.declaration.TypedName.{TypedName}
use Rattle.program.specs.declared.program.ConstantId.{ConstantId}
use Rattle.program.specs.declared.program.Program.{Program}
use Rattle.program.specs.Same.{same_function, same_struct}
use Rattle.program.specs.Types.{of_type}
use Rattle.program.specs.CodeNodes.{CodeNode}
use Rattle.program.specs.FieldNumbers.{field_number, field_number_in}
use Rattle.typing_rules.specs.CodeConstraints.{same_constant}
use Rattle.typing_rules.specs.CodeSystems.{function_setting, constant_setting}
use Rattle.typing_rules.specs.Settings.{CodeSetting, node_arity, first_argument}
use Rattle.code_tree.specs.declared.code.Jump.TheVariants.{Break, Continue, Return}
use Rattle.code_tree.specs.Outcomes.{Outcome, Done}
use Rattle.fol.specs.Val.{Val, NumberValue, TruthValue, NothingValue, MemoryValue, NoEntries}
use Rattle.semantics.specs.States.{Item, Plain, State}
use Rattle.semantics.specs.Operations.{Operation, Constant, Copies, Moves, Negates, Calculates, Combines, Shifts, Compares, Casts, Equals, Differs, AbortsWith, Drops, Gathers, Reads, Packs, Lists, VectorCall, StorageCall, AddressCall, Calls}
use Rattle.semantics.specs.TypedTrees.{Operand, AsLvalue, AsReference, AsTemporary, LeafForm, Does, Jumps, Binder, Ignored, UnaryForm, Works, Borrows, TakesField, ReturnsValue, Loops, DeclaresOnly, BinaryForm, Joins, And, Or, Assigns, IfOnly, While, Asserts, Lets, ManyForm, Gives, Unpacks, Several, TypedTree, TypedFunction, TypedFunctions}
use Rattle.semantics.specs.Runs.{turns, evaluate}

abbrev pub TypedNode : Type 0
TypedNode = Node LeafForm UnaryForm BinaryForm ManyForm

-- A body: its setting, the types of its type variables (its nodes by their numbers, its locals, the type arguments of its nodes), the
-- abilities of its type parameters, and the values of constants.
pub record TypedBody : Type 0 where
  pub setting : CodeSetting
  pub types : ℕ → TypeData
  pub parameters : List AbilitySet
  pub constants : ConstantId → Val

-- ---- what types say

abbrev pub copies_local : TypedBody → ℕ → Bool
copies_local b l = (of_type b.setting.program.structs b.parameters (b.types (length b.setting.nodes + l))).has_copy

abbrev pub use_of_local : TypedBody → LocalUse → ℕ → Operation
use_of_local b plain_use l = if copies_local b l then Copies l else Moves l
use_of_local b Move l = Moves l
use_of_local b Copy l = Copies l

abbrev pub width_of : TypeData → Width
width_of (IntType w) = w
width_of _ = U64

abbrev pub is_reference : TypeData → Bool
is_reference (SharedType t) = true
is_reference (MutableType t) = true
is_reference _ = false

-- the struct of a type, or of what a reference of this type points at
abbrev pub struct_of : TypeData → Option StructId
struct_of (StructType s ts) = Some s
struct_of (SharedType (StructType s ts)) = Some s
struct_of (MutableType (StructType s ts)) = Some s
struct_of _ = None

abbrev pub or_zero : Option ℕ → ℕ
or_zero None = 0
or_zero (Some n) = n

-- the number of a field of the struct of a node
abbrev pub number_of_field : TypedBody → ℕ → List ℕ → ℕ
number_of_field b a name = or_zero (option_and_then (λ s. field_number_in b.setting.program.structs s name) (struct_of (b.types a)))

-- the types of so many type variables from this one on
abbrev pub types_from : (ℕ → TypeData) → ℕ → ℕ → List TypeData
types_from types first zero = []
types_from types first (suc n) = types first ∷ types_from types (first + 1) n

abbrev pub type_arguments : TypedBody → ℕ → CodeNode → List TypeData
type_arguments b n node = types_from b.types (first_argument b.setting n) (node_arity b.setting.program node)

abbrev pub fields_of : Option Struct → List TypedName
fields_of None = []
fields_of (Some d) = d.fields

-- the declared fields of a struct
abbrev pub declared_fields : Program → StructId → List TypedName
declared_fields program s = fields_of (lookup (same_struct s) program.structs)

-- ---- lvalues

-- A local, what a reference points at, and a field of an lvalue or of what a reference points at are lvalues. A node is marked so by the
-- marks of those before it.
abbrev pub is_lvalue : (ℕ → TypeData) → List Bool → CodeNode → Bool
is_lvalue types marks (Leaf (Local plain_use l)) = true
is_lvalue types marks (Unary Dereference a) = true
is_lvalue types marks (Unary (Field name) a) = is_reference (types a) || slice_index_or marks a false
is_lvalue types marks _ = false

abbrev pub lvalues_in : (ℕ → TypeData) → List Bool → List CodeNode → List Bool
lvalues_in types marks [] = marks
lvalues_in types marks (node ∷ nodes) = lvalues_in types (marks ++ is_lvalue types marks node ∷ []) nodes

abbrev pub lvalue_at : TypedBody → ℕ → Bool
lvalue_at b a = slice_index_or (lvalues_in b.types [] b.setting.nodes) a false

-- each node has a temporary, a local of its own behind the declared ones
abbrev pub borrowed_operand : TypedBody → ℕ → ℕ → Operand
borrowed_operand b n a = if lvalue_at b a then AsLvalue else AsTemporary (b.setting.locals + n)

abbrev pub owner_operand : TypedBody → ℕ → ℕ → Operand
owner_operand b n a = if is_reference (b.types a) then AsReference else borrowed_operand b n a

-- ---- nodes

abbrev pub typed_leaf : TypedBody → CodeLeaf → LeafForm
typed_leaf b (Number x) = Does (Constant (NumberValue (pos x.value)))
typed_leaf b (Truth value) = Does (Constant (TruthValue value))
typed_leaf b (Address value) = Does (Constant (NumberValue (pos value)))
typed_leaf b (Local kind l) = Does (use_of_local b kind l)
typed_leaf b (constant_leaf c) = Does (Constant (b.constants c))
typed_leaf b return_leaf = Jumps Return
typed_leaf b break_leaf = Jumps Break
typed_leaf b continue_leaf = Jumps Continue
typed_leaf b (Bind l) = Binder l
typed_leaf b Ignore = Ignored

abbrev pub typed_unary : TypedBody → ℕ → CodeUnary → ℕ → UnaryForm
typed_unary b n Not a = Works Negates
typed_unary b n Dereference a = Works Reads
typed_unary b n Borrow a = Borrows (borrowed_operand b n a)
typed_unary b n BorrowMutable a = Borrows (borrowed_operand b n a)
typed_unary b n (Field name) a = TakesField (owner_operand b n a) (number_of_field b a name)
typed_unary b n (Cast target) a = Works (Casts (width_of target))
typed_unary b n return_value a = ReturnsValue
typed_unary b n Abort a = Works AbortsWith
typed_unary b n Loop a = Loops n
typed_unary b n Discard a = Works Drops
typed_unary b n (Declare annotation) a = DeclaresOnly

abbrev pub typed_operator : Width → BinaryOperator → BinaryForm
typed_operator w (Arithmetic operator) = Joins (Calculates operator w)
typed_operator w (Bitwise operator) = Joins (Combines operator)
typed_operator w (Shift operator) = Joins (Shifts operator w)
typed_operator w (Comparison operator) = Joins (Compares operator)
typed_operator w Equal = Joins Equals
typed_operator w NotEqual = Joins Differs
typed_operator w and_operator = And
typed_operator w or_operator = Or

abbrev pub typed_binary : TypedBody → ℕ → CodeBinary → BinaryForm
typed_binary b n (Operator operator) = typed_operator (width_of (b.types n)) operator
typed_binary b n Assign = Assigns
typed_binary b n if_only = IfOnly
typed_binary b n while_loop = While n
typed_binary b n Assert = Asserts
typed_binary b n (Let annotation) = Lets

abbrev pub only : List TypeData → TypeData
only ts = slice_index_or ts 0 (TupleType NoTypes)

abbrev pub called : Callee → List TypeData → Operation
called (declared_function f) ts = Calls f ts
called (Storage operation) ts = StorageCall operation (only ts)
called (vector_function function) ts = VectorCall function
called AddressOf ts = AddressCall

-- for each field of a struct, in order, the number of the part that is named so
abbrev pub part_numbers : List TypedName → List (List ℕ) → List ℕ
part_numbers fields names = map (λ f. or_zero (position (λ name. same_name name f.name) names)) fields

-- the numbers of the fields with these names
abbrev pub numbers_of_fields : List TypedName → List (List ℕ) → List ℕ
numbers_of_fields fields names = map (λ name. or_zero (field_number fields name)) names

abbrev pub typed_many : TypedBody → CodeMany → List TypeData → ManyForm
typed_many b (Call c) ts = Gives (called c.callee ts)
typed_many b (Vector types) ts = Gives Lists
typed_many b (Pack fields) ts = Gives (Packs fields.owner (part_numbers (declared_fields b.setting.program fields.owner) fields.fields))
typed_many b (Unpack fields) ts = Unpacks (numbers_of_fields (declared_fields b.setting.program fields.owner) fields.fields)
typed_many b Tuple ts = Gives Gathers
typed_many b TuplePattern ts = Several
typed_many b (Block has_value) ts = Gives Gathers

-- the node with the number n
abbrev pub typed_node : TypedBody → ℕ → CodeNode → TypedNode
typed_node b n (Leaf l) = Leaf (typed_leaf b l)
typed_node b n (Unary u a) = Unary (typed_unary b n u a) a
typed_node b n (Binary o x y) = Binary (typed_binary b n o) x y
typed_node b n (If c x y) = If c x y
typed_node b n (Many m parts) = Many (typed_many b m (type_arguments b n (Many m parts))) parts

abbrev pub typed_nodes : TypedBody → ℕ → List CodeNode → List TypedNode
typed_nodes b n [] = []
typed_nodes b n (node ∷ nodes) = typed_node b n node ∷ typed_nodes b (n + 1) nodes

-- ---- bodies

-- the last node is the root
abbrev pub body_tree : TypedBody → TypedTree
body_tree b = at (trees (typed_nodes b 0 b.setting.nodes)) (length b.setting.nodes - 1)

abbrev pub typed_function : TypedBody → TypedFunction
typed_function b = record { cells = b.setting.locals + length b.setting.nodes; body = body_tree b }

-- ---- programs

-- the types of the type variables of functions and of constants, in the order of their declarations
pub record CodeTypes : Type 0 where
  pub functions : List (ℕ → TypeData)
  pub constants : List (ℕ → TypeData)

abbrev pub empty_state : State
empty_state = record { cells = []; storage = λ t. MemoryValue NoEntries }

abbrev pub value_given : Outcome Item State → Val
value_given (Done (Plain v ∷ []) s) = v
value_given _ = NothingValue

abbrev pub initialiser : Program → ConstantData → (ℕ → TypeData) → TypedBody
initialiser program c types = record {
  setting = constant_setting program c;
  types = types;
  parameters = [];
  constants = λ other. NothingValue;
}

-- the value of a constant: what the run of its initialiser gives, in which no constant, loop or call stands
abbrev pub constant_value : Program → ConstantData → (ℕ → TypeData) → Val
constant_value program c types =
    value_given (evaluate (turns (λ name. None) 0) (record { base = 0; named = ParamType }) (body_tree (initialiser program c types)) empty_state)

abbrev pub constant_in : Program → List (ConstantId × ConstantData) → List (ℕ → TypeData) → ConstantId → Val
constant_in program (c ∷ cs) (t ∷ ts) name = if same_constant name c.0 then constant_value program c.1 t else constant_in program cs ts name
constant_in program _ ts name = NothingValue

abbrev pub constants_of : Program → CodeTypes → ConstantId → Val
constants_of program types = constant_in program program.constants types.constants

abbrev pub function_body : Program → CodeTypes → FunctionData → (ℕ → TypeData) → TypedBody
function_body program types f own = record {
  setting = function_setting program f;
  types = own;
  parameters = map (λ p. p.abilities) f.type_parameters;
  constants = constants_of program types;
}

abbrev pub function_in : Program → CodeTypes → List (FunctionId × FunctionData) → List (ℕ → TypeData) → FunctionId → Option TypedFunction
function_in program types (f ∷ fs) (t ∷ ts) name =
    if same_function name f.0 then Some (typed_function (function_body program types f.1 t)) else function_in program types fs ts name
function_in program types _ ts name = None

-- the functions of a program whose type variables have these types
abbrev pub functions_of : Program → CodeTypes → TypedFunctions
functions_of program types = function_in program types program.functions types.functions
