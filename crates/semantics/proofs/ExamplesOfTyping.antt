-- Typed trees of the nodes of bodies and of spec expressions, in a small program.
use Rattle.std.proofs.Common.{◌≡◌, ℕ, zero, suc, Bool, true, false, List, [], ◌∷◌, None, refl}
use Rattle.base.specs.TypeData.{TypeData, BoolType, IntType, NumType, ParamType, VectorType, StructType, SharedType, MutableType, NoTypes, types_of}
use Rattle.base.specs.declared.span.Span.{Span}
use Rattle.base.specs.declared.types.Width.TheVariants.{U8, U64}
use Rattle.program.specs.Trees.{LeafTree, UnaryTree, BinaryTree, ManyTree, trees_of}
use Rattle.program.specs.CodeNodes.{CodeNode}
use Rattle.program.specs.declared.arena.Node.TheVariants.{Leaf, Unary, Binary, Many}
use Rattle.program.specs.declared.operator.Arithmetic.TheVariants.{Add}
use Rattle.program.specs.declared.operator.Shift.TheVariants.{Left}
use Rattle.program.specs.declared.operator.BinaryOperator.TheVariants.{Arithmetic, Shift}
use Rattle.program.specs.declared.operator.Quantifier.TheVariants.{ForAll}
use Rattle.program.specs.declared.operator.SpecBuiltin.TheVariants.{Exists as exists_call, Global as global_call}
use Rattle.program.specs.declared.operator.StorageOperation.TheVariants.{Exists}
use Rattle.program.specs.declared.code.CodeLeaf.TheVariants.{Number, Local, Constant as constant_leaf, Bind}
use Rattle.program.specs.declared.code.CodeUnary.TheVariants.{Dereference, Borrow, Field, Cast}
use Rattle.program.specs.declared.code.CodeBinary.TheVariants.{Operator, Let, Assign}
use Rattle.program.specs.declared.code.CodeMany.TheVariants.{Call, Pack, Unpack}
use Rattle.program.specs.declared.code.Callee.TheVariants.{Storage}
use Rattle.program.specs.declared.code.LocalUse.TheVariants.{Plain as plain_use, Move, Copy}
use Rattle.program.specs.declared.declaration.AbilitySet.{AbilitySet}
use Rattle.program.specs.declared.declaration.Constant.{Constant as ConstantData}
use Rattle.program.specs.declared.declaration.Struct.{Struct}
use Rattle.program.specs.declared.declaration.TypedName.{TypedName}
use Rattle.program.specs.declared.program.ConstantId.{ConstantId}
use Rattle.program.specs.declared.program.Program.{Program}
use Rattle.program.specs.declared.spec.Domain.TheVariants.{Of}
use Rattle.program.specs.declared.spec.SpecCallee.TheVariants.{Builtin}
use Rattle.program.specs.declared.spec.SpecLeaf.TheVariants.{Number as spec_number, Name, Max}
use Rattle.program.specs.declared.spec.SpecMany.TheVariants.{Call as spec_call, Pack as spec_pack, Quantified as quantified_form}
use Rattle.program.specs.declared.spec.SpecName.TheVariants.{Parameter}
use Rattle.program.specs.declared.spec.SpecUnary.TheVariants.{Field as spec_field}
use Rattle.fol.specs.Val.{NothingValue}
use Rattle.semantics.specs.Operations.{Constant, Copies, Moves, Calculates, Shifts, Casts, Reads, Packs, StorageCall, number}
use Rattle.semantics.specs.TypedTrees.{AsLvalue, AsReference, AsTemporary, Does, Binder, Works, Borrows, TakesField, Joins, Assigns, Lets, Gives, Unpacks, TypedTree}
use Rattle.semantics.specs.TypedBodies.{body_tree, constants_of}
use Rattle.semantics.specs.SpecTruth.{SpecTree, Value, Named, FieldOf, Values, ExistsAt, Packed, Quantifies}
use Rattle.semantics.specs.SpecTrees.{spec_tree_at, typed_form, schema_clauses}
use Rattle.typing_rules.specs.SpecConstraints.{SpecNode}
use Rattle.program.specs.declared.program.SchemaId.{SchemaId}
use Rattle.program.specs.declared.clause.Clause.{Clause}
use Rattle.program.specs.declared.declaration.Schema.{Schema}
use Rattle.program.specs.declared.clause.ClauseForm.{ClauseForm}
use Rattle.program.specs.declared.clause.ClauseForm.TheVariants.{Condition as condition_form, Modifies as modifies_form, Let as let_form, Include as include_form}
use Rattle.program.specs.declared.clause.ConditionKind.TheVariants.{Ensures}
use Rattle.semantics.specs.Clauses.{TypedClause, Condition, Modifies, LetIs, Includes, SchemaInstance}
use Rattle.semantics.proofs.ExampleParts.{named, pair_name, box_of}

-- ---- the program: `struct P has copy, drop { a: u64, b: u64 }`, `struct N {}`, and `const C: u8 = 1 + 2`

abbrev span : Span
span = record { file = 0; start = 0; end = 0 }

abbrev abilities : Bool → AbilitySet
abilities b = record { has_copy = b; has_drop = b; has_store = false; has_key = false }

abbrev typed_name : ℕ → TypedName
typed_name n = record { name = n ∷ []; annotation = IntType U64 }

abbrev struct_with : Bool → List TypedName → Struct
struct_with b fields = record { span = span; type_parameters = []; abilities = abilities b; fields = fields; clauses = [] }

abbrev literal : ℕ → CodeNode
literal n = Leaf (Number (record { value = n; width = None }))

abbrev local : ℕ → CodeNode
local l = Leaf (Local plain_use l)

abbrev constant_name : ConstantId
constant_name = record { address = 1; «module» = []; name = 7 ∷ [] }

abbrev sum : ℕ → ℕ → CodeNode
sum a b = Binary (Operator (Arithmetic Add)) a b

abbrev constant : ConstantData
constant = record { span = span; annotation = IntType U8; value = record { nodes = literal 1 ∷ literal 2 ∷ sum 0 1 ∷ []; spans = [] } }

abbrev program : Program
program = record {
  modules = [];
  structs = (pair_name, struct_with true (typed_name 10 ∷ typed_name 11 ∷ [])) ∷ (named (4 ∷ []), struct_with false []) ∷ [];
  constants = (constant_name, constant) ∷ [];
  functions = [];
  spec_functions = [];
  schemas = [];
}

-- ---- bodies: the types are those of the nodes, then of three locals, then of type arguments

abbrev type_in : List TypeData → ℕ → TypeData
type_in [] n = IntType U64
type_in (t ∷ ts) zero = t
type_in (t ∷ ts) (suc n) = type_in ts n

abbrev tree : List CodeNode → List TypeData → TypedTree
tree nodes types = body_tree (record {
  setting = record { program = program; nodes = nodes; locals = 3; result = None };
  types = type_in types;
  parameters = [];
  constants = constants_of program (record { functions = []; constants = type_in (IntType U8 ∷ IntType U8 ∷ IntType U8 ∷ []) ∷ [] });
})

abbrev pair : TypeData
pair = StructType pair_name NoTypes

abbrev no_copy : TypeData
no_copy = StructType (named (4 ∷ [])) NoTypes

abbrev does_copy : ℕ → TypedTree
does_copy l = LeafTree (Does (Copies l))

-- a plain use copies where the type has copy, and otherwise moves
plain_use_of_a_number : tree (local 0 ∷ []) (IntType U64 ∷ IntType U64 ∷ []) ≡ LeafTree (Does (Copies 0))
plain_use_of_a_number = refl

plain_use_without_copy : tree (local 0 ∷ []) (no_copy ∷ no_copy ∷ []) ≡ LeafTree (Does (Moves 0))
plain_use_without_copy = refl

plain_use_of_a_mutable_reference : tree (local 0 ∷ []) (MutableType no_copy ∷ MutableType no_copy ∷ []) ≡ LeafTree (Does (Copies 0))
plain_use_of_a_mutable_reference = refl

vector_without_copy : tree (local 0 ∷ []) (VectorType no_copy ∷ VectorType no_copy ∷ []) ≡ LeafTree (Does (Moves 0))
vector_without_copy = refl

use_by_move : tree (Leaf (Local Move 0) ∷ []) (IntType U64 ∷ IntType U64 ∷ []) ≡ LeafTree (Does (Moves 0))
use_by_move = refl

use_by_copy : tree (Leaf (Local Copy 0) ∷ []) (pair ∷ pair ∷ []) ≡ LeafTree (Does (Copies 0))
use_by_copy = refl

-- the width is that of the operation's type: `1u8 + 2`
width_of_a_sum : tree (literal 1 ∷ literal 2 ∷ sum 0 1 ∷ []) (IntType U8 ∷ IntType U8 ∷ IntType U8 ∷ [])
    ≡ BinaryTree (Joins (Calculates Add U8)) (LeafTree (Does (Constant (number 1)))) (LeafTree (Does (Constant (number 2))))
width_of_a_sum = refl

-- a shift of a `u64` by a `u8` has the width 64
width_of_a_shift : tree (literal 1 ∷ literal 2 ∷ Binary (Operator (Shift Left)) 0 1 ∷ []) (IntType U64 ∷ IntType U8 ∷ IntType U64 ∷ [])
    ≡ BinaryTree (Joins (Shifts Left U64)) (LeafTree (Does (Constant (number 1)))) (LeafTree (Does (Constant (number 2))))
width_of_a_shift = refl

width_of_a_cast : tree (literal 1 ∷ Unary (Cast (IntType U8)) 0 ∷ []) (IntType U64 ∷ IntType U8 ∷ []) ≡ UnaryTree (Works (Casts U8)) (LeafTree (Does (Constant (number 1))))
width_of_a_cast = refl

-- `C` is 3
value_of_a_constant : tree (Leaf (constant_leaf constant_name) ∷ []) [] ≡ LeafTree (Does (Constant (number 3)))
value_of_a_constant = refl

-- `&x.b`: a field of a local is an lvalue
borrow_of_a_field : tree (local 0 ∷ Unary (Field (11 ∷ [])) 0 ∷ Unary Borrow 1 ∷ []) (pair ∷ IntType U64 ∷ SharedType (IntType U64) ∷ pair ∷ [])
    ≡ UnaryTree (Borrows AsLvalue) (UnaryTree (TakesField AsLvalue 1) (does_copy 0))
borrow_of_a_field = refl

-- `&r.b` where r is a reference
borrow_of_a_field_behind : tree (local 0 ∷ Unary (Field (11 ∷ [])) 0 ∷ Unary Borrow 1 ∷ []) (SharedType pair ∷ IntType U64 ∷ SharedType (IntType U64) ∷ SharedType pair ∷ [])
    ≡ UnaryTree (Borrows AsLvalue) (UnaryTree (TakesField AsReference 1) (does_copy 0))
borrow_of_a_field_behind = refl

-- `&(1 + 2)`: a temporary behind the three locals, that of the node 3
borrow_of_a_sum : tree (literal 1 ∷ literal 2 ∷ sum 0 1 ∷ Unary Borrow 2 ∷ []) []
    ≡ UnaryTree (Borrows (AsTemporary 6)) (BinaryTree (Joins (Calculates Add U64)) (LeafTree (Does (Constant (number 1)))) (LeafTree (Does (Constant (number 2)))))
borrow_of_a_sum = refl

-- `&move x` is a temporary too
borrow_of_a_moved_local : tree (Leaf (Local Move 0) ∷ Unary Borrow 0 ∷ []) [] ≡ UnaryTree (Borrows (AsTemporary 4)) (LeafTree (Does (Moves 0)))
borrow_of_a_moved_local = refl

-- `*r = 1`
assignment_through_a_reference : tree (local 0 ∷ Unary Dereference 0 ∷ literal 1 ∷ Binary Assign 1 2 ∷ []) (MutableType (IntType U64) ∷ IntType U64 ∷ IntType U64 ∷ IntType U64 ∷ MutableType (IntType U64) ∷ [])
    ≡ BinaryTree Assigns (UnaryTree (Works Reads) (does_copy 0)) (LeafTree (Does (Constant (number 1))))
assignment_through_a_reference = refl

-- `P { b: 1, a: 2 }`: the field `a` has the part 1, the field `b` the part 0
pack_in_another_order : tree (literal 1 ∷ literal 2 ∷ Many (Pack (record { owner = pair_name; types = NoTypes; fields = (11 ∷ []) ∷ (10 ∷ []) ∷ [] })) (0 ∷ 1 ∷ []) ∷ []) []
    ≡ ManyTree (Gives (Packs pair_name (1 ∷ 0 ∷ []))) (trees_of (LeafTree (Does (Constant (number 1))) ∷ LeafTree (Does (Constant (number 2))) ∷ []))
pack_in_another_order = refl

-- `let P { b: x, a: y } = z`
unpack_in_another_order : tree (Leaf (Bind 0) ∷ Leaf (Bind 1) ∷ Many (Unpack (record { owner = pair_name; types = NoTypes; fields = (11 ∷ []) ∷ (10 ∷ []) ∷ [] })) (0 ∷ 1 ∷ []) ∷ local 2 ∷ Binary (Let None) 2 3 ∷ [])
    (IntType U64 ∷ IntType U64 ∷ pair ∷ pair ∷ pair ∷ IntType U64 ∷ IntType U64 ∷ pair ∷ [])
    ≡ BinaryTree Lets (ManyTree (Unpacks (1 ∷ 0 ∷ [])) (trees_of (LeafTree (Binder 0) ∷ LeafTree (Binder 1) ∷ []))) (does_copy 2)
unpack_in_another_order = refl

-- `exists<B<u8>>(5)`: the type argument is the last type variable
type_argument_of_a_storage_operation : tree (literal 5 ∷ Many (Call (record { callee = Storage Exists; types = NoTypes })) (0 ∷ []) ∷ []) (IntType U64 ∷ BoolType ∷ BoolType ∷ BoolType ∷ BoolType ∷ box_of (IntType U8) ∷ [])
    ≡ ManyTree (Gives (StorageCall Exists (box_of (IntType U8)))) (trees_of (LeafTree (Does (Constant (number 5))) ∷ []))
type_argument_of_a_storage_operation = refl

-- ---- spec expressions

abbrev spec_tree : List SpecNode → List TypeData → ℕ → SpecTree
spec_tree nodes types n = spec_tree_at (record { program = program; nodes = nodes; types = type_in types; named = ParamType; constants = λ c. NothingValue }) n

-- `MAX_U8`
greatest_value : spec_tree (Leaf (Max U8) ∷ []) [] 0 ≡ LeafTree (Value (number 255))
greatest_value = refl

spec_field_of_a_parameter : spec_tree (Leaf (Name (Parameter 0)) ∷ Unary (spec_field (11 ∷ [])) 0 ∷ []) (pair ∷ NumType ∷ []) 1 ≡ UnaryTree (FieldOf pair_name 1) (LeafTree (Named (Parameter 0)))
spec_field_of_a_parameter = refl

spec_pack_in_another_order : spec_tree (Leaf (spec_number (record { value = 1; width = None })) ∷ Many (spec_pack (record { owner = pair_name; types = NoTypes; fields = (11 ∷ []) ∷ (10 ∷ []) ∷ [] })) (0 ∷ 0 ∷ []) ∷ []) [] 1
    ≡ ManyTree (Packed pair_name (1 ∷ 0 ∷ [])) (trees_of (LeafTree (Value (number 1)) ∷ LeafTree (Value (number 1)) ∷ []))
spec_pack_in_another_order = refl

-- `exists<B<u8>>(5)`: types stay as they are written, though the typing has `num`
written_type_argument : spec_tree (Leaf (spec_number (record { value = 5; width = None })) ∷ Many (spec_call (record { callee = Builtin exists_call; types = types_of (box_of (IntType U8) ∷ []) })) (0 ∷ []) ∷ []) (NumType ∷ BoolType ∷ box_of NumType ∷ []) 1
    ≡ ManyTree (ExistsAt (box_of (IntType U8))) (trees_of (LeafTree (Value (number 5)) ∷ []))
written_type_argument = refl

-- `forall x: u8: true`
domain_as_it_is_written : spec_tree (Leaf (Name (Parameter 0)) ∷ Many (quantified_form ForAll (record { variable = 0; domain = Of (IntType U8) } ∷ []) []) (0 ∷ []) ∷ []) [] 1
    ≡ ManyTree (Quantifies ForAll (record { variable = 0; over = Values (IntType U8) } ∷ [])) (trees_of (LeafTree (Named (Parameter 0)) ∷ []))
domain_as_it_is_written = refl

-- ---- clauses, in a program with `spec schema S<T> { ensures exists<B<T>>(5); }`

abbrev schema_name : SchemaId
schema_name = record { address = 1; «module» = []; name = 5 ∷ [] }

abbrev five : SpecNode
five = Leaf (spec_number (record { value = 5; width = None }))

abbrev schema_clause : Clause
schema_clause = record {
  block = span;
  span = span;
  form = condition_form Ensures 1;
  body = record { nodes = five ∷ Many (spec_call (record { callee = Builtin exists_call; types = types_of (box_of (ParamType 0) ∷ []) })) (0 ∷ []) ∷ []; spans = [] };
}

abbrev schema : Schema
schema = record { span = span; type_parameters = record { name = []; abilities = abilities false; is_phantom = false } ∷ []; variables = []; clauses = schema_clause ∷ [] }

abbrev with_schema : Program
with_schema = record program { schemas = (schema_name, schema) ∷ [] }

abbrev typed : List SpecNode → List TypeData → ClauseForm → TypedClause
typed nodes types form = typed_form (record { program = with_schema; nodes = nodes; types = type_in types; named = ParamType; constants = λ c. NothingValue }) form

abbrev at_u8 : SchemaInstance
at_u8 = record { schema = schema_name; read = NumType ∷ []; named = IntType U8 ∷ [] }

-- `include S<u8>`: its typing has `num`, and the type stays as it is written
written_include : typed [] (NumType ∷ []) (include_form schema_name (types_of (IntType U8 ∷ [])) []) ≡ Includes at_u8 []
written_include = refl

-- `include S`: the type argument is that of the typing
include_without_type_arguments : typed [] (BoolType ∷ []) (include_form schema_name NoTypes []) ≡ Includes (record { schema = schema_name; read = BoolType ∷ []; named = BoolType ∷ [] }) []
include_without_type_arguments = refl

-- the clause of `S<u8>` is `ensures exists<B<u8>>(5)`
clause_of_an_included_schema : schema_clauses with_schema (λ c. NothingValue) (record { functions = []; schemas = λ s ts. type_in (NumType ∷ BoolType ∷ box_of NumType ∷ []) ∷ [] }) at_u8
    ≡ Condition Ensures (ManyTree (ExistsAt (box_of (IntType U8))) (trees_of (LeafTree (Value (number 5)) ∷ []))) ∷ []
clause_of_an_included_schema = refl

-- `modifies global<B<u8>>(5)`
modified_location : typed (five ∷ Many (spec_call (record { callee = Builtin global_call; types = types_of (box_of (IntType U8) ∷ []) })) (0 ∷ []) ∷ []) (NumType ∷ box_of NumType ∷ box_of NumType ∷ []) (modifies_form (1 ∷ []))
    ≡ Modifies (record { resource = box_of (IntType U8); address = LeafTree (Value (number 5)) } ∷ [])
modified_location = refl

-- `let post x = 5`
let_post_form : typed (five ∷ []) (NumType ∷ []) (let_form true 0) ≡ LetIs true (LeafTree (Value (number 5)))
let_post_form = refl
