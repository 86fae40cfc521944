-- What each form of a resolved node is as a typed node, where the types have no say but for widths and type arguments.
use Rattle.std.proofs.Common.{◌≡◌, true, false, List, [], ◌∷◌, None, refl}
use Rattle.base.specs.TypeData.{TypeData, BoolType, IntType, NoTypes}
use Rattle.base.specs.declared.types.Width.TheVariants.{U64}
use Rattle.program.specs.declared.code.CodeLeaf.TheVariants.{Truth, Address, Return, Break, Continue, Bind, Ignore}
use Rattle.program.specs.declared.code.CodeUnary.TheVariants.{Not, Dereference, Return as return_value, Abort, Loop, Discard, Declare}
use Rattle.program.specs.declared.code.CodeBinary.TheVariants.{Operator, Assign, If as if_only, While as while_loop, Assert, Let}
use Rattle.program.specs.declared.code.CodeMany.TheVariants.{Call, Vector, Tuple, TuplePattern, Block}
use Rattle.program.specs.declared.code.Callee.{Callee}
use Rattle.program.specs.declared.code.Callee.TheVariants.{Function as declared_function, Storage, Vector as vector_function, AddressOf}
use Rattle.program.specs.declared.operator.Arithmetic.TheVariants.{Remainder}
use Rattle.program.specs.declared.operator.Bitwise.TheVariants.{BitXor}
use Rattle.program.specs.declared.operator.Comparison.TheVariants.{Less}
use Rattle.program.specs.declared.operator.BinaryOperator.TheVariants.{Arithmetic, Bitwise, Comparison, Equal, NotEqual, And as and_operator, Or as or_operator}
use Rattle.program.specs.declared.operator.StorageOperation.TheVariants.{MoveFrom}
use Rattle.program.specs.declared.operator.VectorFunction.TheVariants.{PopBack}
use Rattle.program.specs.declared.operator.SpecBuiltin.TheVariants.{Old as old_call, Length as length_call, InRange as range_call, Exists as exists_call, Global as global_call, AddressOf as address_call}
use Rattle.program.specs.declared.program.Program.{Program}
use Rattle.program.specs.declared.spec.SpecCallee.TheVariants.{Function as spec_function}
use Rattle.program.specs.declared.spec.SpecLeaf.TheVariants.{Truth as spec_truth, Address as spec_address, Name, Constant as spec_constant}
use Rattle.program.specs.declared.spec.SpecName.TheVariants.{Result}
use Rattle.program.specs.declared.spec.SpecUnary.TheVariants.{Not as spec_not}
use Rattle.code_tree.specs.declared.code.Jump.TheVariants.{Break as breaks, Continue as continues, Return as returns}
use Rattle.fol.specs.Val.{TruthValue}
use Rattle.semantics.specs.Operations.{Constant, Calculates, Combines, Compares, Negates, AbortsWith, Drops, Gathers, Equals, Differs, Lists, Reads, VectorCall, StorageCall, AddressCall, Calls, number}
use Rattle.semantics.specs.TypedTrees.{Does, Jumps, Binder, Ignored, Works, ReturnsValue, Loops, DeclaresOnly, Joins, And, Or, Assigns, IfOnly, While, Asserts, Lets, ManyForm, Gives, Several}
use Rattle.semantics.specs.TypedBodies.{TypedBody, typed_leaf, typed_unary, typed_binary, typed_many}
use Rattle.semantics.specs.SpecTruth.{Value, Named, Denies, Old, LengthOf, InRange, AddressOf as SpecAddressOf, ExistsAt, GlobalAt, Invokes}
use Rattle.semantics.specs.SpecTrees.{SpecBody, typed_spec_leaf, typed_spec_unary, builtin_called, spec_called}
use Rattle.semantics.proofs.ExampleParts.{coin, function_named}

abbrev program : Program
program = record { modules = []; structs = []; constants = []; functions = []; spec_functions = []; schemas = [] }

abbrev body : TypedBody
body = record { setting = record { program = program; nodes = []; locals = 0; result = None }; types = λ n. IntType U64; parameters = []; constants = λ c. number 3 }

-- ---- leaves

truth_literal : typed_leaf body (Truth true) ≡ Does (Constant (TruthValue true))
truth_literal = refl

address_literal : typed_leaf body (Address 5) ≡ Does (Constant (number 5))
address_literal = refl

return_alone : typed_leaf body Return ≡ Jumps returns
return_alone = refl

break_form : typed_leaf body Break ≡ Jumps breaks
break_form = refl

continue_form : typed_leaf body Continue ≡ Jumps continues
continue_form = refl

bound_local : typed_leaf body (Bind 4) ≡ Binder 4
bound_local = refl

ignored_pattern : typed_leaf body Ignore ≡ Ignored
ignored_pattern = refl

-- ---- nodes with one part

not_form : typed_unary body 1 Not 0 ≡ Works Negates
not_form = refl

dereference_form : typed_unary body 1 Dereference 0 ≡ Works Reads
dereference_form = refl

return_form : typed_unary body 1 return_value 0 ≡ ReturnsValue
return_form = refl

abort_form : typed_unary body 1 Abort 0 ≡ Works AbortsWith
abort_form = refl

loop_form : typed_unary body 1 Loop 0 ≡ Loops 1
loop_form = refl

discarded_item : typed_unary body 1 Discard 0 ≡ Works Drops
discarded_item = refl

let_without_value : typed_unary body 1 (Declare None) 0 ≡ DeclaresOnly
let_without_value = refl

-- ---- nodes with two parts

remainder_form : typed_binary body 2 (Operator (Arithmetic Remainder)) ≡ Joins (Calculates Remainder U64)
remainder_form = refl

xor_form : typed_binary body 2 (Operator (Bitwise BitXor)) ≡ Joins (Combines BitXor)
xor_form = refl

comparison_form : typed_binary body 2 (Operator (Comparison Less)) ≡ Joins (Compares Less)
comparison_form = refl

equality_form : typed_binary body 2 (Operator Equal) ≡ Joins Equals
equality_form = refl

inequality_form : typed_binary body 2 (Operator NotEqual) ≡ Joins Differs
inequality_form = refl

and_form : typed_binary body 2 (Operator and_operator) ≡ And
and_form = refl

or_form : typed_binary body 2 (Operator or_operator) ≡ Or
or_form = refl

assignment_form : typed_binary body 2 Assign ≡ Assigns
assignment_form = refl

if_without_else : typed_binary body 2 if_only ≡ IfOnly
if_without_else = refl

while_form : typed_binary body 2 while_loop ≡ While 2
while_form = refl

assert_form : typed_binary body 2 Assert ≡ Asserts
assert_form = refl

let_form : typed_binary body 2 (Let None) ≡ Lets
let_form = refl

-- ---- nodes with a list of parts

abbrev called_with : Callee → List TypeData → ManyForm
called_with callee ts = typed_many body (Call (record { callee = callee; types = NoTypes })) ts

function_call : called_with (declared_function (function_named 1)) (BoolType ∷ []) ≡ Gives (Calls (function_named 1) (BoolType ∷ []))
function_call = refl

vector_call : called_with (vector_function PopBack) (BoolType ∷ []) ≡ Gives (VectorCall PopBack)
vector_call = refl

storage_call : called_with (Storage MoveFrom) (coin ∷ []) ≡ Gives (StorageCall MoveFrom coin)
storage_call = refl

address_call_form : called_with AddressOf [] ≡ Gives AddressCall
address_call_form = refl

vector_form : typed_many body (Vector NoTypes) (BoolType ∷ []) ≡ Gives Lists
vector_form = refl

tuple_form : typed_many body Tuple [] ≡ Gives Gathers
tuple_form = refl

tuple_pattern : typed_many body TuplePattern [] ≡ Several
tuple_pattern = refl

block_form : typed_many body (Block true) [] ≡ Gives Gathers
block_form = refl

-- ---- spec expressions

abbrev spec_body : SpecBody
spec_body = record { program = program; nodes = []; types = λ n. BoolType; named = λ n. BoolType; constants = λ c. number 3 }

spec_truth_literal : typed_spec_leaf spec_body (spec_truth false) ≡ Value (TruthValue false)
spec_truth_literal = refl

spec_address_literal : typed_spec_leaf spec_body (spec_address 5) ≡ Value (number 5)
spec_address_literal = refl

spec_name : typed_spec_leaf spec_body (Name (Result 1)) ≡ Named (Result 1)
spec_name = refl

constant_in_a_spec : typed_spec_leaf spec_body (spec_constant (record { address = 1; «module» = []; name = [] })) ≡ Value (number 3)
constant_in_a_spec = refl

spec_not_form : typed_spec_unary spec_body spec_not 0 ≡ Denies
spec_not_form = refl

old_form : builtin_called old_call (BoolType ∷ []) ≡ Old
old_form = refl

len_form : builtin_called length_call (BoolType ∷ []) ≡ LengthOf
len_form = refl

in_range_form : builtin_called range_call (BoolType ∷ []) ≡ InRange
in_range_form = refl

exists_form : builtin_called exists_call (coin ∷ []) ≡ ExistsAt coin
exists_form = refl

global_form : builtin_called global_call (coin ∷ []) ≡ GlobalAt coin
global_form = refl

address_of_form : builtin_called address_call [] ≡ SpecAddressOf
address_of_form = refl

spec_function_call : spec_called (spec_function (function_named 1)) (BoolType ∷ []) ≡ Invokes (function_named 1) (BoolType ∷ [])
spec_function_call = refl
