-- Values of spec expressions, and what clauses say.
use Rattle.std.proofs.Common.{◌≡◌, ℕ, zero, suc, negsuc, Bool, true, false, List, [], ◌∷◌, Option, Some, None, if◌then◌else◌, refl}
use Rattle.base.specs.TypeData.{TypeData, BoolType, IntType, NumType, ParamType}
use Rattle.base.specs.declared.types.Width.TheVariants.{U8}
use Rattle.program.specs.Trees.{LeafTree, UnaryTree, BinaryTree, IfTree, ManyTree, trees_of}
use Rattle.program.specs.declared.clause.ConditionKind.TheVariants.{Requires, Ensures, AbortsIf}
use Rattle.program.specs.declared.declaration.Pragmas.{Pragmas}
use Rattle.program.specs.declared.operator.Arithmetic.{Arithmetic as ArithmeticOperator}
use Rattle.program.specs.declared.operator.Arithmetic.TheVariants.{Add, Subtract, Multiply, Divide, Remainder}
use Rattle.program.specs.declared.operator.Bitwise.TheVariants.{BitAnd, BitOr, BitXor}
use Rattle.program.specs.declared.operator.Shift.TheVariants.{Left, Right}
use Rattle.program.specs.declared.operator.Comparison.{Comparison as ComparisonOperator}
use Rattle.program.specs.declared.operator.Comparison.TheVariants.{Less, LessEqual, Greater, GreaterEqual}
use Rattle.program.specs.declared.operator.BinaryOperator.TheVariants.{Arithmetic, Bitwise, Shift, Comparison, Equal, NotEqual, And, Or}
use Rattle.program.specs.declared.operator.SpecOperator.{SpecOperator}
use Rattle.program.specs.declared.operator.SpecOperator.TheVariants.{Common, Implies, Equivalent, Range}
use Rattle.program.specs.declared.operator.Quantifier.TheVariants.{ForAll, Exists}
use Rattle.program.specs.declared.spec.SpecBinary.TheVariants.{Operator, Index}
use Rattle.program.specs.declared.spec.SpecName.TheVariants.{Parameter, Result, Let, Variable, Quantified}
use Rattle.fol.specs.Val.{Val, NumberValue, TruthValue, NothingValue, MemoryValue, NoEntries, same_value, same_type as same_struct_type, compare_values}
use Rattle.fol.specs.Operators.{vector_of}
use Rattle.fol.specs.Truth.{Interpretation}
use Rattle.semantics.specs.States.{Item, Plain, State, same_type, with_stored}
use Rattle.semantics.specs.Operations.{number}
use Rattle.semantics.specs.SpecTruth.{SpecTree, SpecManyForm, Value, Named, Denies, FieldOf, Values, Numbers, Bound, Old, LengthOf, InRange, AddressOf, ExistsAt, GlobalAt, Packed, Invokes, Quantifies, SpecFunctions, invocations, meaning}
use Rattle.semantics.specs.Clauses.{TypedClause, Condition, Modifies, LetIs, Includes, SchemaInstance, Ends, Statement, Says, MayChange, SpecDeclarations, at_entry, at_exit, statements}
use Rattle.semantics.specs.Keeping.{ends_of, may_abort, may_return}
use Rattle.semantics.proofs.ExampleParts.{named, pair_name, pair_of, numbers, coin, function_named, start, to_cell}

-- ---- expressions

abbrev of : Val → SpecTree
of v = LeafTree (Value v)

abbrev whole : ℕ → SpecTree
whole n = of (number n)

-- -1 - n
abbrev below_zero : ℕ → SpecTree
below_zero n = of (NumberValue (negsuc n))

abbrev so : SpecTree
so = of (TruthValue true)

abbrev not_so : SpecTree
not_so = of (TruthValue false)

abbrev nothing : SpecTree
nothing = of NothingValue

abbrev op : SpecOperator → SpecTree → SpecTree → SpecTree
op o a b = BinaryTree (Operator o) a b

abbrev reckon : ArithmeticOperator → SpecTree → SpecTree → SpecTree
reckon o a b = op (Common (Arithmetic o)) a b

abbrev compare : ComparisonOperator → SpecTree → SpecTree → SpecTree
compare o a b = op (Common (Comparison o)) a b

abbrev equal : SpecTree → SpecTree → SpecTree
equal a b = op (Common Equal) a b

abbrev on_all : SpecManyForm → List SpecTree → SpecTree
on_all form ts = ManyTree form (trees_of ts)

abbrev parameter : ℕ → SpecTree
parameter k = LeafTree (Named (Parameter k))

abbrev result : ℕ → SpecTree
result k = LeafTree (Named (Result k))

abbrev bound_variable : ℕ → SpecTree
bound_variable k = LeafTree (Named (Quantified k))

-- ---- moments: at the entry `coin` has 1 at the address 5, at the exit 2; parameters and results are those of the ends

abbrev entry_state : State
entry_state = with_stored coin 5 (number 1) start

abbrev exit_state : State
exit_state = with_stored coin 5 (number 2) (record { cells = Some (Plain (number 6)) ∷ Some (Plain (pair_of 3 4)) ∷ []; storage = λ t. MemoryValue NoEntries })

-- a test of all values that looks at a few alone, which is enough for the properties below
abbrev looks_at : List Val → (Val → Bool) → Bool
looks_at [] f = true
looks_at (v ∷ vs) f = if f v then looks_at vs f else false

abbrev few : List Val
few = NumberValue (negsuc 2) ∷ NumberValue (negsuc 1) ∷ NumberValue (negsuc 0) ∷ TruthValue true ∷ TruthValue false ∷ numbers (0 ∷ 1 ∷ 2 ∷ 3 ∷ 4 ∷ 5 ∷ 6 ∷ 7 ∷ 8 ∷ 9 ∷ 10 ∷ 11 ∷ 255 ∷ 256 ∷ [])

abbrev m : Interpretation
m = record { all = looks_at few; shapes = []; named = λ n. BoolType }

-- the spec function 0 doubles its argument, the function 1 reads `coin`, the function 2 doubles twice, and the function 3 says that no value of
-- its type parameter is below 0
abbrev body_of : List ℕ → Option SpecTree
body_of (zero ∷ []) = Some (reckon Add (parameter 0) (parameter 0))
body_of (suc zero ∷ []) = Some (on_all (GlobalAt coin) (parameter 0 ∷ []))
body_of (suc (suc zero) ∷ []) = Some (on_all (Invokes (function_named 0) []) (on_all (Invokes (function_named 0) []) (parameter 0 ∷ []) ∷ []))
body_of (suc (suc (suc zero)) ∷ []) = Some (on_all (Quantifies ForAll (record { variable = 0; over = Values (ParamType 0) } ∷ [])) (compare LessEqual (whole 0) (bound_variable 0) ∷ []))
body_of _ = None

abbrev spec_functions : SpecFunctions
spec_functions name = body_of name.name

-- parameters: 3, `&mut u64` and `&mut P` of the caller; results: 7 and 8
abbrev arguments : List Item
arguments = Plain (number 3) ∷ to_cell 0 ∷ to_cell 1 ∷ []

abbrev ends : Ends
ends = ends_of entry_state arguments exit_state (Plain (number 7) ∷ Plain (number 8) ∷ [])

-- the value at the exit, and at the entry
abbrev value : SpecTree → Val
value t = meaning (invocations spec_functions 3) m t (at_exit ends)

abbrev entry_value : SpecTree → Val
entry_value t = meaning (invocations spec_functions 3) m t (at_entry ends)

abbrev says : Bool → Val
says b = TruthValue b

abbrev minus : ℕ → Val
minus n = NumberValue (negsuc n)

-- ---- numbers are whole and of any size

sum_beyond_u128 : value (reckon Add (whole 340282366920938463463374607431768211455) (whole 1)) ≡ number 340282366920938463463374607431768211456
sum_beyond_u128 = refl

difference_below_zero : value (reckon Subtract (whole 3) (whole 5)) ≡ minus 1
difference_below_zero = refl

product_of_negatives : value (reckon Multiply (below_zero 1) (below_zero 2)) ≡ number 6
product_of_negatives = refl

quotient_rounds_down : value (reckon Divide (whole 7) (whole 2)) ≡ number 3
quotient_rounds_down = refl

negative_quotient_rounds_down : value (reckon Divide (below_zero 6) (whole 2)) ≡ minus 3
negative_quotient_rounds_down = refl

quotient_by_zero : value (reckon Divide (whole 7) (whole 0)) ≡ number 0
quotient_by_zero = refl

remainder : value (reckon Remainder (whole 7) (whole 4)) ≡ number 3
remainder = refl

remainder_by_zero : value (reckon Remainder (whole 7) (whole 0)) ≡ number 7
remainder_by_zero = refl

-- what is no number counts as 0 in arithmetic and order
nothing_in_a_sum : value (reckon Add nothing (whole 3)) ≡ number 3
nothing_in_a_sum = refl

nothing_in_order : value (compare LessEqual nothing (whole 0)) ≡ says true
nothing_in_order = refl

nothing_is_no_zero : value (equal nothing (whole 0)) ≡ says false
unfolding same_value
nothing_is_no_zero = refl

smaller : value (compare Less (below_zero 0) (whole 0)) ≡ says true
smaller = refl

at_least : value (compare GreaterEqual (whole 2) (whole 3)) ≡ says false
at_least = refl

greater : value (compare Greater (whole 3) (whole 2)) ≡ says true
greater = refl

-- ---- bits: of numbers from 0, and shifts are those of `u128`

bits_and : value (op (Common (Bitwise BitAnd)) (whole 12) (whole 10)) ≡ number 8
bits_and = refl

bits_or_of_a_negative : value (op (Common (Bitwise BitOr)) (below_zero 0) (whole 10)) ≡ number 0
bits_or_of_a_negative = refl

bits_xor : value (op (Common (Bitwise BitXor)) (whole 12) (whole 10)) ≡ number 6
bits_xor = refl

left_shift : value (op (Common (Shift Left)) (whole 3) (whole 2)) ≡ number 12
left_shift = refl

left_shift_by_128 : value (op (Common (Shift Left)) (whole 3) (whole 128)) ≡ number 0
left_shift_by_128 = refl

left_shift_drops_bits : value (op (Common (Shift Left)) (whole 340282366920938463463374607431768211455) (whole 127)) ≡ number 170141183460469231731687303715884105728
left_shift_drops_bits = refl

right_shift : value (op (Common (Shift Right)) (whole 13) (whole 2)) ≡ number 3
right_shift = refl

right_shift_by_128 : value (op (Common (Shift Right)) (whole 13) (whole 128)) ≡ number 0
right_shift_by_128 = refl

right_shift_of_a_negative : value (op (Common (Shift Right)) (below_zero 12) (whole 1)) ≡ number 0
right_shift_of_a_negative = refl

-- ---- truth values

denied : value (UnaryTree Denies not_so) ≡ says true
denied = refl

both : value (op (Common And) so not_so) ≡ says false
both = refl

either : value (op (Common Or) so not_so) ≡ says true
either = refl

implied_by_false : value (op Implies not_so not_so) ≡ says true
implied_by_false = refl

implied_by_true : value (op Implies so not_so) ≡ says false
implied_by_true = refl

equivalent : value (op Equivalent not_so not_so) ≡ says true
unfolding same_value
equivalent = refl

different : value (op (Common NotEqual) (whole 1) (whole 2)) ≡ says true
unfolding same_value
different = refl

chosen_by_true : value (IfTree so (whole 1) (whole 2)) ≡ number 1
chosen_by_true = refl

chosen_by_false : value (IfTree not_so (whole 1) (whole 2)) ≡ number 2
chosen_by_false = refl

-- ---- vectors and structs

vector_length : value (on_all LengthOf (of (vector_of (numbers (4 ∷ 5 ∷ []))) ∷ [])) ≡ number 2
vector_length = refl

length_of_no_vector : value (on_all LengthOf (whole 4 ∷ [])) ≡ number 0
length_of_no_vector = refl

item_of_a_vector : value (BinaryTree Index (of (vector_of (numbers (4 ∷ 5 ∷ [])))) (whole 1)) ≡ number 5
item_of_a_vector = refl

item_beyond_the_end : value (BinaryTree Index (of (vector_of (numbers (4 ∷ 5 ∷ [])))) (whole 2)) ≡ NothingValue
item_beyond_the_end = refl

item_below_zero : value (BinaryTree Index (of (vector_of (numbers (4 ∷ 5 ∷ [])))) (below_zero 0)) ≡ NothingValue
item_below_zero = refl

in_range : value (on_all InRange (of (vector_of (numbers (4 ∷ 5 ∷ []))) ∷ whole 1 ∷ [])) ≡ says true
in_range = refl

not_in_range : value (on_all InRange (of (vector_of (numbers (4 ∷ 5 ∷ []))) ∷ whole 2 ∷ [])) ≡ says false
not_in_range = refl

negative_is_not_in_range : value (on_all InRange (of (vector_of (numbers (4 ∷ 5 ∷ []))) ∷ below_zero 0 ∷ [])) ≡ says false
negative_is_not_in_range = refl

field_of_a_parameter : value (UnaryTree (FieldOf pair_name 1) (parameter 2)) ≡ number 4
unfolding same_struct_type
field_of_a_parameter = refl

field_of_another_struct : value (UnaryTree (FieldOf (named (9 ∷ [])) 1) (parameter 2)) ≡ NothingValue
unfolding same_struct_type
field_of_another_struct = refl

field_of_no_struct : value (UnaryTree (FieldOf pair_name 1) (whole 3)) ≡ NothingValue
field_of_no_struct = refl

packed : value (on_all (Packed pair_name (1 ∷ 0 ∷ [])) (whole 2 ∷ whole 1 ∷ [])) ≡ pair_of 1 2
packed = refl

-- ---- names, at both ends

parameter_by_value : value (parameter 0) ≡ number 3
parameter_by_value = refl

mutable_parameter_at_the_exit : value (parameter 1) ≡ number 6
mutable_parameter_at_the_exit = refl

old_mutable_parameter : value (on_all Old (parameter 1 ∷ [])) ≡ number 5
old_mutable_parameter = refl

mutable_parameter_at_the_entry : entry_value (parameter 1) ≡ number 5
mutable_parameter_at_the_entry = refl

old_field_of_a_parameter : value (on_all Old (UnaryTree (FieldOf pair_name 0) (parameter 2) ∷ [])) ≡ number 1
unfolding same_struct_type
old_field_of_a_parameter = refl

first_result : value (result 0) ≡ number 7
first_result = refl

-- `result_2`
second_result : value (result 1) ≡ number 8
second_result = refl

-- ---- storage, at both ends

global_at_the_exit : value (on_all (GlobalAt coin) (whole 5 ∷ [])) ≡ number 2
unfolding same_type same_value compare_values
global_at_the_exit = refl

old_global : value (on_all Old (on_all (GlobalAt coin) (whole 5 ∷ []) ∷ [])) ≡ number 1
unfolding same_type same_value compare_values
old_global = refl

absent_global : value (on_all (GlobalAt coin) (whole 6 ∷ [])) ≡ NothingValue
unfolding same_type same_value compare_values
absent_global = refl

global_exists : value (on_all (ExistsAt coin) (whole 5 ∷ [])) ≡ says true
unfolding same_type same_value compare_values
global_exists = refl

absent_global_does_not_exist : value (on_all (ExistsAt coin) (whole 6 ∷ [])) ≡ says false
unfolding same_type same_value compare_values
absent_global_does_not_exist = refl

address_of_a_signer : value (on_all AddressOf (parameter 1 ∷ [])) ≡ number 6
address_of_a_signer = refl

-- ---- spec functions

spec_function : value (on_all (Invokes (function_named 0) []) (whole 4 ∷ [])) ≡ number 8
spec_function = refl

spec_function_of_a_spec_function : value (on_all (Invokes (function_named 2) []) (whole 4 ∷ [])) ≡ number 16
spec_function_of_a_spec_function = refl

storage_of_a_spec_function : value (on_all (Invokes (function_named 1) []) (whole 5 ∷ [])) ≡ number 2
unfolding same_type same_value compare_values
storage_of_a_spec_function = refl

old_spec_function : value (on_all Old (on_all (Invokes (function_named 1) []) (whole 5 ∷ []) ∷ [])) ≡ number 1
unfolding same_type same_value compare_values
old_spec_function = refl

-- ---- quantifiers

abbrev range : ℕ → ℕ → SpecTree
range a b = op Range (whole a) (whole b)

abbrev numbers_from : Bound
numbers_from = record { variable = 0; over = Numbers }

abbrev values_of_type : TypeData → Bound
values_of_type t = record { variable = 0; over = Values t }

-- `forall i in 2..5: i < 5`, and `i < 4`
all_in_a_range : value (on_all (Quantifies ForAll (numbers_from ∷ [])) (range 2 5 ∷ compare Less (bound_variable 0) (whole 5) ∷ [])) ≡ says true
all_in_a_range = refl

end_of_a_range_is_outside : value (on_all (Quantifies Exists (numbers_from ∷ [])) (range 2 5 ∷ compare GreaterEqual (bound_variable 0) (whole 5) ∷ [])) ≡ says false
end_of_a_range_is_outside = refl

begin_of_a_range_is_inside : value (on_all (Quantifies Exists (numbers_from ∷ [])) (range 2 5 ∷ compare LessEqual (bound_variable 0) (whole 2) ∷ [])) ≡ says true
begin_of_a_range_is_inside = refl

-- `i in 5..3` is no number
all_in_an_empty_range : value (on_all (Quantifies ForAll (numbers_from ∷ [])) (range 5 3 ∷ not_so ∷ [])) ≡ says true
all_in_an_empty_range = refl

some_in_an_empty_range : value (on_all (Quantifies Exists (numbers_from ∷ [])) (range 5 3 ∷ so ∷ [])) ≡ says false
some_in_an_empty_range = refl

-- `forall x: u8: 0 <= x && x <= 255`, and not of `num`
all_of_u8 : value (on_all (Quantifies ForAll (values_of_type (IntType U8) ∷ [])) (op (Common And) (compare LessEqual (whole 0) (bound_variable 0)) (compare LessEqual (bound_variable 0) (whole 255)) ∷ [])) ≡ says true
all_of_u8 = refl

not_all_of_num : value (on_all (Quantifies ForAll (values_of_type NumType ∷ [])) (compare LessEqual (whole 0) (bound_variable 0) ∷ [])) ≡ says false
not_all_of_num = refl

-- a type parameter names the type argument: here `bool`
all_of_a_type_parameter : value (on_all (Quantifies ForAll (values_of_type (ParamType 0) ∷ [])) (op (Common Or) (bound_variable 0) (UnaryTree Denies (bound_variable 0)) ∷ [])) ≡ says true
all_of_a_type_parameter = refl

-- `forall i in 0..3 {i < 1}: i < 3`: the trigger says nothing
triggers_say_nothing : value (on_all (Quantifies ForAll (numbers_from ∷ [])) (range 0 3 ∷ compare Less (bound_variable 0) (whole 1) ∷ compare Less (bound_variable 0) (whole 3) ∷ [])) ≡ says true
triggers_say_nothing = refl

-- `forall i in 0..3, j in 0..i: j < 2`: a range may speak of the variables before it
range_of_an_earlier_variable : value (on_all (Quantifies ForAll (numbers_from ∷ record { variable = 1; over = Numbers } ∷ []))
    (range 0 3 ∷ op Range (whole 0) (bound_variable 0) ∷ compare Less (bound_variable 1) (whole 2) ∷ [])) ≡ says true
range_of_an_earlier_variable = refl

-- in a spec function too: here `u8`, and `num`
all_of_a_type_argument : value (on_all (Invokes (function_named 3) (IntType U8 ∷ [])) []) ≡ says true
all_of_a_type_argument = refl

not_all_of_a_type_argument : value (on_all (Invokes (function_named 3) (NumType ∷ [])) []) ≡ says false
not_all_of_a_type_argument = refl

-- ---- clauses

-- a schema with `ensures x == 6` and `aborts_if x == 5` for its variable x
abbrev schema : SchemaInstance
schema = record { schema = record { address = 1; «module» = []; name = [] }; read = []; named = [] }

abbrev schema_clauses : SchemaInstance → List TypedClause
schema_clauses i = Condition Ensures (equal (LeafTree (Named (Variable 0))) (whole 6)) ∷ Condition AbortsIf (equal (LeafTree (Named (Variable 0))) (whole 5)) ∷ []

abbrev declarations : SpecDeclarations
declarations = record { functions = spec_functions; schemas = schema_clauses; levels = 3 }

abbrev at_end : List TypedClause → List Statement
at_end cs = statements declarations m cs ends

-- `let x = p; ensures x == 5` where p is the mutable parameter: `let` is of the entry, at the exit too
let_is_of_the_entry : at_end (LetIs false (parameter 1) ∷ Condition Ensures (equal (LeafTree (Named (Let 0))) (whole 5)) ∷ []) ≡ Says Ensures true ∷ []
unfolding same_value
let_is_of_the_entry = refl

let_post_is_of_the_exit : at_end (LetIs true (parameter 1) ∷ Condition Ensures (equal (LeafTree (Named (Let 0))) (whole 6)) ∷ []) ≡ Says Ensures true ∷ []
unfolding same_value
let_post_is_of_the_exit = refl

let_post_of_results : at_end (LetIs true (reckon Add (result 0) (result 1)) ∷ Condition Ensures (equal (LeafTree (Named (Let 0))) (whole 15)) ∷ []) ≡ Says Ensures true ∷ []
unfolding same_value
let_post_of_results = refl

let_of_an_earlier_let : at_end (LetIs false (parameter 1) ∷ LetIs false (reckon Add (LeafTree (Named (Let 0))) (whole 1)) ∷ Condition Ensures (equal (LeafTree (Named (Let 1))) (whole 6)) ∷ []) ≡ Says Ensures true ∷ []
unfolding same_value
let_of_an_earlier_let = refl

ensures_speaks_of_the_exit : at_end (Condition Ensures (equal (parameter 1) (whole 6)) ∷ []) ≡ Says Ensures true ∷ []
unfolding same_value
ensures_speaks_of_the_exit = refl

aborts_if_speaks_of_the_entry : at_end (Condition AbortsIf (equal (parameter 1) (whole 5)) ∷ []) ≡ Says AbortsIf true ∷ []
unfolding same_value
aborts_if_speaks_of_the_entry = refl

requires_speaks_of_the_entry : at_end (Condition Requires (equal (parameter 1) (whole 6)) ∷ []) ≡ Says Requires false ∷ []
unfolding same_value
requires_speaks_of_the_entry = refl

schema_in_place : at_end (Includes schema (parameter 1 ∷ []) ∷ []) ≡ Says Ensures true ∷ Says AbortsIf true ∷ []
unfolding same_value
schema_in_place = refl

modified : at_end (Modifies (record { resource = coin; address = parameter 1 } ∷ []) ∷ []) ≡ MayChange coin (number 5) ∷ []
modified = refl

-- ---- aborts

abbrev pragmas : Bool → Bool → Pragmas
pragmas partial strict = record { verify = true; is_opaque = false; aborts_if_is_partial = partial; aborts_if_is_strict = strict }

abort_where_one_holds : may_abort (pragmas false false) (Says AbortsIf false ∷ Says AbortsIf true ∷ []) ≡ true
abort_where_one_holds = refl

no_abort_where_none_holds : may_abort (pragmas false false) (Says AbortsIf false ∷ []) ≡ false
no_abort_where_none_holds = refl

partial_aborts_are_free : may_abort (pragmas true false) (Says AbortsIf false ∷ []) ≡ true
partial_aborts_are_free = refl

aborts_are_free_without_clause : may_abort (pragmas false false) (Says Ensures true ∷ []) ≡ true
aborts_are_free_without_clause = refl

strict_without_clause : may_abort (pragmas false true) (Says Ensures true ∷ []) ≡ false
strict_without_clause = refl

no_return_where_one_holds : may_return (Says AbortsIf false ∷ Says AbortsIf true ∷ []) ≡ false
no_return_where_one_holds = refl
