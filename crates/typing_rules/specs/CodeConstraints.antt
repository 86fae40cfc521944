-- The typing rules of Move code, node by node. Source: The Move Book, "Integers", "Bool", "Address", "References",
-- "Tuples and Unit", "Local Variables and Scope", "Equality", "Abort and Assert", "Conditionals", "While, For, and
-- Loop", "Functions", "Structs", "Constants", "Generics", "Vector", "Signer" and "Global Storage Operators".
use Rattle.std.specs.Prelude.{ℕ, zero, suc, ◌+◌, ◌==◌, Bool, true, false, ◌&&◌, List, [], ◌∷◌, ◌++◌, length, map, Option, Some, None, slice_get, if◌then◌else◌}
use Rattle.std.specs.Map.{lookup}
use Rattle.std.specs.List.{list_all}
use Rattle.base.specs.Names.{is_one_of, same_name}
use Rattle.base.specs.declared.types.StructId.{StructId}
use Rattle.base.specs.declared.types.Width.{Width}
use Rattle.base.specs.declared.types.Width.TheVariants.{U8}
use Rattle.base.specs.TypeData.{TypeData, BoolType, IntType, AddressType, TupleType, NoTypes, list_of_types}
use Rattle.program.specs.Trees.{at, trees}
use Rattle.program.specs.declared.arena.Node.TheVariants.{Leaf, Unary, Binary, If, Many}
use Rattle.program.specs.declared.operator.BinaryOperator.{BinaryOperator}
use Rattle.program.specs.declared.operator.BinaryOperator.TheVariants.{Arithmetic, Bitwise, Shift, Comparison, Equal, NotEqual, And, Or}
use Rattle.program.specs.declared.code.CodeLeaf.{CodeLeaf}
use Rattle.program.specs.declared.code.CodeLeaf.TheVariants.{Number, Truth, Address, Local, Constant, Return, Break, Continue, Bind, Ignore}
use Rattle.program.specs.declared.code.CodeUnary.{CodeUnary}
use Rattle.program.specs.declared.code.CodeUnary.TheVariants.{Not, Dereference, Borrow, BorrowMutable, Field, Cast, Return as return_value, Abort, Loop, Discard, Declare}
use Rattle.program.specs.declared.code.CodeBinary.{CodeBinary}
use Rattle.program.specs.declared.code.CodeBinary.TheVariants.{Operator, Assign, If as if_alone, While, Assert, Let}
use Rattle.program.specs.declared.code.CodeMany.{CodeMany}
use Rattle.program.specs.declared.code.CodeMany.TheVariants.{Call, Vector, Pack, Unpack, Tuple, TuplePattern, Block}
use Rattle.program.specs.declared.code.LocalUse.TheVariants.{Plain}
use Rattle.program.specs.declared.declaration.Constant.{Constant as ConstantData}
use Rattle.program.specs.declared.declaration.Struct.{Struct}
use Rattle.program.specs.declared.declaration.TypedName.{TypedName}
use Rattle.program.specs.declared.program.ConstantId.{ConstantId}
use Rattle.program.specs.Same.{same_struct}
use Rattle.program.specs.Types.{Structs}
use Rattle.program.specs.CodeNodes.{CodeNode}
use Rattle.typing_rules.specs.declared.sort.Wrap.TheVariants.{Vector as vector_of, Shared, Mutable}
use Rattle.typing_rules.specs.declared.sort.Sort.{Sort}
use Rattle.typing_rules.specs.declared.sort.Sort.TheVariants.{Single, Value, Integer}
use Rattle.typing_rules.specs.ProperTypes.{is_proper, is_proper_value}
use Rattle.typing_rules.specs.Constraint.{Written, Declared, Applied, Constraint, Same, Has, MadeOf, TupleOf, IsOf, Alike, Takes, Returns, FieldOf, TargetOf, Through, Behind, Barred}
use Rattle.typing_rules.specs.Rules.{field_named}
use Rattle.typing_rules.specs.Settings.{Signature, unit_type, u64_type, callee_signature, CodeSetting, variable_of_local, first_argument, struct_arity}
use Rattle.typing_rules.specs.Jumps.{has_break, is_in_loop}

-- ---- abbreviations

abbrev pub has : ℕ → TypeData → Constraint
has p of = Has p (Written of)

-- no further constraint if the condition holds, and no typing if it does not
abbrev pub barred_unless : Bool → List Constraint
barred_unless fine = if fine then [] else Barred ∷ []

-- each of these type variables is of a sort
abbrev pub each_of : Sort → List ℕ → List Constraint
each_of sort parts = map (IsOf sort) parts

-- so many type variables, from this one on
abbrev pub variables_from : ℕ → ℕ → List ℕ
variables_from first zero = []
variables_from first (suc n) = first ∷ variables_from (first + 1) n

-- ---- written types

-- a type variable has a written type, which must be a proper one
abbrev pub has_written : Structs → ℕ → TypeData → List Constraint
has_written structs p of = if is_proper structs of then has p of ∷ [] else Barred ∷ []

abbrev pub has_arguments : Structs → ℕ → List TypeData → List Constraint
has_arguments structs first [] = []
has_arguments structs first (t ∷ ts) = (if is_proper_value structs t then has first t ∷ [] else Barred ∷ []) ++ has_arguments structs (first + 1) ts

-- The type arguments of a node are neither references nor tuples. Either all are written, or none is.
abbrev pub argument_constraints : Structs → ℕ → ℕ → List TypeData → List Constraint
argument_constraints structs first arity types =
    each_of Value (variables_from first arity)
    ++ (if (length types == 0) then [] else (if (length types == arity) then has_arguments structs first types else Barred ∷ []))

-- ---- nodes without parts

abbrev pub number_constraints : ℕ → Option Width → List Constraint
number_constraints n None = IsOf Integer n ∷ []
number_constraints n (Some width) = has n (IntType width) ∷ []

abbrev pub same_constant : ConstantId → ConstantId → Bool
same_constant c d = (c.address == d.address) && (same_name c.module d.module && same_name c.name d.name)

abbrev pub constant_constraints : ℕ → Option ConstantData → List Constraint
constant_constraints n None = Barred ∷ []
constant_constraints n (Some c) = has n c.annotation ∷ []

-- the result is `()`, so that `return` without an operand is allowed
abbrev pub is_unit : Option TypeData → Bool
is_unit (Some (TupleType NoTypes)) = true
is_unit _ = false

abbrev pub leaf_constraints : CodeSetting → ℕ → CodeLeaf → List Constraint
leaf_constraints s n (Number x) = number_constraints n x.width
leaf_constraints s n (Truth value) = has n BoolType ∷ []
leaf_constraints s n (Address value) = has n AddressType ∷ []
leaf_constraints s n (Local kind l) = Same n (variable_of_local s l) ∷ []
leaf_constraints s n (Constant c) = constant_constraints n (lookup (same_constant c) s.program.constants)
leaf_constraints s n Return = barred_unless (is_unit s.result)
leaf_constraints s n Break = barred_unless (is_in_loop s.nodes n)
leaf_constraints s n Continue = barred_unless (is_in_loop s.nodes n)
leaf_constraints s n (Bind l) = IsOf Single (variable_of_local s l) ∷ Same n (variable_of_local s l) ∷ []
leaf_constraints s n Ignore = []

-- ---- lvalues that are assigned or borrowed mutably

-- the constraint on the owner of a field that is assigned or borrowed mutably: a local or a dereferenced reference is
-- an lvalue; `other` is the constraint for anything else
abbrev pub base_constraint : (ℕ → Constraint) → ℕ → Option CodeNode → Constraint
base_constraint other n (Some (Leaf (Local Plain l))) = Through n
base_constraint other n (Some (Unary Dereference r)) = Through r
base_constraint other n _ = other n

abbrev pub owner_by : (ℕ → Constraint) → (ℕ → List Constraint) → ℕ → Option CodeNode → List Constraint
owner_by other inside n (Some (Unary (Field name) e)) = inside e
owner_by other inside n node = base_constraint other n node ∷ []

-- a field of a field is written where the whole is; at most so many nodes are on the way
abbrev pub owner_constraints : (ℕ → Constraint) → List CodeNode → ℕ → ℕ → List Constraint
owner_constraints other nodes zero n = []
owner_constraints other nodes (suc more) n = owner_by other (owner_constraints other nodes more) n (slice_get nodes n)

-- `&mut e`: a reference on the way is mutable; what is no lvalue is put into a temporary
abbrev pub borrowed_constraints : List CodeNode → Option CodeNode → List Constraint
borrowed_constraints nodes (Some (Unary Dereference r)) = Through r ∷ []
borrowed_constraints nodes (Some (Unary (Field name) e)) = owner_constraints Through nodes (e + 1) e
borrowed_constraints nodes _ = []

-- `x = e`, `*r = e`, `p.f = e`: a reference on the way is mutable, and nothing else is assigned
abbrev pub assigned_constraints : List CodeNode → Option CodeNode → List Constraint
assigned_constraints nodes (Some (Leaf (Local Plain l))) = []
assigned_constraints nodes (Some (Unary Dereference r)) = Through r ∷ []
assigned_constraints nodes (Some (Unary (Field name) e)) = owner_constraints Behind nodes (e + 1) e
assigned_constraints nodes _ = Barred ∷ []

-- ---- nodes with one part

abbrev pub returned_constraints : Option TypeData → ℕ → List Constraint
returned_constraints None a = Barred ∷ []
returned_constraints (Some of) a = Returns a (Written of) ∷ []

-- a loop without `break` has any type
abbrev pub loop_constraints : CodeSetting → ℕ → ℕ → List Constraint
loop_constraints s n body = if has_break (at (trees s.nodes) body) then has n unit_type ∷ [] else []

abbrev pub annotated : CodeSetting → ℕ → Option TypeData → List Constraint
annotated s p None = []
annotated s p (Some of) = has_written s.program.structs p of

-- an item of a block has the type `()`
abbrev pub unary_constraints : CodeSetting → ℕ → CodeUnary → ℕ → List Constraint
unary_constraints s n Not a = has a BoolType ∷ has n BoolType ∷ []
unary_constraints s n Dereference a = TargetOf n a ∷ []
unary_constraints s n Borrow a = IsOf Value a ∷ MadeOf n Shared a ∷ []
unary_constraints s n BorrowMutable a = IsOf Value a ∷ MadeOf n Mutable a ∷ borrowed_constraints s.nodes (slice_get s.nodes a)
unary_constraints s n (Field name) a = FieldOf n a name ∷ []
unary_constraints s n (Cast of) a = IsOf Integer a ∷ IsOf Integer n ∷ has n of ∷ []
unary_constraints s n return_value a = returned_constraints s.result a
unary_constraints s n Abort a = has a u64_type ∷ []
unary_constraints s n Loop a = has a unit_type ∷ loop_constraints s n a
unary_constraints s n Discard a = has n unit_type ∷ []
unary_constraints s n (Declare annotation) a = has n unit_type ∷ annotated s a annotation

-- ---- nodes with two parts

abbrev pub operator_constraints : ℕ → BinaryOperator → ℕ → ℕ → List Constraint
operator_constraints n (Arithmetic operator) a b = IsOf Integer n ∷ Same a n ∷ Same b n ∷ []
operator_constraints n (Bitwise operator) a b = IsOf Integer n ∷ Same a n ∷ Same b n ∷ []
operator_constraints n (Shift operator) a b = IsOf Integer n ∷ Same a n ∷ has b (IntType U8) ∷ []
operator_constraints n (Comparison operator) a b = IsOf Integer a ∷ Same a b ∷ has n BoolType ∷ []
operator_constraints n Equal a b = IsOf Single a ∷ IsOf Single b ∷ Alike a b ∷ has n BoolType ∷ []
operator_constraints n NotEqual a b = IsOf Single a ∷ IsOf Single b ∷ Alike a b ∷ has n BoolType ∷ []
operator_constraints n And a b = has a BoolType ∷ has b BoolType ∷ has n BoolType ∷ []
operator_constraints n Or a b = has a BoolType ∷ has b BoolType ∷ has n BoolType ∷ []

-- a value is bound to a pattern
abbrev pub let_constraints : CodeSetting → Option TypeData → ℕ → ℕ → List Constraint
let_constraints s None a b = Same a b ∷ []
let_constraints s (Some of) a b = has_written s.program.structs a of ++ Takes b (Written of) ∷ []

abbrev pub binary_constraints : CodeSetting → ℕ → CodeBinary → ℕ → ℕ → List Constraint
binary_constraints s n (Operator operator) a b = operator_constraints n operator a b
binary_constraints s n Assign a b = has n unit_type ∷ Same a b ∷ assigned_constraints s.nodes (slice_get s.nodes a)
binary_constraints s n if_alone a b = has a BoolType ∷ has b unit_type ∷ has n unit_type ∷ []
binary_constraints s n While a b = has a BoolType ∷ has b unit_type ∷ has n unit_type ∷ []
binary_constraints s n Assert a b = has a BoolType ∷ has b u64_type ∷ has n unit_type ∷ []
binary_constraints s n (Let annotation) a b = has n unit_type ∷ let_constraints s annotation a b

-- ---- calls

-- each argument fits the type of its parameter, and there are as many arguments as parameters
abbrev pub given_constraints : ℕ → ℕ → List ℕ → List TypeData → List Constraint
given_constraints first count [] [] = []
given_constraints first count [] (p ∷ ps) = Barred ∷ []
given_constraints first count (a ∷ more) [] = Barred ∷ []
given_constraints first count (a ∷ more) (p ∷ ps) = Takes a (Declared p first count) ∷ given_constraints first count more ps

abbrev pub call_constraints : Structs → ℕ → ℕ → Option Signature → List TypeData → List ℕ → List Constraint
call_constraints structs n first None types parts = Barred ∷ []
call_constraints structs n first (Some s) types parts =
    (argument_constraints structs first s.arity types ++ given_constraints first s.arity parts s.parameters) ++ Has n (Declared s.result first s.arity) ∷ []

-- ---- structs

-- each field is named exactly once
abbrev pub names_each_once : List TypedName → List (List ℕ) → Bool
names_each_once fields names = (length names == length fields) && list_all (λ f. is_one_of names f.name) fields

abbrev pub field_constraint : ℕ → ℕ → ℕ → Option TypeData → Constraint
field_constraint first count p None = Barred
field_constraint first count p (Some of) = Has p (Declared of first count)

-- each part has the type of the field whose name is given with it
abbrev pub field_constraints : ℕ → Struct → List (List ℕ) → List ℕ → List Constraint
field_constraints first s [] parts = []
field_constraints first s (name ∷ names) [] = Barred ∷ []
field_constraints first s (name ∷ names) (p ∷ parts) = field_constraint first (length s.type_parameters) p (field_named s.fields name) ∷ field_constraints first s names parts

abbrev pub named_constraints : ℕ → Option Struct → List (List ℕ) → List ℕ → List Constraint
named_constraints first None names parts = Barred ∷ []
named_constraints first (Some s) names parts = barred_unless (names_each_once s.fields names) ++ field_constraints first s names parts

-- a struct that is packed or unpacked
abbrev pub struct_constraints : Structs → ℕ → ℕ → StructId → List TypeData → List (List ℕ) → List ℕ → List Constraint
struct_constraints structs n first owner types names parts =
    let s = lookup (same_struct owner) structs in
    (argument_constraints structs first (struct_arity s) types ++ named_constraints first s names parts)
    ++ Has n (Applied owner first (struct_arity s)) ∷ []

-- ---- nodes with a list of parts

abbrev pub last_constraints : ℕ → List ℕ → List Constraint
last_constraints n [] = Barred ∷ []
last_constraints n (a ∷ []) = Same n a ∷ []
last_constraints n (a ∷ b ∷ more) = last_constraints n (b ∷ more)

-- a block has the type of its last expression, or `()`
abbrev pub block_constraints : ℕ → Bool → List ℕ → List Constraint
block_constraints n true parts = last_constraints n parts
block_constraints n false parts = has n unit_type ∷ []

abbrev pub many_constraints : CodeSetting → ℕ → ℕ → CodeMany → List ℕ → List Constraint
many_constraints s n first (Call c) parts =
    call_constraints s.program.structs n first (callee_signature s.program c.callee) (list_of_types c.types) parts
many_constraints s n first (Vector types) parts =
    (argument_constraints s.program.structs first 1 (list_of_types types) ++ map (λ p. Same p first) parts) ++ MadeOf n vector_of first ∷ []
many_constraints s n first (Pack fields) parts =
    struct_constraints s.program.structs n first fields.owner (list_of_types fields.types) fields.fields parts
many_constraints s n first (Unpack fields) parts =
    struct_constraints s.program.structs n first fields.owner (list_of_types fields.types) fields.fields parts
many_constraints s n first Tuple parts = each_of Single parts ++ TupleOf n parts ∷ []
many_constraints s n first TuplePattern parts = each_of Single parts ++ TupleOf n parts ∷ []
many_constraints s n first (Block has_value) parts = block_constraints n has_value parts

-- ---- nodes

-- the constraints of the node with the number n, whose type arguments are the type variables from `first` on
abbrev pub constraints_at : CodeSetting → ℕ → ℕ → CodeNode → List Constraint
constraints_at s n first (Leaf l) = leaf_constraints s n l
constraints_at s n first (Unary u a) = unary_constraints s n u a
constraints_at s n first (Binary o a b) = binary_constraints s n o a b
constraints_at s n first (If c a b) = has c BoolType ∷ Same a n ∷ Same b n ∷ []
constraints_at s n first (Many m parts) = many_constraints s n first m parts

-- the constraints of each of these nodes, in order, the first of which has the number n
abbrev pub constraints_from : CodeSetting → ℕ → List CodeNode → List (List Constraint)
constraints_from s n [] = []
constraints_from s n (node ∷ rest) = constraints_at s n (first_argument s n) node ∷ constraints_from s (n + 1) rest
