-- The typing rules of spec expressions, node by node. Source: the Move Specification Language reference, "Type System",
-- "Expressions", "Builtin Functions" and "Invariants".
use Rattle.std.specs.Prelude.{ℕ, zero, suc, ◌+◌, ◌==◌, Bool, List, [], ◌∷◌, ◌++◌, length, map, take, sum_by, Option, Some, None, if◌then◌else◌}
use Rattle.std.specs.Map.{lookup}
use Rattle.std.specs.Option.{option_map}
use Rattle.std.specs.List.{flat_map}
use Rattle.base.specs.TypeData.{TypeData, TypesData, BoolType, NumType, AddressType, SignerType, VectorType, list_of_types}
use Rattle.program.specs.declared.arena.Node.{Node}
use Rattle.program.specs.declared.arena.Node.TheVariants.{Leaf, Unary, Binary, If, Many}
use Rattle.program.specs.declared.operator.BinaryOperator.{BinaryOperator}
use Rattle.program.specs.declared.operator.BinaryOperator.TheVariants.{Arithmetic, Bitwise, Shift, Comparison, Equal, NotEqual, And, Or}
use Rattle.program.specs.declared.operator.SpecOperator.{SpecOperator}
use Rattle.program.specs.declared.operator.SpecOperator.TheVariants.{Common, Implies, Equivalent, Range}
use Rattle.program.specs.declared.operator.SpecBuiltin.{SpecBuiltin}
use Rattle.program.specs.declared.operator.SpecBuiltin.TheVariants.{Old, Length, InRange, Exists, Global, AddressOf}
use Rattle.program.specs.declared.spec.SpecName.{SpecName}
use Rattle.program.specs.declared.spec.SpecName.TheVariants.{Parameter, Local, Result, Let, Variable, Field as field_name, Quantified as quantified_name}
use Rattle.program.specs.declared.spec.SpecLeaf.{SpecLeaf}
use Rattle.program.specs.declared.spec.SpecLeaf.TheVariants.{Number, Truth, Address, Name, Constant, Max}
use Rattle.program.specs.declared.spec.SpecUnary.{SpecUnary}
use Rattle.program.specs.declared.spec.SpecUnary.TheVariants.{Not, Field}
use Rattle.program.specs.declared.spec.SpecBinary.{SpecBinary}
use Rattle.program.specs.declared.spec.SpecBinary.TheVariants.{Operator, Index}
use Rattle.program.specs.declared.spec.SpecCallee.{SpecCallee}
use Rattle.program.specs.declared.spec.SpecCallee.TheVariants.{Function as spec_function, Builtin}
use Rattle.program.specs.declared.spec.Bind.{Bind}
use Rattle.program.specs.declared.spec.Domain.{Domain}
use Rattle.program.specs.declared.spec.Domain.TheVariants.{Of, In}
use Rattle.program.specs.declared.spec.SpecMany.{SpecMany}
use Rattle.program.specs.declared.spec.SpecMany.TheVariants.{Call, Pack, Quantified}
use Rattle.program.specs.declared.declaration.SpecFunction.{SpecFunction}
use Rattle.program.specs.declared.declaration.Struct.{Struct}
use Rattle.program.specs.declared.program.Program.{Program}
use Rattle.program.specs.Same.{same_function, same_struct}
use Rattle.typing_rules.specs.declared.sort.Wrap.TheVariants.{Vector as vector_of}
use Rattle.typing_rules.specs.declared.sort.Sort.TheVariants.{Value}
use Rattle.typing_rules.specs.Instances.{argument_in, instance, spec_type}
use Rattle.typing_rules.specs.ProperTypes.{is_proper_single, is_proper_value}
use Rattle.typing_rules.specs.Constraint.{Declared, Applied, Constraint, Same, Has, MadeOf, IsOf, FieldOf, Barred}
use Rattle.typing_rules.specs.Settings.{Signature, signature, item, unit_type, struct_arity, arity_of}
use Rattle.typing_rules.specs.CodeConstraints.{has, barred_unless, each_of, names_each_once, variables_from, same_constant}
use Rattle.typing_rules.specs.Rules.{field_named}

abbrev pub SpecNode : Type 0
SpecNode = Node SpecLeaf SpecUnary SpecBinary SpecMany

-- The setting of a spec expression: the types, as specifications read them, of the names that may occur in it; whether
-- `old` may occur in it; the number of variables that its quantifiers bind; and, in a clause of an included schema, the
-- types substituted for type parameters.
pub record SpecSetting : Type 0 where
  pub program : Program
  pub nodes : List SpecNode
  pub named : SpecName → Option TypeData
  pub may_be_old : Bool
  pub variables : ℕ
  pub types : TypesData

-- a written type as it is read in this setting
abbrev pub read_there : TypesData → TypeData → TypeData
read_there types t = instance (argument_in types) (spec_type t)

-- ---- signatures

abbrev pub spec_signature : SpecFunction → Signature
spec_signature f = signature (length f.type_parameters) (map (λ p. spec_type p.annotation) f.parameters) (spec_type f.result)

abbrev pub builtin_signature : SpecBuiltin → Signature
builtin_signature Old = signature 1 (item ∷ []) item
builtin_signature Length = signature 1 (VectorType item ∷ []) NumType
builtin_signature InRange = signature 1 (VectorType item ∷ NumType ∷ []) BoolType
builtin_signature Exists = signature 1 (AddressType ∷ []) BoolType
builtin_signature Global = signature 1 (AddressType ∷ []) item
builtin_signature AddressOf = signature 0 (SignerType ∷ []) AddressType

abbrev pub spec_callee_signature : Program → SpecCallee → Option Signature
spec_callee_signature program (spec_function f) = option_map spec_signature (lookup (same_function f) program.spec_functions)
spec_callee_signature program (Builtin builtin) = Some (builtin_signature builtin)

-- ---- type variables: nodes, then variables of quantifiers, then type arguments

abbrev pub spec_form_arity : Program → SpecMany → ℕ
spec_form_arity program (Call c) = arity_of (spec_callee_signature program c.callee)
spec_form_arity program (Pack fields) = struct_arity (lookup (same_struct fields.owner) program.structs)
spec_form_arity program (Quantified quantifier binds triggers) = 0

abbrev pub spec_node_arity : Program → SpecNode → ℕ
spec_node_arity program (Many form parts) = spec_form_arity program form
spec_node_arity program _ = 0

abbrev pub variable_of_name : SpecSetting → ℕ → ℕ
variable_of_name s v = length s.nodes + v

abbrev pub spec_first_argument : SpecSetting → ℕ → ℕ
spec_first_argument s n = (length s.nodes + s.variables) + sum_by (spec_node_arity s.program) (take n s.nodes)

abbrev pub spec_variable_count : SpecSetting → ℕ
spec_variable_count s = (length s.nodes + s.variables) + sum_by (spec_node_arity s.program) s.nodes

-- ---- written type arguments, as specifications read them

abbrev pub has_spec_arguments : SpecSetting → ℕ → List TypeData → List Constraint
has_spec_arguments s first [] = []
has_spec_arguments s first (t ∷ ts) =
    (if is_proper_value s.program.structs t then has first (read_there s.types t) ∷ [] else Barred ∷ []) ++ has_spec_arguments s (first + 1) ts

abbrev pub spec_argument_constraints : SpecSetting → ℕ → ℕ → List TypeData → List Constraint
spec_argument_constraints s first arity types =
    each_of Value (variables_from first arity)
    ++ (if (length types == 0) then [] else (if (length types == arity) then has_spec_arguments s first types else Barred ∷ []))

-- ---- nodes without parts

abbrev pub named_type : ℕ → Option TypeData → List Constraint
named_type n None = Barred ∷ []
named_type n (Some of) = has n of ∷ []

abbrev pub name_constraints : SpecSetting → ℕ → SpecName → List Constraint
name_constraints s n (quantified_name v) = Same n (variable_of_name s v) ∷ []
name_constraints s n (Parameter k) = named_type n (s.named (Parameter k))
name_constraints s n (Local k) = named_type n (s.named (Local k))
name_constraints s n (Result k) = named_type n (s.named (Result k))
name_constraints s n (Let k) = named_type n (s.named (Let k))
name_constraints s n (Variable k) = named_type n (s.named (Variable k))
name_constraints s n (field_name k) = named_type n (s.named (field_name k))

-- every number has type `num`, whatever its suffix
abbrev pub spec_leaf_constraints : SpecSetting → ℕ → SpecLeaf → List Constraint
spec_leaf_constraints s n (Number x) = has n NumType ∷ []
spec_leaf_constraints s n (Truth value) = has n BoolType ∷ []
spec_leaf_constraints s n (Address value) = has n AddressType ∷ []
spec_leaf_constraints s n (Name name) = name_constraints s n name
spec_leaf_constraints s n (Constant c) = named_type n (option_map (λ d. spec_type d.annotation) (lookup (same_constant c) s.program.constants))
spec_leaf_constraints s n (Max width) = has n NumType ∷ []

-- ---- nodes with one part or two

abbrev pub spec_unary_constraints : ℕ → SpecUnary → ℕ → List Constraint
spec_unary_constraints n Not a = has a BoolType ∷ has n BoolType ∷ []
spec_unary_constraints n (Field name) a = FieldOf n a name ∷ []

abbrev pub numbers : ℕ → ℕ → ℕ → List Constraint
numbers n a b = has a NumType ∷ has b NumType ∷ has n NumType ∷ []

abbrev pub truths : ℕ → ℕ → ℕ → List Constraint
truths n a b = has a BoolType ∷ has b BoolType ∷ has n BoolType ∷ []

abbrev pub common_constraints : ℕ → BinaryOperator → ℕ → ℕ → List Constraint
common_constraints n (Arithmetic operator) a b = numbers n a b
common_constraints n (Bitwise operator) a b = numbers n a b
common_constraints n (Shift operator) a b = numbers n a b
common_constraints n (Comparison operator) a b = has a NumType ∷ has b NumType ∷ has n BoolType ∷ []
common_constraints n Equal a b = IsOf Value a ∷ Same a b ∷ has n BoolType ∷ []
common_constraints n NotEqual a b = IsOf Value a ∷ Same a b ∷ has n BoolType ∷ []
common_constraints n And a b = truths n a b
common_constraints n Or a b = truths n a b

-- a range has the type `()`, as no value has, so that it occurs only after `in`
abbrev pub spec_operator_constraints : ℕ → SpecOperator → ℕ → ℕ → List Constraint
spec_operator_constraints n (Common operator) a b = common_constraints n operator a b
spec_operator_constraints n Implies a b = truths n a b
spec_operator_constraints n Equivalent a b = truths n a b
spec_operator_constraints n Range a b = has a NumType ∷ has b NumType ∷ has n unit_type ∷ []

abbrev pub spec_binary_constraints : ℕ → SpecBinary → ℕ → ℕ → List Constraint
spec_binary_constraints n (Operator operator) a b = spec_operator_constraints n operator a b
spec_binary_constraints n Index a b = IsOf Value n ∷ MadeOf a vector_of n ∷ has b NumType ∷ []

-- ---- nodes with a list of parts

abbrev pub spec_given_constraints : ℕ → ℕ → List ℕ → List TypeData → List Constraint
spec_given_constraints first count [] [] = []
spec_given_constraints first count [] (p ∷ ps) = Barred ∷ []
spec_given_constraints first count (a ∷ more) [] = Barred ∷ []
spec_given_constraints first count (a ∷ more) (p ∷ ps) = Has a (Declared p first count) ∷ spec_given_constraints first count more ps

abbrev pub spec_signature_constraints : SpecSetting → ℕ → ℕ → Option Signature → List TypeData → List ℕ → List Constraint
spec_signature_constraints s n first None types parts = Barred ∷ []
spec_signature_constraints s n first (Some g) types parts =
    (spec_argument_constraints s first g.arity types ++ spec_given_constraints first g.arity parts g.parameters) ++ Has n (Declared g.result first g.arity) ∷ []

-- `old` occurs only in clauses that speak of two states
abbrev pub callee_constraints : Bool → SpecCallee → List Constraint
callee_constraints may_be_old (Builtin Old) = barred_unless may_be_old
callee_constraints may_be_old _ = []

abbrev pub spec_field_constraint : ℕ → ℕ → ℕ → Option TypeData → Constraint
spec_field_constraint first count p None = Barred
spec_field_constraint first count p (Some of) = Has p (Declared (spec_type of) first count)

abbrev pub spec_field_constraints : ℕ → Struct → List (List ℕ) → List ℕ → List Constraint
spec_field_constraints first s [] parts = []
spec_field_constraints first s (name ∷ names) [] = Barred ∷ []
spec_field_constraints first s (name ∷ names) (p ∷ parts) = spec_field_constraint first (length s.type_parameters) p (field_named s.fields name) ∷ spec_field_constraints first s names parts

abbrev pub spec_named_constraints : ℕ → Option Struct → List (List ℕ) → List ℕ → List Constraint
spec_named_constraints first None names parts = Barred ∷ []
spec_named_constraints first (Some s) names parts = barred_unless (names_each_once s.fields names) ++ spec_field_constraints first s names parts

-- the ranges are the first parts, the body is the last; the terms of triggers are between them
abbrev pub domain_ranges : Domain → ℕ
domain_ranges (Of t) = 0
domain_ranges In = 1

abbrev pub range_count : List Bind → ℕ
range_count binds = sum_by (λ b. domain_ranges b.domain) binds

abbrev pub quantified_parts : ℕ → List ℕ → List Constraint
quantified_parts ranges [] = Barred ∷ []
quantified_parts ranges (body ∷ []) = has body BoolType ∷ []
quantified_parts zero (term ∷ more ∷ rest) = IsOf Value term ∷ quantified_parts zero (more ∷ rest)
quantified_parts (suc ranges) (range ∷ more ∷ rest) = has range unit_type ∷ quantified_parts ranges (more ∷ rest)

abbrev pub spec_many_constraints : SpecSetting → ℕ → ℕ → SpecMany → List ℕ → List Constraint
spec_many_constraints s n first (Call c) parts =
    callee_constraints s.may_be_old c.callee
    ++ spec_signature_constraints s n first (spec_callee_signature s.program c.callee) (list_of_types c.types) parts
spec_many_constraints s n first (Pack fields) parts =
    let d = lookup (same_struct fields.owner) s.program.structs in
    (spec_argument_constraints s first (struct_arity d) (list_of_types fields.types) ++ spec_named_constraints first d fields.fields parts)
    ++ Has n (Applied fields.owner first (struct_arity d)) ∷ []
spec_many_constraints s n first (Quantified quantifier binds triggers) parts = has n BoolType ∷ quantified_parts (range_count binds) parts

-- ---- nodes

abbrev pub spec_constraints_at : SpecSetting → ℕ → ℕ → SpecNode → List Constraint
spec_constraints_at s n first (Leaf l) = spec_leaf_constraints s n l
spec_constraints_at s n first (Unary u a) = spec_unary_constraints n u a
spec_constraints_at s n first (Binary o a b) = spec_binary_constraints n o a b
spec_constraints_at s n first (If c a b) = has c BoolType ∷ IsOf Value n ∷ Same a n ∷ Same b n ∷ []
spec_constraints_at s n first (Many m parts) = spec_many_constraints s n first m parts

abbrev pub spec_constraints_from : SpecSetting → ℕ → List SpecNode → List (List Constraint)
spec_constraints_from s n [] = []
spec_constraints_from s n (node ∷ rest) = spec_constraints_at s n (spec_first_argument s n) node ∷ spec_constraints_from s (n + 1) rest

-- ---- variables of quantifiers, which are declared with their types

-- a variable ranges over the values of its type; one with `in` over whole numbers
abbrev pub variable_constraints : SpecSetting → ℕ → Domain → List Constraint
variable_constraints s v (Of t) =
    if is_proper_single s.program.structs t then has (variable_of_name s v) (read_there s.types t) ∷ [] else Barred ∷ []
variable_constraints s v In = has (variable_of_name s v) NumType ∷ []

abbrev pub bind_constraints : SpecSetting → Bind → List Constraint
bind_constraints s b = variable_constraints s b.variable b.domain

abbrev pub binds_in : SpecNode → List Bind
binds_in (Many (Quantified quantifier binds triggers) parts) = binds
binds_in _ = []

abbrev pub declared_variables : SpecSetting → List Constraint
declared_variables s = flat_map (bind_constraints s) (flat_map binds_in s.nodes)
