-- What spec expressions say of two moments of a run: the value of each, under an interpretation, which decides what holds of all values.
-- Source: the Move Specification Language reference, "Type System", "Expressions", "Builtin Functions", "Pre and Post State",
-- "Quantifiers" and "Helper Functions".
use Rattle.std.specs.Prelude.{ℕ, zero, suc, ◌==◌, Bool, false, not, ◌&&◌, ◌||◌, int_le, int_lt, pos, negsuc, nat_lt, List, [], ◌∷◌, length, map, Option, Some, None, slice_index_or, bit_and, bit_or, bit_xor, if◌then◌else◌}
use Rattle.base.specs.TypeData.{TypeData}
use Rattle.base.specs.declared.types.FunctionId.{FunctionId}
use Rattle.base.specs.declared.types.StructId.{StructId}
use Rattle.base.specs.declared.types.Width.TheVariants.{U128}
use Rattle.program.specs.Trees.{Tree, LeafTree, UnaryTree, BinaryTree, IfTree, ManyTree, BadTree, Trees, NoTrees, MoreTrees}
use Rattle.program.specs.declared.operator.Arithmetic.{Arithmetic}
use Rattle.program.specs.declared.operator.Arithmetic.TheVariants.{Add, Subtract, Multiply, Divide, Remainder}
use Rattle.program.specs.declared.operator.Bitwise.{Bitwise}
use Rattle.program.specs.declared.operator.Bitwise.TheVariants.{BitAnd, BitOr, BitXor}
use Rattle.program.specs.declared.operator.Shift.{Shift}
use Rattle.program.specs.declared.operator.Shift.TheVariants.{Left, Right}
use Rattle.program.specs.declared.operator.Comparison.{Comparison}
use Rattle.program.specs.declared.operator.Comparison.TheVariants.{Less, LessEqual, Greater, GreaterEqual}
use Rattle.program.specs.declared.operator.BinaryOperator.{BinaryOperator}
use Rattle.program.specs.declared.operator.BinaryOperator.TheVariants.{Arithmetic as arithmetic, Bitwise as bitwise, Shift as shift, Comparison as comparison, Equal, NotEqual, And, Or}
use Rattle.program.specs.declared.operator.SpecOperator.{SpecOperator}
use Rattle.program.specs.declared.operator.SpecOperator.TheVariants.{Common, Implies, Equivalent, Range}
use Rattle.program.specs.declared.operator.Quantifier.{Quantifier}
use Rattle.program.specs.declared.operator.Quantifier.TheVariants.{ForAll, Exists}
use Rattle.program.specs.declared.spec.SpecBinary.{SpecBinary}
use Rattle.program.specs.declared.spec.SpecBinary.TheVariants.{Operator, Index}
use Rattle.program.specs.declared.spec.SpecName.{SpecName}
use Rattle.program.specs.declared.spec.SpecName.TheVariants.{Parameter, Local, Result, Let, Variable, Field, Quantified}
use Rattle.fol.specs.Val.{Val, NumberValue, TruthValue, NothingValue, same_value}
use Rattle.fol.specs.Operators.{number_of, items_of, is_true, add_values, sub_values, mul_values, div_values, mod_values, bit_values, shl_values, shr_values, len_value, at_value, select_value, vector_of, at_most}
use Rattle.fol.specs.TypedValue.{put_types, has_type}
use Rattle.fol.specs.Truth.{Interpretation}
use Rattle.semantics.specs.States.{struct_value, field_of_struct}
use Rattle.semantics.specs.Operations.{in_order, named_by}

-- ---- typed spec expressions

pub data SpecLeafForm : Type 0 where
  Value : Val → SpecLeafForm
  Named : SpecName → SpecLeafForm

pub data SpecUnaryForm : Type 0 where
  Denies : SpecUnaryForm
  -- the field with this number of such a struct
  FieldOf : StructId → ℕ → SpecUnaryForm

-- what a quantified variable ranges over: the values of a type, or the numbers of a range
pub data Over : Type 0 where
  Values : TypeData → Over
  Numbers : Over

pub record Bound : Type 0 where
  pub variable : ℕ
  pub over : Over

pub data SpecManyForm : Type 0 where
  Old : SpecManyForm
  LengthOf : SpecManyForm
  InRange : SpecManyForm
  AddressOf : SpecManyForm
  ExistsAt : TypeData → SpecManyForm
  GlobalAt : TypeData → SpecManyForm
  -- a struct, with the number of the part for each field, in the order of the fields
  Packed : StructId → List ℕ → SpecManyForm
  -- a spec function, with type arguments
  Invokes : FunctionId → List TypeData → SpecManyForm
  -- the parts are the ranges of the variables, the terms of triggers, and the body
  Quantifies : Quantifier → List Bound → SpecManyForm

abbrev pub SpecTree : Type 0
SpecTree = Tree SpecLeafForm SpecUnaryForm SpecBinary SpecManyForm

abbrev pub SpecTrees : Type 0
SpecTrees = Trees SpecLeafForm SpecUnaryForm SpecBinary SpecManyForm

-- ---- moments

-- what names stand for, and what is stored
pub record Moment : Type 0 where
  pub name : SpecName → Val
  pub storage : TypeData → Val

-- the moment of which an expression speaks, the one of which it speaks inside `old`, and the values of quantified variables
pub record View : Type 0 where
  pub now : Moment
  pub old : Moment
  pub bound : ℕ → Val

-- the value of an expression in each view
abbrev pub Meaning : Type 0
Meaning = View → Val

abbrev pub in_the_past : View → View
in_the_past v = record v { now = v.old }

abbrev pub with_bound : View → ℕ → Val → View
with_bound v n x = record v { bound = λ k. if k == n then x else v.bound k }

abbrev pub named_value : View → SpecName → Val
named_value v (Quantified n) = v.bound n
named_value v (Parameter n) = v.now.name (Parameter n)
named_value v (Local n) = v.now.name (Local n)
named_value v (Result n) = v.now.name (Result n)
named_value v (Let n) = v.now.name (Let n)
named_value v (Variable n) = v.now.name (Variable n)
named_value v (Field n) = v.now.name (Field n)

-- ---- operators. Numbers are of any size. In arithmetic and order what is no number counts as 0, and what is not true as false.

abbrev pub spec_calculated : Arithmetic → Val → Val → Val
spec_calculated Add v w = add_values v w
spec_calculated Subtract v w = sub_values v w
spec_calculated Multiply v w = mul_values v w
spec_calculated Divide v w = div_values v w
spec_calculated Remainder v w = mod_values v w

abbrev pub spec_combined : Bitwise → Val → Val → Val
spec_combined BitAnd v w = bit_values bit_and v w
spec_combined BitOr v w = bit_values bit_or v w
spec_combined BitXor v w = bit_values bit_xor v w

-- shifts are those of `u128`
abbrev pub spec_shifted : Shift → Val → Val → Val
spec_shifted Left v w = shl_values U128 v w
spec_shifted Right v w = shr_values U128 v w

abbrev pub spec_compares : Comparison → Val → Val → Bool
spec_compares Less v w = not (at_most w v)
spec_compares LessEqual v w = at_most v w
spec_compares Greater v w = not (at_most v w)
spec_compares GreaterEqual v w = at_most w v

abbrev pub common_operated : BinaryOperator → Val → Val → Val
common_operated (arithmetic operator) v w = spec_calculated operator v w
common_operated (bitwise operator) v w = spec_combined operator v w
common_operated (shift operator) v w = spec_shifted operator v w
common_operated (comparison operator) v w = TruthValue (spec_compares operator v w)
common_operated Equal v w = TruthValue (same_value v w)
common_operated NotEqual v w = TruthValue (not (same_value v w))
common_operated And v w = TruthValue (is_true v && is_true w)
common_operated Or v w = TruthValue (is_true v || is_true w)

-- a range is the pair of its bounds
abbrev pub spec_operated : SpecOperator → Val → Val → Val
spec_operated (Common operator) v w = common_operated operator v w
spec_operated Implies v w = TruthValue (not (is_true v) || is_true w)
spec_operated Equivalent v w = TruthValue (same_value (TruthValue (is_true v)) (TruthValue (is_true w)))
spec_operated Range v w = vector_of (v ∷ w ∷ [])

abbrev pub spec_joined : SpecBinary → Val → Val → Val
spec_joined (Operator operator) v w = spec_operated operator v w
spec_joined Index v w = at_value v w

abbrev pub spec_unary : SpecUnaryForm → Val → Val
spec_unary Denies v = TruthValue (not (is_true v))
spec_unary (FieldOf s k) v = field_of_struct s k v

abbrev pub item : List Val → ℕ → Val
item vs n = slice_index_or vs n NothingValue

abbrev pub is_index : List Val → Val → Bool
is_index vs (NumberValue (pos n)) = nat_lt n (length vs)
is_index vs (NumberValue (negsuc n)) = false
is_index vs _ = false

-- ---- quantifiers

-- a whole number from the first bound on, and below the second
abbrev pub in_bounds : Val → Val → Bool
in_bounds range (NumberValue z) = int_le (number_of (item (items_of range) 0)) z && int_lt z (number_of (item (items_of range) 1))
in_bounds range _ = false

-- all values of the domain have the property, or some have
abbrev pub quantified : Quantifier → ((Val → Bool) → Bool) → (Val → Bool) → (Val → Bool) → Bool
quantified ForAll all domain f = all (λ v. not (domain v) || f v)
quantified Exists all domain f = not (all (λ v. not (domain v && f v)))

abbrev pub last_value : List Meaning → Meaning
last_value [] v = NothingValue
last_value (m ∷ []) v = m v
last_value (m ∷ n ∷ ms) v = last_value (n ∷ ms) v

-- one variable, and then the others; a range is the first of the parts
abbrev pub quantified_over : Interpretation → Quantifier → ℕ → Over → List Meaning → (List Meaning → View → Bool) → View → Bool
quantified_over m q n (Values t) parts rest v = quantified q m.all (has_type m.shapes (put_types m.named t)) (λ x. rest parts (with_bound v n x))
quantified_over m q n Numbers [] rest v = false
quantified_over m q n Numbers (range ∷ parts) rest v = quantified q m.all (in_bounds (range v)) (λ x. rest parts (with_bound v n x))

-- variable by variable; a range may speak of the variables before it, and triggers say nothing
abbrev pub quantify : Interpretation → Quantifier → List Bound → List Meaning → View → Bool
quantify m q [] parts v = is_true (last_value parts v)
quantify m q (b ∷ bs) parts v = quantified_over m q b.variable b.over parts (quantify m q bs) v

-- ---- trees

-- what spec functions say of these values
abbrev pub Invocations : Type 0
Invocations = Interpretation → FunctionId → List Val → Meaning

-- the interpretation in which type parameters name these type arguments
abbrev pub with_arguments : Interpretation → List TypeData → Interpretation
with_arguments m ts = record m { named = named_by m.named ts }

abbrev pub of_one : (Val → Val) → List Meaning → Meaning
of_one f (a ∷ []) v = f (a v)
of_one f _ v = NothingValue

abbrev pub all_values : List Meaning → View → List Val
all_values ms v = map (λ a. a v) ms

abbrev pub resource : Interpretation → TypeData → View → Val → Val
resource m t v a = select_value (v.now.storage (put_types m.named t)) a

abbrev pub is_present : Val → Bool
is_present v = not (same_value v NothingValue)

abbrev pub many_meaning : Invocations → Interpretation → SpecManyForm → List Meaning → Meaning
many_meaning calls m Old parts v = of_one (λ x. x) parts (in_the_past v)
many_meaning calls m LengthOf parts v = of_one len_value parts v
many_meaning calls m InRange parts v = TruthValue (is_index (items_of (item (all_values parts v) 0)) (item (all_values parts v) 1))
many_meaning calls m AddressOf parts v = of_one (λ x. x) parts v
many_meaning calls m (ExistsAt t) parts v = of_one (λ a. TruthValue (is_present (resource m t v a))) parts v
many_meaning calls m (GlobalAt t) parts v = of_one (resource m t v) parts v
many_meaning calls m (Packed s ns) parts v = struct_value s (in_order ns (all_values parts v))
many_meaning calls m (Invokes f ts) parts v = calls (with_arguments m ts) f (all_values parts v) v
many_meaning calls m (Quantifies q bounds) parts v = TruthValue (quantify m q bounds parts v)

abbrev pub leaf_meaning : SpecLeafForm → Meaning
leaf_meaning (Value x) v = x
leaf_meaning (Named name) v = named_value v name

abbrev mutual
  pub meaning : Invocations → Interpretation → SpecTree → Meaning
  meaning calls m (LeafTree l) = leaf_meaning l
  meaning calls m (UnaryTree u a) = λ v. spec_unary u (meaning calls m a v)
  meaning calls m (BinaryTree o a b) = λ v. spec_joined o (meaning calls m a v) (meaning calls m b v)
  meaning calls m (IfTree c a b) = λ v. if is_true (meaning calls m c v) then meaning calls m a v else meaning calls m b v
  meaning calls m (ManyTree o ts) = many_meaning calls m o (meanings calls m ts)
  meaning calls m BadTree = λ v. NothingValue

  pub meanings : Invocations → Interpretation → SpecTrees → List Meaning
  meanings calls m NoTrees = []
  meanings calls m (MoreTrees t ts) = meaning calls m t ∷ meanings calls m ts

-- ---- spec functions, none of which leads back to itself

abbrev pub SpecFunctions : Type 0
SpecFunctions = FunctionId → Option SpecTree

abbrev pub argument_name : List Val → SpecName → Val
argument_name xs (Parameter k) = item xs k
argument_name xs _ = NothingValue

-- the parameters stand for these values, and what is stored is what is stored in the view of the call
abbrev pub invoked : List Val → View → View
invoked xs v = record {
  now = record { name = argument_name xs; storage = v.now.storage };
  old = record { name = argument_name xs; storage = v.old.storage };
  bound = λ n. NothingValue;
}

abbrev pub body_meaning : Invocations → Interpretation → Option SpecTree → List Val → Meaning
body_meaning calls m None xs = λ v. NothingValue
body_meaning calls m (Some body) xs = λ v. meaning calls m body (invoked xs v)

-- calls that lead over at most so many others
abbrev pub invocations : SpecFunctions → ℕ → Invocations
invocations functions zero m f xs v = NothingValue
invocations functions (suc n) m f xs v = body_meaning (invocations functions n) m (functions f) xs v
