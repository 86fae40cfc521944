-- The values of constants: the results of running their initialisers. Source: The Move Book, "Integers", "Bool",
-- "Address", "Equality" and "Constants": an operation aborts if its result is no value of its type, if it divides by
-- zero, or if it shifts by at least the width; `&&` and `||` run their right side only if it is needed; a shift to the
-- left drops the bits beyond the width.
use Rattle.std.specs.Prelude.{ℕ, zero, suc, ◌+◌, ◌-◌, ◌*◌, ◌/◌, ◌%◌, ◌^◌, ◌==◌, Bool, true, false, not, ltb, List, length, Option, Some, None, slice_get, bit_and, bit_or, bit_xor, option_and_then, if◌then◌else◌}
use Rattle.std.specs.Option.{option_map}
use Rattle.base.specs.TypeData.{TypeData, IntType}
use Rattle.base.specs.declared.types.Width.{Width}
use Rattle.program.specs.declared.arena.Node.TheVariants.{Leaf, Unary, Binary}
use Rattle.program.specs.declared.operator.BinaryOperator.{BinaryOperator}
use Rattle.program.specs.declared.operator.BinaryOperator.TheVariants.{Arithmetic, Bitwise, Shift, Comparison, Equal, NotEqual, And, Or}
use Rattle.program.specs.declared.operator.Arithmetic.{Arithmetic as ArithmeticSign}
use Rattle.program.specs.declared.operator.Arithmetic.TheVariants.{Add, Subtract, Multiply, Divide, Remainder}
use Rattle.program.specs.declared.operator.Bitwise.{Bitwise as BitwiseSign}
use Rattle.program.specs.declared.operator.Bitwise.TheVariants.{BitAnd, BitOr, BitXor}
use Rattle.program.specs.declared.operator.Shift.{Shift as ShiftSign}
use Rattle.program.specs.declared.operator.Shift.TheVariants.{Left, Right}
use Rattle.program.specs.declared.operator.Comparison.{Comparison as ComparisonSign}
use Rattle.program.specs.declared.operator.Comparison.TheVariants.{Less, LessEqual, Greater, GreaterEqual}
use Rattle.program.specs.declared.code.CodeLeaf.TheVariants.{Number, Truth, Address}
use Rattle.program.specs.declared.code.CodeUnary.TheVariants.{Not, Cast}
use Rattle.program.specs.declared.code.CodeBinary.TheVariants.{Operator}
use Rattle.program.specs.CodeNodes.{CodeNode}
use Rattle.typing_rules.specs.declared.constant.ConstantValue.{ConstantValue}
use Rattle.typing_rules.specs.declared.constant.ConstantValue.TheVariants.{Integer, Boolean, Place}
use Rattle.typing_rules.specs.Fitting.{bits_of}

-- the number, if it is a value of the integer type of this width
abbrev pub kept : Width → ℕ → Option ConstantValue
kept w value = if ltb value (2 ^ bits_of w) then Some (Integer w value) else None

abbrev pub calculated : Width → ArithmeticSign → ℕ → ℕ → Option ConstantValue
calculated w Add x y = kept w (x + y)
calculated w Subtract x y = if ltb x y then None else kept w (x - y)
calculated w Multiply x y = kept w (x * y)
calculated w Divide x y = if y == 0 then None else kept w (x / y)
calculated w Remainder x y = if y == 0 then None else kept w (x % y)

abbrev pub bitwise : BitwiseSign → ℕ → ℕ → ℕ
bitwise BitAnd x y = bit_and x y
bitwise BitOr x y = bit_or x y
bitwise BitXor x y = bit_xor x y

abbrev pub shifted : Width → ShiftSign → ℕ → ℕ → Option ConstantValue
shifted w Left x y = if ltb y (bits_of w) then Some (Integer w ((x * 2 ^ y) % 2 ^ bits_of w)) else None
shifted w Right x y = if ltb y (bits_of w) then Some (Integer w (x / 2 ^ y)) else None

abbrev pub compared : ComparisonSign → ℕ → ℕ → Bool
compared Less x y = ltb x y
compared LessEqual x y = not (ltb y x)
compared Greater x y = ltb y x
compared GreaterEqual x y = not (ltb x y)

-- the two values are equal
abbrev pub is_same : ConstantValue → ConstantValue → Option Bool
is_same (Integer w x) (Integer v y) = Some (x == y)
is_same (Boolean x) (Boolean y) = Some (if x then y else not y)
is_same (Place x) (Place y) = Some (x == y)
is_same _ _ = None

abbrev pub truth : Option Bool → Option ConstantValue
truth b = option_map Boolean b

-- an operator that evaluates both its sides, at their values
abbrev pub operated : BinaryOperator → ConstantValue → ConstantValue → Option ConstantValue
operated (Arithmetic sign) (Integer w x) (Integer v y) = calculated w sign x y
operated (Bitwise sign) (Integer w x) (Integer v y) = Some (Integer w (bitwise sign x y))
operated (Shift sign) (Integer w x) (Integer v y) = shifted w sign x y
operated (Comparison sign) (Integer w x) (Integer v y) = Some (Boolean (compared sign x y))
operated Equal a b = truth (is_same a b)
operated NotEqual a b = truth (option_map not (is_same a b))
operated _ a b = None

-- the right side is evaluated only if the left side has this value
abbrev pub needed : Bool → Option ConstantValue → Option ConstantValue → Option ConstantValue
needed when (Some (Boolean true)) right = if when then right else Some (Boolean true)
needed when (Some (Boolean false)) right = if when then Some (Boolean false) else right
needed when _ right = None

abbrev pub joined : BinaryOperator → Option ConstantValue → Option ConstantValue → Option ConstantValue
joined And left right = needed true left right
joined Or left right = needed false left right
joined operator left right = option_and_then (λ a. option_and_then (operated operator a) right) left

abbrev pub negated : ConstantValue → Option ConstantValue
negated (Boolean b) = Some (Boolean (not b))
negated _ = None

abbrev pub cast_to : TypeData → ConstantValue → Option ConstantValue
cast_to (IntType w) (Integer v x) = kept w x
cast_to _ _ = None

-- a number of its integer type
abbrev pub typed_number : TypeData → ℕ → Option ConstantValue
typed_number (IntType w) value = kept w value
typed_number _ value = None

-- the value of a node of this type, given the values of its parts
abbrev pub node_value : (ℕ → Option ConstantValue) → TypeData → CodeNode → Option ConstantValue
node_value values of (Leaf (Number x)) = typed_number of x.value
node_value values of (Leaf (Truth value)) = Some (Boolean value)
node_value values of (Leaf (Address value)) = Some (Place value)
node_value values of (Unary Not a) = option_and_then negated (values a)
node_value values of (Unary (Cast to) a) = option_and_then (cast_to to) (values a)
node_value values of (Binary (Operator operator) a b) = joined operator (values a) (values b)
node_value values of _ = None

abbrev pub value_by : (ℕ → Option ConstantValue) → TypeData → Option CodeNode → Option ConstantValue
value_by values of None = None
value_by values of (Some node) = node_value values of node

-- the result of running the node with this number, where the nodes have these types; none if the run aborts. Parts come
-- before their whole, so at most so many levels are below.
abbrev pub value_at : List CodeNode → (ℕ → TypeData) → ℕ → ℕ → Option ConstantValue
value_at nodes t zero n = None
value_at nodes t (suc levels) n = value_by (value_at nodes t levels) (t n) (slice_get nodes n)

-- the result of running the initialiser
abbrev pub run_of : List CodeNode → (ℕ → TypeData) → Option ConstantValue
run_of nodes t = value_at nodes t (length nodes) (length nodes - 1)
