-- The values of the operators of terms. Each operator is total: what is not a number is 0 in arithmetic, what is not a
-- vector is the empty one, and what is not a memory is the one without entries.
use Rattle.std.specs.Prelude.{ℕ, ◌-◌, ℤ, pos, negsuc, ◌+ℤ◌, ◌-ℤ◌, ◌*ℤ◌, int_le, Bool, true, false, List, ◌^◌, bit_and, bit_or, bit_xor, [], ◌∷◌, ◌++◌, length, take, slice_index_or, slice_set, if◌then◌else◌}
use Rattle.std.specs.Ordering.{match_ordering}
use Rattle.base.specs.TypeData.{TypeData}
use Rattle.base.specs.declared.types.Width.{Width}
use Rattle.fol.specs.declared.operators.Constant.{Constant}
use Rattle.fol.specs.declared.operators.Constant.TheVariants.{Num, Max, True, False, Nothing, Blank, Empty, Wide}
use Rattle.fol.specs.declared.operators.Unary.{Unary}
use Rattle.fol.specs.declared.operators.Unary.TheVariants.{Len, Pop}
use Rattle.fol.specs.declared.operators.Binary.{Binary}
use Rattle.fol.specs.declared.operators.Binary.TheVariants.{Add, Sub, Mul, Div, Mod, And, Or, Xor, Shl, Shr, Select, At, Push}
use Rattle.fol.specs.declared.operators.Ternary.{Ternary}
use Rattle.fol.specs.declared.operators.Ternary.TheVariants.{Store, Set}
use Rattle.fol.specs.declared.operators.Comparison.{Comparison}
use Rattle.fol.specs.declared.operators.Comparison.TheVariants.{Eq, Le}
use Rattle.fol.specs.Val.{Val, NumberValue, TruthValue, NothingValue, VectorValue, StructValue, MemoryValue, NoValues, Entries, NoEntries, MoreEntries, values_of, list_of_values, same_value, same_type, compare_values}
use Rattle.fol.specs.Whole.{quotient, remainder, bitwise, shifted_left, shifted_right}

-- ---- conversions of values

abbrev pub number_of : Val → ℤ
number_of (NumberValue z) = z
number_of (TruthValue b) = pos 0
number_of NothingValue = pos 0
number_of (VectorValue vs) = pos 0
number_of (StructValue t vs) = pos 0
number_of (MemoryValue es) = pos 0

abbrev pub items_of : Val → List Val
items_of (NumberValue z) = []
items_of (TruthValue b) = []
items_of NothingValue = []
items_of (VectorValue vs) = list_of_values vs
items_of (StructValue t vs) = []
items_of (MemoryValue es) = []

abbrev pub entries_of : Val → Entries
entries_of (NumberValue z) = NoEntries
entries_of (TruthValue b) = NoEntries
entries_of NothingValue = NoEntries
entries_of (VectorValue vs) = NoEntries
entries_of (StructValue t vs) = NoEntries
entries_of (MemoryValue es) = es

-- ---- numbers

abbrev pub add_values : Val → Val → Val
add_values v w = NumberValue (number_of v +ℤ number_of w)

abbrev pub sub_values : Val → Val → Val
sub_values v w = NumberValue (number_of v -ℤ number_of w)

abbrev pub mul_values : Val → Val → Val
mul_values v w = NumberValue (number_of v *ℤ number_of w)

abbrev pub div_values : Val → Val → Val
div_values v w = NumberValue (quotient (number_of v) (number_of w))

abbrev pub mod_values : Val → Val → Val
mod_values v w = NumberValue (remainder (number_of v) (number_of w))

-- a bitwise operator, which is 0 for a number below 0
abbrev pub bit_values : (ℕ → ℕ → ℕ) → Val → Val → Val
bit_values op v w = NumberValue (bitwise op (number_of v) (number_of w))

-- a left shift within a width, which is 0 for a number below 0, or by one
abbrev pub shl_values : Width → Val → Val → Val
shl_values w v i = NumberValue (bitwise (shifted_left w) (number_of v) (number_of i))

abbrev pub shr_values : Width → Val → Val → Val
shr_values w v i = NumberValue (bitwise (shifted_right w) (number_of v) (number_of i))

abbrev pub at_most : Val → Val → Bool
at_most v w = int_le (number_of v) (number_of w)

abbrev pub is_true : Val → Bool
is_true (TruthValue b) = b
is_true _ = false

-- ---- memories

abbrev entry_at : Entries → Val → Val
entry_at NoEntries key = NothingValue
entry_at (MoreEntries k v es) key = if same_value key k then v else entry_at es key

-- the entries with this one inserted in order, in place of one with the same key
abbrev with_entry : Entries → Val → Val → Entries
with_entry NoEntries key value = MoreEntries key value NoEntries
with_entry (MoreEntries k v es) key value = match_ordering (compare_values key k) (MoreEntries key value (MoreEntries k v es)) (MoreEntries key value es) (MoreEntries k v (with_entry es key value))

-- the value of the memory at the key, or `Nothing` where it has no entry
abbrev pub select_value : Val → Val → Val
select_value memory key = entry_at (entries_of memory) key

abbrev pub store_value : Val → Val → Val → Val
store_value memory key value = MemoryValue (with_entry (entries_of memory) key value)

-- ---- vectors

abbrev pub vector_of : List Val → Val
vector_of vs = VectorValue (values_of vs)

abbrev pub len_value : Val → Val
len_value v = NumberValue (pos (length (items_of v)))

abbrev item_at : List Val → Val → Val
item_at vs (NumberValue (pos n)) = slice_index_or vs n NothingValue
item_at vs (NumberValue (negsuc n)) = NothingValue
item_at vs _ = NothingValue

abbrev with_item : List Val → Val → Val → List Val
with_item vs (NumberValue (pos n)) item = slice_set vs n item
with_item vs (NumberValue (negsuc n)) item = vs
with_item vs _ item = vs

-- the item of the vector at an index, or `Nothing` where there is none
abbrev pub at_value : Val → Val → Val
at_value v i = item_at (items_of v) i

abbrev pub push_value : Val → Val → Val
push_value v item = vector_of (items_of v ++ item ∷ [])

-- without its last item, if it has one
abbrev pub pop_value : Val → Val
pop_value v = vector_of (take (length (items_of v) - 1) (items_of v))

-- the vector with this item at an index, or unchanged where there is no such index
abbrev pub set_value : Val → Val → Val → Val
set_value v i item = vector_of (with_item (items_of v) i item)

-- ---- structs

-- the field with this number of a struct of this type, or `Nothing` for any other value
abbrev pub field_value : TypeData → ℕ → Val → Val
field_value t k (StructValue u vs) = if same_type t u then slice_index_or (list_of_values vs) k NothingValue else NothingValue
field_value t k _ = NothingValue

-- the struct of this type with this value in that field; any other value is unchanged
abbrev pub set_field_value : TypeData → ℕ → Val → Val → Val
set_field_value t k (StructValue u vs) value = if same_type t u then StructValue u (values_of (slice_set (list_of_values vs) k value)) else StructValue u vs
set_field_value t k v value = v

-- ---- by operator

abbrev pub constant_value : Constant → Val
constant_value (Num i) = NumberValue i
constant_value Max = NumberValue (pos (2 ^ 128 - 1))
constant_value True = TruthValue true
constant_value False = TruthValue false
constant_value Nothing = NothingValue
constant_value Blank = MemoryValue NoEntries
constant_value Empty = VectorValue NoValues
constant_value (Wide u) = NumberValue (pos u)

abbrev pub unary_value : Unary → Val → Val
unary_value Len v = len_value v
unary_value Pop v = pop_value v

abbrev pub binary_value : Binary → Val → Val → Val
binary_value Add v w = add_values v w
binary_value Sub v w = sub_values v w
binary_value Mul v w = mul_values v w
binary_value Div v w = div_values v w
binary_value Mod v w = mod_values v w
binary_value And v w = bit_values bit_and v w
binary_value Or v w = bit_values bit_or v w
binary_value Xor v w = bit_values bit_xor v w
binary_value (Shl width) v i = shl_values width v i
binary_value (Shr width) v i = shr_values width v i
binary_value Select memory key = select_value memory key
binary_value At v i = at_value v i
binary_value Push v item = push_value v item

abbrev pub ternary_value : Ternary → Val → Val → Val → Val
ternary_value Store memory key value = store_value memory key value
ternary_value Set v i item = set_value v i item

abbrev pub compared : Comparison → Val → Val → Bool
compared Eq v w = same_value v w
compared Le v w = at_most v w
