-- Runs of operators on integers and truth values.
use Rattle.std.proofs.Common.{◌≡◌, true, false, refl}
use Rattle.base.specs.declared.types.Width.TheVariants.{U8, U16, U32, U64, U128}
use Rattle.program.specs.Trees.{BinaryTree}
use Rattle.program.specs.declared.operator.Arithmetic.TheVariants.{Add, Subtract, Multiply, Divide, Remainder}
use Rattle.program.specs.declared.operator.Bitwise.TheVariants.{BitAnd, BitOr, BitXor}
use Rattle.program.specs.declared.operator.Shift.TheVariants.{Left, Right}
use Rattle.program.specs.declared.operator.Comparison.TheVariants.{Less, LessEqual, Greater, GreaterEqual}
use Rattle.fol.specs.Val.{same_value}
use Rattle.semantics.specs.Operations.{Negates, Calculates, Combines, Shifts, Compares, Casts, Equals, Differs}
use Rattle.semantics.specs.TypedTrees.{And, Or}
use Rattle.semantics.proofs.ExampleParts.{num, bool, works, joins, abort_by, pack_pair, code, gave, said, aborted, failed, WentWrong}

-- ---- arithmetic: `+ - * / %` abort without a code where the result does not fit, and on a divisor of 0

sum_of_u8 : code (joins (Calculates Add U8) (num 200) (num 55)) ≡ gave 255
sum_of_u8 = refl

sum_beyond_u8 : code (joins (Calculates Add U8) (num 200) (num 56)) ≡ failed
sum_beyond_u8 = refl

sum_beyond_u16 : code (joins (Calculates Add U16) (num 65535) (num 1)) ≡ failed
sum_beyond_u16 = refl

sum_beyond_u32 : code (joins (Calculates Add U32) (num 4294967295) (num 1)) ≡ failed
sum_beyond_u32 = refl

sum_of_u64 : code (joins (Calculates Add U64) (num 18446744073709551614) (num 1)) ≡ gave 18446744073709551615
sum_of_u64 = refl

sum_beyond_u64 : code (joins (Calculates Add U64) (num 18446744073709551615) (num 1)) ≡ failed
sum_beyond_u64 = refl

sum_beyond_u128 : code (joins (Calculates Add U128) (num 340282366920938463463374607431768211455) (num 1)) ≡ failed
sum_beyond_u128 = refl

difference : code (joins (Calculates Subtract U64) (num 7) (num 7)) ≡ gave 0
difference = refl

difference_below_zero : code (joins (Calculates Subtract U64) (num 7) (num 8)) ≡ failed
difference_below_zero = refl

product : code (joins (Calculates Multiply U8) (num 15) (num 17)) ≡ gave 255
product = refl

product_beyond : code (joins (Calculates Multiply U8) (num 16) (num 16)) ≡ failed
product_beyond = refl

quotient_rounds_down : code (joins (Calculates Divide U64) (num 7) (num 2)) ≡ gave 3
quotient_rounds_down = refl

quotient_by_zero : code (joins (Calculates Divide U64) (num 7) (num 0)) ≡ failed
quotient_by_zero = refl

remainder : code (joins (Calculates Remainder U64) (num 7) (num 4)) ≡ gave 3
remainder = refl

remainder_by_zero : code (joins (Calculates Remainder U64) (num 7) (num 0)) ≡ failed
remainder_by_zero = refl

-- ---- bits: `& | ^` never abort, a shift aborts from the width on, and to the left it drops the bits beyond the width

bits_and : code (joins (Combines BitAnd) (num 12) (num 10)) ≡ gave 8
bits_and = refl

bits_or : code (joins (Combines BitOr) (num 12) (num 10)) ≡ gave 14
bits_or = refl

bits_xor : code (joins (Combines BitXor) (num 12) (num 10)) ≡ gave 6
bits_xor = refl

left_shift : code (joins (Shifts Left U8) (num 3) (num 2)) ≡ gave 12
left_shift = refl

left_shift_drops_bits : code (joins (Shifts Left U8) (num 255) (num 4)) ≡ gave 240
left_shift_drops_bits = refl

left_shift_below_the_width : code (joins (Shifts Left U8) (num 3) (num 7)) ≡ gave 128
left_shift_below_the_width = refl

left_shift_at_the_width : code (joins (Shifts Left U8) (num 3) (num 8)) ≡ failed
left_shift_at_the_width = refl

right_shift : code (joins (Shifts Right U64) (num 13) (num 2)) ≡ gave 3
right_shift = refl

right_shift_below_the_width : code (joins (Shifts Right U64) (num 13) (num 63)) ≡ gave 0
right_shift_below_the_width = refl

right_shift_at_the_width : code (joins (Shifts Right U64) (num 13) (num 64)) ≡ failed
right_shift_at_the_width = refl

right_shift_of_u128 : code (joins (Shifts Right U128) (num 340282366920938463463374607431768211455) (num 127)) ≡ gave 1
right_shift_of_u128 = refl

-- ---- comparisons and casts

smaller : code (joins (Compares Less) (num 1) (num 2)) ≡ said true
smaller = refl

not_smaller_than_itself : code (joins (Compares Less) (num 2) (num 2)) ≡ said false
not_smaller_than_itself = refl

at_most_itself : code (joins (Compares LessEqual) (num 2) (num 2)) ≡ said true
at_most_itself = refl

greater : code (joins (Compares Greater) (num 2) (num 1)) ≡ said true
greater = refl

at_least : code (joins (Compares GreaterEqual) (num 1) (num 2)) ≡ said false
at_least = refl

cast_down : code (works (Casts U8) (num 255)) ≡ gave 255
cast_down = refl

cast_too_far_down : code (works (Casts U8) (num 256)) ≡ failed
cast_too_far_down = refl

cast_up : code (works (Casts U128) (num 256)) ≡ gave 256
cast_up = refl

-- ---- equality

equal_numbers : code (joins Equals (num 3) (num 3)) ≡ said true
unfolding same_value
equal_numbers = refl

different_numbers : code (joins Differs (num 3) (num 4)) ≡ said true
unfolding same_value
different_numbers = refl

equal_structs : code (joins Equals (pack_pair (num 1) (num 2)) (pack_pair (num 1) (num 2))) ≡ said true
unfolding same_value
equal_structs = refl

different_structs : code (joins Equals (pack_pair (num 1) (num 2)) (pack_pair (num 1) (num 3))) ≡ said false
unfolding same_value
different_structs = refl

equal_truths : code (joins Equals (bool false) (bool false)) ≡ said true
unfolding same_value
equal_truths = refl

-- ---- truth values: `&&` and `||` evaluate their right side only where it is needed

negation : code (works Negates (bool true)) ≡ said false
negation = refl

and_evaluates_both : code (BinaryTree And (bool true) (bool false)) ≡ said false
and_evaluates_both = refl

and_skips : code (BinaryTree And (bool false) (abort_by 1)) ≡ said false
and_skips = refl

and_does_not_skip : code (BinaryTree And (bool true) (abort_by 1)) ≡ aborted 1
and_does_not_skip = refl

or_evaluates_both : code (BinaryTree Or (bool false) (bool true)) ≡ said true
or_evaluates_both = refl

or_skips : code (BinaryTree Or (bool true) (abort_by 1)) ≡ said true
or_skips = refl

or_does_not_skip : code (BinaryTree Or (bool false) (abort_by 1)) ≡ aborted 1
or_does_not_skip = refl

-- ---- operands run from left to right

left_operand_first : code (joins (Calculates Add U64) (abort_by 1) (abort_by 2)) ≡ aborted 1
left_operand_first = refl

right_operand_before_the_operation : code (joins (Calculates Divide U64) (num 1) (abort_by 2)) ≡ aborted 2
right_operand_before_the_operation = refl

-- a truth value is no operand of a sum
sum_of_a_truth_value : code (joins (Calculates Add U64) (bool true) (num 2)) ≡ WentWrong
sum_of_a_truth_value = refl
