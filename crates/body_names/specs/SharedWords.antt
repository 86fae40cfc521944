-- The meaning of the words and signs that code and spec expressions share. Source: The Move Book, "Integers" and
-- "Structs".
use Rattle.std.specs.Prelude.{ℕ, List, Option, Some, None, option_and_then}
use Rattle.std.specs.Option.{option_map}
use Rattle.base.specs.declared.types.Width.{Width}
use Rattle.base.specs.declared.types.Width.TheVariants.{U8 as width_8, U16 as width_16, U32 as width_32, U64 as width_64, U128 as width_128}
use Rattle.tokens.specs.declared.token.NumberLiteral.{NumberLiteral}
use Rattle.tokens.specs.declared.token.NumberSuffix.{NumberSuffix}
use Rattle.tokens.specs.declared.token.NumberSuffix.TheVariants.{Absent, U8, U16, U32, U64, U128, U256}
use Rattle.syntax_tree.specs.declared.operator.BinaryOperator.{BinaryOperator as SourceOperator}
use Rattle.syntax_tree.specs.declared.operator.BinaryOperator.TheVariants.{Or as or_sign, And as and_sign, Equal as equal_sign, NotEqual as not_equal_sign, Less as less_sign, LessEqual as less_equal_sign, Greater as greater_sign, GreaterEqual as greater_equal_sign, BitOr as bit_or_sign, BitXor as bit_xor_sign, BitAnd as bit_and_sign, ShiftLeft as shift_left_sign, ShiftRight as shift_right_sign, Add as add_sign, Subtract as subtract_sign, Multiply as multiply_sign, Divide as divide_sign, Remainder as remainder_sign}
use Rattle.syntax_tree.specs.declared.path.Path.{Path}
use Rattle.syntax_tree.specs.TypeTreeData.{MaybeArgumentsData}
use Rattle.program.specs.declared.operator.BinaryOperator.{BinaryOperator}
use Rattle.program.specs.declared.operator.BinaryOperator.TheVariants.{Arithmetic, Bitwise, Shift, Comparison, Equal, NotEqual, And, Or}
use Rattle.program.specs.declared.operator.Arithmetic.TheVariants.{Add, Subtract, Multiply, Divide, Remainder}
use Rattle.program.specs.declared.operator.Bitwise.TheVariants.{BitAnd, BitOr, BitXor}
use Rattle.program.specs.declared.operator.Shift.TheVariants.{Left, Right}
use Rattle.program.specs.declared.operator.Comparison.TheVariants.{Less, LessEqual, Greater, GreaterEqual}
use Rattle.program.specs.declared.code.Number.{Number}
use Rattle.program.specs.declared.code.NamedFields.{NamedFields}
use Rattle.scopes.specs.Meanings.{struct_meaning}
use Rattle.scopes.specs.TypeMeanings.{TypeScope, arguments_meaning}

-- ---- operators

abbrev pub operator_of : SourceOperator → BinaryOperator
operator_of or_sign = Or
operator_of and_sign = And
operator_of equal_sign = Equal
operator_of not_equal_sign = NotEqual
operator_of less_sign = Comparison Less
operator_of less_equal_sign = Comparison LessEqual
operator_of greater_sign = Comparison Greater
operator_of greater_equal_sign = Comparison GreaterEqual
operator_of bit_or_sign = Bitwise BitOr
operator_of bit_xor_sign = Bitwise BitXor
operator_of bit_and_sign = Bitwise BitAnd
operator_of shift_left_sign = Shift Left
operator_of shift_right_sign = Shift Right
operator_of add_sign = Arithmetic Add
operator_of subtract_sign = Arithmetic Subtract
operator_of multiply_sign = Arithmetic Multiply
operator_of divide_sign = Arithmetic Divide
operator_of remainder_sign = Arithmetic Remainder

-- ---- numbers

-- the type that a suffix names; numbers of type `u256` are not in the profile
abbrev pub suffix_meaning : NumberSuffix → Option (Option Width)
suffix_meaning Absent = Some None
suffix_meaning U8 = Some (Some width_8)
suffix_meaning U16 = Some (Some width_16)
suffix_meaning U32 = Some (Some width_32)
suffix_meaning U64 = Some (Some width_64)
suffix_meaning U128 = Some (Some width_128)
suffix_meaning U256 = None

unfoldable pub number_meaning : NumberLiteral → Option Number
number_meaning n = option_map (λ width. record { value = n.value; width = width }) (suffix_meaning n.suffix)

-- ---- packs

-- a struct with the written fields, in order
unfoldable pub fields_meaning : TypeScope → Path → MaybeArgumentsData → List (List ℕ) → Option NamedFields
fields_meaning w path arguments fields =
    option_and_then (λ owner. option_map (λ types. record { owner = owner; types = types; fields = fields }) (arguments_meaning w arguments))
    (struct_meaning w.environment path)
