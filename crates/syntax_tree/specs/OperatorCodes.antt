-- The codes by which the logic stores operators and literals.
use base.Stored.{Gv, gnil, gnum, gcons, num}
use Rattle.std.specs.Prelude.{◌≡◌, [], ◌∷◌, refl}
use Rattle.base.specs.Codes.{pick}
use Rattle.syntax_tree.specs.LeafCodes.{head, tail, bool_code, bool_back, bool_back-code, span_code, span_back, numeral_code, numeral_back, numeral_back-code, address_code, address_back, address_back-code}
use Rattle.syntax_tree.specs.declared.operator.BinaryOperator.{BinaryOperator}
use Rattle.syntax_tree.specs.declared.operator.BinaryOperator.TheVariants.{Or, And, Equal, NotEqual, Less, LessEqual, Greater, GreaterEqual, BitOr, BitXor, BitAnd, ShiftLeft, ShiftRight, Add, Subtract, Multiply, Divide, Remainder}
use Rattle.syntax_tree.specs.declared.operator.UnaryOperator.{UnaryOperator}
use Rattle.syntax_tree.specs.declared.operator.UnaryOperator.TheVariants.{Not, Dereference, Borrow, BorrowMutable}
use Rattle.syntax_tree.specs.declared.operator.UseKind.{UseKind}
use Rattle.syntax_tree.specs.declared.operator.UseKind.TheVariants.{Move, Copy}
use Rattle.syntax_tree.specs.declared.literal.Literal.{Literal}
use Rattle.syntax_tree.specs.declared.literal.Literal.TheVariants.{Number, Truth, Address}

abbrev pub binary_operator_code : BinaryOperator → Gv
binary_operator_code Or = gnum 0
binary_operator_code And = gnum 1
binary_operator_code Equal = gnum 2
binary_operator_code NotEqual = gnum 3
binary_operator_code Less = gnum 4
binary_operator_code LessEqual = gnum 5
binary_operator_code Greater = gnum 6
binary_operator_code GreaterEqual = gnum 7
binary_operator_code BitOr = gnum 8
binary_operator_code BitXor = gnum 9
binary_operator_code BitAnd = gnum 10
binary_operator_code ShiftLeft = gnum 11
binary_operator_code ShiftRight = gnum 12
binary_operator_code Add = gnum 13
binary_operator_code Subtract = gnum 14
binary_operator_code Multiply = gnum 15
binary_operator_code Divide = gnum 16
binary_operator_code Remainder = gnum 17

abbrev pub binary_operator_back : Gv → BinaryOperator
binary_operator_back g = pick (num g) Or (Or ∷ And ∷ Equal ∷ NotEqual ∷ Less ∷ LessEqual ∷ Greater ∷ GreaterEqual ∷ BitOr ∷ BitXor ∷ BitAnd ∷ ShiftLeft ∷ ShiftRight ∷ Add ∷ Subtract ∷ Multiply ∷ Divide ∷ Remainder ∷ [])

pub binary_operator_back-code : (x : BinaryOperator) → binary_operator_back (binary_operator_code x) ≡ x
binary_operator_back-code Or = refl
binary_operator_back-code And = refl
binary_operator_back-code Equal = refl
binary_operator_back-code NotEqual = refl
binary_operator_back-code Less = refl
binary_operator_back-code LessEqual = refl
binary_operator_back-code Greater = refl
binary_operator_back-code GreaterEqual = refl
binary_operator_back-code BitOr = refl
binary_operator_back-code BitXor = refl
binary_operator_back-code BitAnd = refl
binary_operator_back-code ShiftLeft = refl
binary_operator_back-code ShiftRight = refl
binary_operator_back-code Add = refl
binary_operator_back-code Subtract = refl
binary_operator_back-code Multiply = refl
binary_operator_back-code Divide = refl
binary_operator_back-code Remainder = refl

abbrev pub unary_operator_code : UnaryOperator → Gv
unary_operator_code Not = gnum 0
unary_operator_code Dereference = gnum 1
unary_operator_code Borrow = gnum 2
unary_operator_code BorrowMutable = gnum 3

abbrev pub unary_operator_back : Gv → UnaryOperator
unary_operator_back g = pick (num g) Not (Not ∷ Dereference ∷ Borrow ∷ BorrowMutable ∷ [])

pub unary_operator_back-code : (x : UnaryOperator) → unary_operator_back (unary_operator_code x) ≡ x
unary_operator_back-code Not = refl
unary_operator_back-code Dereference = refl
unary_operator_back-code Borrow = refl
unary_operator_back-code BorrowMutable = refl

abbrev pub use_kind_code : UseKind → Gv
use_kind_code Move = gnum 0
use_kind_code Copy = gnum 1

abbrev pub use_kind_back : Gv → UseKind
use_kind_back g = pick (num g) Move (Move ∷ Copy ∷ [])

pub use_kind_back-code : (x : UseKind) → use_kind_back (use_kind_code x) ≡ x
use_kind_back-code Move = refl
use_kind_back-code Copy = refl

abbrev pub literal_code : Literal → Gv
literal_code (Number n) = gcons (gnum 0) (numeral_code n)
literal_code (Truth span value) = gcons (gnum 1) (gcons (span_code span) (bool_code value))
literal_code (Address span address) = gcons (gnum 2) (gcons (span_code span) (address_code address))

abbrev pub literal_back : Gv → Literal
literal_back g =
    pick (num (head g)) (Number (numeral_back gnil)) (Number (numeral_back (tail g)) ∷ Truth (span_back (head (tail g))) (bool_back (tail (tail g))) ∷ Address (span_back (head (tail g))) (address_back (tail (tail g))) ∷ [])

pub literal_back-code : (x : Literal) → literal_back (literal_code x) ≡ x
literal_back-code (Number n) = λ i. Number (numeral_back-code n i)
literal_back-code (Truth span value) = λ i. Truth span (bool_back-code value i)
literal_back-code (Address span address) = λ i. Address span (address_back-code address i)
