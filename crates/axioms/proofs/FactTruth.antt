-- The axioms of other forms are true.
use Rattle.std.proofs.Common.{◌≡◌, ℕ, zero, suc, ◌-◌, ◌*◌, ◌%◌, ◌^◌, ◌<◌, ℤ, pos, negsuc, ◌+ℤ◌, ◌-ℤ◌, ◌*ℤ◌, List, length, lit<, cond, Bool, true, false, not, ◌&&◌, refl, sym, ap, ◌∙◌, subst, arith}
use Rattle.std.specs.Prelude.{int_le, nat_lt, nat_le}
use Rattle.std.proofs.lemmas.Int.{ints}
use Rattle.std.proofs.lemmas.Bool.Decides.{nat_tests}
use Rattle.base.proofs.TruthValues.{true_both, true_not}
use Rattle.base.specs.TypeData.{TypeData, BoolType, IntType, NumType, AddressType, SignerType, VectorType, StructType, ParamType, SharedType, MutableType, TupleType}
use Rattle.base.specs.declared.types.Width.{Width}
use Rattle.base.specs.declared.types.Width.TheVariants.{U8, U16, U32, U64, U128}
use Rattle.fol.specs.declared.shapes.Shape.{Shape}
use Rattle.fol.specs.declared.operators.Binary.TheVariants.{Add, And, Div, Mod, Mul, Or, Shl, Shr, Sub, Xor}
use Rattle.fol.specs.declared.operators.Constant.{Constant}
use Rattle.fol.specs.declared.operators.Constant.TheVariants.{Max, Num, Wide}
use Rattle.fol.specs.declared.operators.Unary.TheVariants.{Len}
use Rattle.fol.specs.FormulaData.{TermData, ConstantTerm, UnaryTerm, BinaryTerm, FormulaData, IsFormula}
use Rattle.fol.specs.Val.{Val, NumberValue, TruthValue, NothingValue, same_value, same_value-equal}
use Rattle.fol.specs.Whole.{quotient, bitwise, shifted_left}
use Rattle.fol.specs.Operators.{number_of, items_of, constant_value, len_value, at_most}
use Rattle.fol.specs.TypedValue.{put_types, has_type, is_in_width}
use Rattle.fol.specs.Truth.{Interpretation, Assignment, value_of, truth_of}
use Rattle.axioms.specs.declared.axiom.Fact.{Fact}
use Rattle.axioms.specs.declared.axiom.Fact.TheVariants.{LenFromZero, QuotientBounds, MaxBound, Whole, EmptyTyped, ShlTyped, NothingUntyped, TruthsDiffer, TrueHolds, FalseFails, NothingFails}
use Rattle.axioms.specs.Facts.{IsWhole, IsFromOne, IsFact}

above_zero : (n : ℕ) → nat_le 0 n ≡ true
above_zero n = grind (arith, nat_tests)

-- ---- quotients

-- the numerals from 1
positive : (c : Constant) → IsFromOne c → (k : ℕ) × (constant_value c ≡ NumberValue (pos (suc k)))
positive (Num (pos (suc k))) h = (k, refl)
positive (Num (pos zero)) h = absurd (omega (arith, ints))
positive (Num (negsuc n)) h = absurd (omega (arith, ints))
positive Max h = (2 ^ 128 - 2, refl)
positive (Wide (suc k)) h = (k, refl)
positive (Wide zero) h = absurd (omega arith)
positive c h = absurd h

lower : (t : ℤ) (k : ℕ) → int_le (pos (suc k) *ℤ quotient t (pos (suc k))) t ≡ true
lower (pos a) k = grind (arith, ints)
lower (negsuc a) k = grind (arith, ints)

upper : (t : ℤ) (k : ℕ) → int_le t ((pos (suc k) *ℤ quotient t (pos (suc k)) +ℤ pos (suc k)) -ℤ pos 1) ≡ true
upper (pos a) k = grind (arith, ints)
upper (negsuc a) k = grind (arith, ints)

bounds : (v w : Val) (k : ℕ) → w ≡ NumberValue (pos (suc k)) → int_le (number_of w *ℤ quotient (number_of v) (number_of w)) (number_of v) && (int_le (number_of v) ((number_of w *ℤ quotient (number_of v) (number_of w) +ℤ number_of w) -ℤ pos 1) && true) ≡ true
bounds v w k e =
    subst (λ (x : Val). int_le (number_of x *ℤ quotient (number_of v) (number_of x)) (number_of v) && (int_le (number_of v) ((number_of x *ℤ quotient (number_of v) (number_of x) +ℤ number_of x) -ℤ pos 1) && true) ≡ true) (sym e) (true_both _ _ (lower (number_of v) k) (true_both _ _ (upper (number_of v) k) refl))

-- ---- widths

rest_below : (n k : ℕ) → 0 < k → nat_lt (n % k) k ≡ true
rest_below n k h = grind (arith, nat_tests)

shifted : (k n : ℕ) (b : Bool) → 0 < k → nat_lt (cond b (n % k) 0) k ≡ true
shifted k n true h = rest_below n k h
shifted k n false h = grind (arith, nat_tests)

shl_in_width : (w : Width) (a i : ℤ) → is_in_width w (bitwise (shifted_left w) a i) ≡ true
shl_in_width U8 (pos a) (pos i) = shifted (2 ^ 8) (a * 2 ^ i) (nat_lt i 8) (lit< tt)
shl_in_width U16 (pos a) (pos i) = shifted (2 ^ 16) (a * 2 ^ i) (nat_lt i 16) (lit< tt)
shl_in_width U32 (pos a) (pos i) = shifted (2 ^ 32) (a * 2 ^ i) (nat_lt i 32) (lit< tt)
shl_in_width U64 (pos a) (pos i) = shifted (2 ^ 64) (a * 2 ^ i) (nat_lt i 64) (lit< tt)
shl_in_width U128 (pos a) (pos i) = shifted (2 ^ 128) (a * 2 ^ i) (nat_lt i 128) (lit< tt)
shl_in_width U8 (pos a) (negsuc i) = refl
shl_in_width U16 (pos a) (negsuc i) = refl
shl_in_width U32 (pos a) (negsuc i) = refl
shl_in_width U64 (pos a) (negsuc i) = refl
shl_in_width U128 (pos a) (negsuc i) = refl
shl_in_width U8 (negsuc a) i = refl
shl_in_width U16 (negsuc a) i = refl
shl_in_width U32 (negsuc a) i = refl
shl_in_width U64 (negsuc a) i = refl
shl_in_width U128 (negsuc a) i = refl

-- ---- types

pub untyped : (shapes : List Shape) (a : TypeData) → has_type shapes a NothingValue ≡ false
untyped shapes BoolType = refl
untyped shapes (IntType w) = refl
untyped shapes NumType = refl
untyped shapes AddressType = refl
untyped shapes SignerType = refl
untyped shapes (VectorType a) = refl
untyped shapes (StructType s ts) = refl
untyped shapes (ParamType n) = refl
untyped shapes (SharedType a) = refl
untyped shapes (MutableType a) = refl
untyped shapes (TupleType ts) = refl

pub whole_true : (m : Interpretation) (s : Assignment) (t : TermData) → IsWhole t → truth_of m (IsFormula NumType t) s ≡ true
whole_true m s (ConstantTerm (Num i)) h = refl
whole_true m s (ConstantTerm Max) h = refl
whole_true m s (BinaryTerm Add t u) h = refl
whole_true m s (BinaryTerm Sub t u) h = refl
whole_true m s (BinaryTerm Mul t u) h = refl
whole_true m s (BinaryTerm Div t u) h = refl
whole_true m s (BinaryTerm Mod t u) h = refl
whole_true m s (BinaryTerm And t u) h = refl
whole_true m s (BinaryTerm Or t u) h = refl
whole_true m s (BinaryTerm Xor t u) h = refl
whole_true m s (BinaryTerm (Shl w) t u) h = refl
whole_true m s (BinaryTerm (Shr w) t u) h = refl
whole_true m s (UnaryTerm Len t) h = refl
whole_true m s t h = absurd h

len_from_zero : (v : Val) → at_most (NumberValue (pos 0)) (len_value v) ≡ true
len_from_zero v = above_zero (length (items_of v))

truths_differ : not (same_value (TruthValue true) (TruthValue false)) ≡ true
truths_differ = true_not _ (λ e. let f : TruthValue true ≡ TruthValue false = same_value-equal _ _ e in cc)

pub fact_true : (m : Interpretation) (s : Assignment) (name : Fact) (p : FormulaData) → IsFact name p → truth_of m p s ≡ true
fact_true m s LenFromZero p h = ap (λ x. truth_of m x s) h.1 ∙ len_from_zero (value_of m h.0 s)
fact_true m s QuotientBounds p h =
    let one = positive h.0 h.2 in
    ap (λ x. truth_of m x s) h.3 ∙ bounds (value_of m h.1 s) (constant_value h.0) one.0 one.1
fact_true m s MaxBound p h = ap (λ x. truth_of m x s) h
fact_true m s Whole p h = ap (λ x. truth_of m x s) h.2 ∙ whole_true m s h.0 h.1
fact_true m s EmptyTyped p h = ap (λ x. truth_of m x s) h.1
fact_true m s ShlTyped p h =
    ap (λ x. truth_of m x s) h.3 ∙ shl_in_width h.0 (number_of (value_of m h.1 s)) (number_of (value_of m h.2 s))
fact_true m s NothingUntyped p h = ap (λ x. truth_of m x s) h.1 ∙ ap not (untyped m.shapes (put_types m.named h.0))
fact_true m s TruthsDiffer p h = ap (λ x. truth_of m x s) h ∙ truths_differ
fact_true m s TrueHolds p h = ap (λ x. truth_of m x s) h
fact_true m s FalseFails p h = ap (λ x. truth_of m x s) h
fact_true m s NothingFails p h = ap (λ x. truth_of m x s) h
