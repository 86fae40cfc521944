-- The instances that terms trigger, except for packs and field updates, and those that are always triggered, as whole
-- lists.
use Rattle.std.specs.Prelude.{zero, suc, ◌^◌, Bool, true, false, pos, negsuc, List, [], ◌∷◌, ◌++◌, is_some}
use Rattle.base.specs.TypeData.{IntType}
use Rattle.base.specs.declared.types.Width.{Width}
use Rattle.base.specs.declared.types.Width.TheVariants.{U8, U16, U32, U64, U128}
use Rattle.fol.specs.declared.operators.Constant.{Constant}
use Rattle.fol.specs.declared.operators.Constant.TheVariants.{Num, Max, True, False, Nothing, Blank, Empty, Wide}
use Rattle.fol.specs.declared.operators.Unary.{Unary}
use Rattle.fol.specs.declared.operators.Unary.TheVariants.{Len, Pop}
use Rattle.fol.specs.declared.operators.Binary.{Binary}
use Rattle.fol.specs.declared.operators.Binary.TheVariants.{Add, Sub, Mul, Div, Mod, And, Or, Xor, Shl, Shr, Select, At, Push}
use Rattle.fol.specs.declared.operators.Ternary.{Ternary}
use Rattle.fol.specs.declared.operators.Ternary.TheVariants.{Store, Set}
use Rattle.fol.specs.FormulaData.{TermData, NumTerm, ConstantTerm, UnaryTerm, BinaryTerm, TernaryTerm, MaxTerm, NothingTerm, EmptyTerm, LenTerm, PopTerm, AddTerm, SubTerm, MulTerm, DivTerm, ModTerm, SelectTerm, AtTerm, PushTerm, ShlTerm, ShrTerm, StoreTerm, SetTerm, IfTerm, FormulaData, EqFormula, LeFormula, IsFormula, NotFormula, ImpliesFormula, PackTerm, SetFieldTerm, TrueTerm, FalseTerm, HoldsFormula}
use Rattle.axioms.specs.declared.axiom.Axiom.{Axiom}
use Rattle.axioms.specs.declared.axiom.Axiom.TheVariants.{Equal, EqualUnless, Cases, Implied, Plain}
use Rattle.axioms.specs.declared.axiom.Equation.TheVariants.{SelectStored, SelectBlank, LenEmpty, LenPush, AtPushed, LenSet, Remainder, DivByZero, MulTurned, MulByOne, MulByZero}
use Rattle.axioms.specs.declared.axiom.Exception.TheVariants.{LenPopped}
use Rattle.axioms.specs.declared.axiom.Alternative.TheVariants.{AtSet, Choice}
use Rattle.axioms.specs.declared.axiom.Rule.TheVariants.{BitsTyped, ShrTyped}
use Rattle.axioms.specs.declared.axiom.Fact.TheVariants.{LenFromZero, QuotientBounds, MaxBound, Whole, ShlTyped, TruthsDiffer, TrueHolds, FalseFails, NothingFails}
use Rattle.axioms.specs.Forms.{number, LessFormula, DifferFormula, WholeFormula}
use Rattle.axioms.specs.Facts.{multiple}
use Rattle.certificates.specs.Linear.{numeral_of}
use Rattle.certificates.specs.Table.{some_of, all_of, unless}
use Rattle.axiom_instances.specs.declared.reading.DivisorKind.{DivisorKind}
use Rattle.axiom_instances.specs.declared.reading.DivisorKind.TheVariants.{IsZero, IsFromOne, IsOther}
use Rattle.axiom_instances.specs.Lists.{Triggered}

-- an instance that is made from this term
abbrev pub row : Axiom → TermData → FormulaData → Triggered
row name t p = record { name = name; terms = t ∷ []; formula = p }

abbrev pub whole_row : TermData → Triggered
whole_row t = row (Plain Whole) t (WholeFormula t)

-- ---- terms without parts

abbrev pub constant_rows : Constant → List Triggered
constant_rows (Num i) = whole_row (NumTerm i) ∷ []
constant_rows Max = row (Plain MaxBound) MaxTerm (LeFormula (number (2 ^ 126)) MaxTerm) ∷ whole_row MaxTerm ∷ []
constant_rows Empty = row (Equal LenEmpty) EmptyTerm (EqFormula (LenTerm EmptyTerm) (number 0)) ∷ []
constant_rows True = []
constant_rows False = []
constant_rows Nothing = []
constant_rows Blank = []
constant_rows (Wide u) = []

-- ---- terms of one part

abbrev pub unary_rows : Unary → TermData → List Triggered
unary_rows Len v = row (Plain LenFromZero) (LenTerm v) (LeFormula (number 0) (LenTerm v)) ∷ whole_row (LenTerm v) ∷ []
unary_rows Pop v =
    row (EqualUnless LenPopped) (PopTerm v) (unless (LeFormula (LenTerm v) (number 0)) (LenTerm (PopTerm v)) (SubTerm (LenTerm v) (number 1))) ∷ []

-- ---- terms of two parts

abbrev pub blank_row : TermData → TermData → Triggered
blank_row m k = row (Equal SelectBlank) (SelectTerm m k) (EqFormula (SelectTerm m k) NothingTerm)

-- whether a term is the memory without entries
abbrev pub is_blank : TermData → Bool
is_blank (ConstantTerm Blank) = true
is_blank _ = false

abbrev pub select_rows : Bool → TermData → TermData → List Triggered
select_rows true m k = blank_row m k ∷ []
select_rows false m k = []

abbrev pub push_rows : TermData → TermData → List Triggered
push_rows v x =
    row (Equal LenPush) (PushTerm v x) (EqFormula (LenTerm (PushTerm v x)) (AddTerm (LenTerm v) (number 1))) ∷ row (Equal AtPushed) (PushTerm v x) (EqFormula (AtTerm (PushTerm v x) (LenTerm v)) x) ∷ []

abbrev pub remainder_row : TermData → TermData → Triggered
remainder_row t u = row (Equal Remainder) (ModTerm t u) (EqFormula (ModTerm t u) (SubTerm t (MulTerm u (DivTerm t u))))

abbrev pub zero_row : TermData → TermData → Triggered
zero_row t d = row (Equal DivByZero) (DivTerm t d) (EqFormula (DivTerm t d) d)

abbrev pub bounds_row : TermData → TermData → Triggered
bounds_row t d =
    row (Plain QuotientBounds) (DivTerm t d) (all_of (LeFormula (multiple d t) t ∷ LeFormula t (SubTerm (AddTerm (multiple d t) d) (number 1)) ∷ []))

-- whether a constant is 0, a numeral from 1, or something else
abbrev pub divisor_kind : Constant → DivisorKind
divisor_kind (Num (pos zero)) = IsZero
divisor_kind (Num (pos (suc n))) = IsFromOne
divisor_kind (Num (negsuc n)) = IsOther
divisor_kind Max = IsFromOne
divisor_kind (Wide zero) = IsOther
divisor_kind (Wide (suc n)) = IsFromOne
divisor_kind True = IsOther
divisor_kind False = IsOther
divisor_kind Nothing = IsOther
divisor_kind Blank = IsOther
divisor_kind Empty = IsOther

abbrev pub divisor_of : TermData → DivisorKind
divisor_of (ConstantTerm c) = divisor_kind c
divisor_of _ = IsOther

-- the instances by a divisor of this kind
abbrev pub quotient_rows : DivisorKind → TermData → TermData → List Triggered
quotient_rows IsZero t d = zero_row t d ∷ []
quotient_rows IsFromOne t d = bounds_row t d ∷ []
quotient_rows IsOther t d = []

abbrev pub turned_rows : TermData → TermData → List Triggered
turned_rows t u =
    row (Equal MulTurned) (MulTerm t u) (EqFormula (MulTerm t u) (MulTerm u t)) ∷ row (Equal MulByOne) (MulTerm t u) (EqFormula (MulTerm t (number 1)) (AddTerm t (number 0))) ∷ row (Equal MulByZero) (MulTerm t u) (EqFormula (MulTerm t (number 0)) (number 0)) ∷ []

-- the instances if neither factor is a numeral
abbrev pub product_rows : Bool → Bool → TermData → TermData → List Triggered
product_rows true q t u = []
product_rows false true t u = []
product_rows false false t u = turned_rows t u

abbrev pub bits_row : Width → Binary → TermData → TermData → Triggered
bits_row w o t u =
    row (Implied BitsTyped) (BinaryTerm o t u) (ImpliesFormula (all_of (IsFormula (IntType w) t ∷ IsFormula (IntType w) u ∷ [])) (IsFormula (IntType w) (BinaryTerm o t u)))

abbrev pub bits_rows : Binary → TermData → TermData → List Triggered
bits_rows o t u = bits_row U8 o t u ∷ bits_row U16 o t u ∷ bits_row U32 o t u ∷ bits_row U64 o t u ∷ bits_row U128 o t u ∷ []

abbrev pub shl_row : Width → TermData → TermData → Triggered
shl_row w t u = row (Plain ShlTyped) (ShlTerm w t u) (IsFormula (IntType w) (ShlTerm w t u))

abbrev pub shr_row : Width → TermData → TermData → Triggered
shr_row w t u =
    row (Implied ShrTyped) (ShrTerm w t u) (ImpliesFormula (IsFormula (IntType w) t) (IsFormula (IntType w) (ShrTerm w t u)))

-- the instances by the operator alone
abbrev pub operator_rows : Binary → TermData → TermData → List Triggered
operator_rows Select t u = select_rows (is_blank t) t u
operator_rows Push t u = push_rows t u
operator_rows Mul t u = product_rows (is_some (numeral_of t)) (is_some (numeral_of u)) t u
operator_rows Div t u = quotient_rows (divisor_of u) t u
operator_rows Mod t u = remainder_row t u ∷ []
operator_rows And t u = bits_rows And t u
operator_rows Or t u = bits_rows Or t u
operator_rows Xor t u = bits_rows Xor t u
operator_rows (Shl w) t u = shl_row w t u ∷ []
operator_rows (Shr w) t u = shr_row w t u ∷ []
operator_rows Add t u = []
operator_rows Sub t u = []
operator_rows At t u = []

-- whether the values of an operator are whole numbers
abbrev pub gives_whole : Binary → Bool
gives_whole Select = false
gives_whole At = false
gives_whole Push = false
gives_whole _ = true

abbrev pub whole_rows : Bool → TermData → List Triggered
whole_rows true t = whole_row t ∷ []
whole_rows false t = []

abbrev pub binary_rows : Binary → TermData → TermData → List Triggered
binary_rows o t u = operator_rows o t u ++ whole_rows (gives_whole o) (BinaryTerm o t u)

-- ---- terms of three parts

abbrev pub set_at : TermData → TermData → TermData → FormulaData
set_at v i x =
    some_of (LessFormula i (number 0) ∷ LeFormula (LenTerm v) i ∷ NotFormula (WholeFormula i) ∷ EqFormula (AtTerm (SetTerm v i x) i) x ∷ [])

abbrev pub ternary_rows : Ternary → TermData → TermData → TermData → List Triggered
ternary_rows Store m a v = row (Equal SelectStored) (StoreTerm m a v) (EqFormula (SelectTerm (StoreTerm m a v) a) v) ∷ []
ternary_rows Set v i x =
    row (Equal LenSet) (SetTerm v i x) (EqFormula (LenTerm (SetTerm v i x)) (LenTerm v)) ∷ row (Cases AtSet) (SetTerm v i x) (set_at v i x) ∷ []

abbrev pub if_rows : FormulaData → TermData → TermData → List Triggered
if_rows q t u =
    row (Cases Choice) (IfTerm q t u) (some_of (all_of (q ∷ EqFormula (IfTerm q t u) t ∷ []) ∷ all_of (NotFormula q ∷ EqFormula (IfTerm q t u) u ∷ []) ∷ [])) ∷ []

-- ---- any term except for structs

abbrev pub term_rows : TermData → List Triggered
term_rows (ConstantTerm c) = constant_rows c
term_rows (UnaryTerm o t) = unary_rows o t
term_rows (BinaryTerm o t u) = binary_rows o t u
term_rows (TernaryTerm o t u v) = ternary_rows o t u v
term_rows (IfTerm q t u) = if_rows q t u
term_rows _ = []

-- the term is neither a pack nor a field update
abbrev pub IsPlain : TermData → Type 0
IsPlain (PackTerm s ts) = ⊥
IsPlain (SetFieldTerm s k t u) = ⊥
IsPlain _ = Unit {0}

-- ---- always triggered

abbrev pub always_row : Axiom → FormulaData → Triggered
always_row name p = record { name = name; terms = []; formula = p }

abbrev pub always_rows : List Triggered
always_rows =
    always_row (Plain TruthsDiffer) (DifferFormula TrueTerm FalseTerm) ∷ always_row (Plain TrueHolds) (HoldsFormula TrueTerm) ∷ always_row (Plain FalseFails) (NotFormula (HoldsFormula FalseTerm)) ∷ always_row (Plain NothingFails) (NotFormula (HoldsFormula NothingTerm)) ∷ []
