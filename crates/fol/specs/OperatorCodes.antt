-- The codes by which the logic stores operators: each as a tree of numbers, and back.
use base.Stored.{Gv, gnil, gnum, gcons, num}
use Rattle.std.specs.Prelude.{◌≡◌, ℕ, ℤ, pos, negsuc, [], ◌∷◌, refl}
use Rattle.std.proofs.Common.{ap}
use Rattle.base.specs.Codes.{pick}
use Rattle.base.specs.TypeData.{width_back}
use Rattle.base.specs.declared.types.Width.{Width}
use Rattle.base.specs.declared.types.Width.TheVariants.{U8, U16, U32, U64, U128}
use Rattle.fol.specs.declared.operators.Constant.{Constant}
use Rattle.fol.specs.declared.operators.Constant.TheVariants.{Num, Max, True, False, Nothing, Blank, Empty, Wide}
use Rattle.fol.specs.declared.operators.Unary.{Unary}
use Rattle.fol.specs.declared.operators.Unary.TheVariants.{Len, Pop}
use Rattle.fol.specs.declared.operators.Binary.{Binary}
use Rattle.fol.specs.declared.operators.Binary.TheVariants.{Add, Sub, Mul, Div, Mod, And, Or, Xor, Shl, Shr, Select, At, Push}
use Rattle.fol.specs.declared.operators.Ternary.{Ternary}
use Rattle.fol.specs.declared.operators.Ternary.TheVariants.{Store, Set}
use Rattle.fol.specs.declared.operators.Comparison.{Comparison}
use Rattle.fol.specs.declared.operators.Comparison.TheVariants.{Eq, Le}
use Rattle.fol.specs.declared.operators.Junction.{Junction}
use Rattle.fol.specs.declared.operators.Junction.TheVariants.{AllOf, AnyOf}
use Rattle.fol.specs.declared.operators.Connective.{Connective}
use Rattle.fol.specs.declared.operators.Connective.TheVariants.{Implies, Iff}
use Rattle.fol.specs.declared.operators.Quantifier.{Quantifier}
use Rattle.fol.specs.declared.operators.Quantifier.TheVariants.{ForAll, Exists}

abbrev pub head : Gv → Gv
head gnil = gnil
head (gnum n) = gnil
head (gcons a b) = a

abbrev pub tail : Gv → Gv
tail gnil = gnil
tail (gnum n) = gnil
tail (gcons a b) = b

-- a numbered tree with three subtrees
abbrev pub tree : ℕ → Gv → Gv → Gv → Gv
tree n a b c = gcons (gnum n) (gcons a (gcons b c))

abbrev pub width_number : Width → ℕ
width_number U8 = 0
width_number U16 = 1
width_number U32 = 2
width_number U64 = 3
width_number U128 = 4

pub width_back-number : (w : Width) → width_back (gnum (width_number w)) ≡ w
width_back-number U8 = refl
width_back-number U16 = refl
width_back-number U32 = refl
width_back-number U64 = refl
width_back-number U128 = refl

abbrev pub whole_code : ℤ → Gv
whole_code (pos n) = gcons (gnum 0) (gnum n)
whole_code (negsuc n) = gcons (gnum 1) (gnum n)

abbrev pub whole_back : Gv → ℤ
whole_back g = pick (num (head g)) (pos 0) (pos (num (tail g)) ∷ negsuc (num (tail g)) ∷ [])

pub whole_back-code : (z : ℤ) → whole_back (whole_code z) ≡ z
whole_back-code (pos n) = refl
whole_back-code (negsuc n) = refl

abbrev pub constant_code : Constant → Gv
constant_code (Num i) = gcons (gnum 0) (whole_code i)
constant_code Max = gcons (gnum 1) gnil
constant_code True = gcons (gnum 2) gnil
constant_code False = gcons (gnum 3) gnil
constant_code Nothing = gcons (gnum 4) gnil
constant_code Blank = gcons (gnum 5) gnil
constant_code Empty = gcons (gnum 6) gnil
constant_code (Wide u) = gcons (gnum 7) (gnum u)

abbrev pub constant_back : Gv → Constant
constant_back g =
    pick (num (head g)) Nothing (Num (whole_back (tail g)) ∷ Max ∷ True ∷ False ∷ Nothing ∷ Blank ∷ Empty ∷ Wide (num (tail g)) ∷ [])

pub constant_back-code : (c : Constant) → constant_back (constant_code c) ≡ c
constant_back-code (Num i) = ap Num (whole_back-code i)
constant_back-code Max = refl
constant_back-code True = refl
constant_back-code False = refl
constant_back-code Nothing = refl
constant_back-code Blank = refl
constant_back-code Empty = refl
constant_back-code (Wide u) = refl

abbrev pub unary_code : Unary → Gv
unary_code Len = gnum 0
unary_code Pop = gnum 1

abbrev pub unary_back : Gv → Unary
unary_back g = pick (num g) Len (Len ∷ Pop ∷ [])

pub unary_back-code : (o : Unary) → unary_back (unary_code o) ≡ o
unary_back-code Len = refl
unary_back-code Pop = refl

abbrev pub binary_code : Binary → Gv
binary_code Add = gcons (gnum 0) gnil
binary_code Sub = gcons (gnum 1) gnil
binary_code Mul = gcons (gnum 2) gnil
binary_code Div = gcons (gnum 3) gnil
binary_code Mod = gcons (gnum 4) gnil
binary_code And = gcons (gnum 5) gnil
binary_code Or = gcons (gnum 6) gnil
binary_code Xor = gcons (gnum 7) gnil
binary_code (Shl w) = gcons (gnum 8) (gnum (width_number w))
binary_code (Shr w) = gcons (gnum 9) (gnum (width_number w))
binary_code Select = gcons (gnum 10) gnil
binary_code At = gcons (gnum 11) gnil
binary_code Push = gcons (gnum 12) gnil

abbrev pub binary_back : Gv → Binary
binary_back g =
    pick (num (head g)) Add (Add ∷ Sub ∷ Mul ∷ Div ∷ Mod ∷ And ∷ Or ∷ Xor ∷ Shl (width_back (tail g)) ∷ Shr (width_back (tail g)) ∷ Select ∷ At ∷ Push ∷ [])

pub binary_back-code : (o : Binary) → binary_back (binary_code o) ≡ o
binary_back-code Add = refl
binary_back-code Sub = refl
binary_back-code Mul = refl
binary_back-code Div = refl
binary_back-code Mod = refl
binary_back-code And = refl
binary_back-code Or = refl
binary_back-code Xor = refl
binary_back-code (Shl w) = ap Shl (width_back-number w)
binary_back-code (Shr w) = ap Shr (width_back-number w)
binary_back-code Select = refl
binary_back-code At = refl
binary_back-code Push = refl

abbrev pub ternary_code : Ternary → Gv
ternary_code Store = gnum 0
ternary_code Set = gnum 1

abbrev pub ternary_back : Gv → Ternary
ternary_back g = pick (num g) Store (Store ∷ Set ∷ [])

pub ternary_back-code : (o : Ternary) → ternary_back (ternary_code o) ≡ o
ternary_back-code Store = refl
ternary_back-code Set = refl

abbrev pub comparison_code : Comparison → Gv
comparison_code Eq = gnum 0
comparison_code Le = gnum 1

abbrev pub comparison_back : Gv → Comparison
comparison_back g = pick (num g) Eq (Eq ∷ Le ∷ [])

pub comparison_back-code : (o : Comparison) → comparison_back (comparison_code o) ≡ o
comparison_back-code Eq = refl
comparison_back-code Le = refl

abbrev pub junction_code : Junction → Gv
junction_code AllOf = gnum 0
junction_code AnyOf = gnum 1

abbrev pub junction_back : Gv → Junction
junction_back g = pick (num g) AllOf (AllOf ∷ AnyOf ∷ [])

pub junction_back-code : (o : Junction) → junction_back (junction_code o) ≡ o
junction_back-code AllOf = refl
junction_back-code AnyOf = refl

abbrev pub connective_code : Connective → Gv
connective_code Implies = gnum 0
connective_code Iff = gnum 1

abbrev pub connective_back : Gv → Connective
connective_back g = pick (num g) Implies (Implies ∷ Iff ∷ [])

pub connective_back-code : (o : Connective) → connective_back (connective_code o) ≡ o
connective_back-code Implies = refl
connective_back-code Iff = refl

abbrev pub quantifier_code : Quantifier → Gv
quantifier_code ForAll = gnum 0
quantifier_code Exists = gnum 1

abbrev pub quantifier_back : Gv → Quantifier
quantifier_back g = pick (num g) ForAll (ForAll ∷ Exists ∷ [])

pub quantifier_back-code : (o : Quantifier) → quantifier_back (quantifier_code o) ≡ o
quantifier_back-code ForAll = refl
quantifier_back-code Exists = refl
