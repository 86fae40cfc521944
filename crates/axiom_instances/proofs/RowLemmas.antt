-- The whole lists consist of the instances that terms trigger.
use Rattle.std.proofs.Common.{◌≡◌, zero, suc, pos, negsuc, Bool, true, false, List, [], ◌∷◌, ◌++◌, Option, Some, None, refl, sym, subst, arith}
use Rattle.std.specs.Prelude.{is_some}
use Rattle.std.proofs.lemmas.Int.{ints}
use Rattle.base.specs.declared.types.Width.{Width}
use Rattle.base.specs.declared.types.Width.TheVariants.{U8, U16, U32, U64, U128}
use Rattle.fol.specs.declared.operators.Constant.{Constant}
use Rattle.fol.specs.declared.operators.Constant.TheVariants.{Num, Max, True, False, Nothing, Blank, Empty, Wide}
use Rattle.fol.specs.declared.operators.Unary.{Unary}
use Rattle.fol.specs.declared.operators.Unary.TheVariants.{Len, Pop}
use Rattle.fol.specs.declared.operators.Binary.{Binary}
use Rattle.fol.specs.declared.operators.Binary.TheVariants.{Add, Sub, Mul, Div, Mod, And, Or, Xor, Shl, Shr, Select, At, Push}
use Rattle.fol.specs.declared.operators.Ternary.{Ternary}
use Rattle.fol.specs.declared.operators.Ternary.TheVariants.{Store, Set}
use Rattle.fol.specs.declared.shapes.Shape.{Shape}
use Rattle.fol.specs.FormulaData.{TermData, VarTerm, ConstantTerm, UnaryTerm, BinaryTerm, TernaryTerm, PackTerm, FieldTerm, SetFieldTerm, IfTerm, DivTerm, MulTerm, SelectTerm, FormulaData}
use Rattle.axioms.specs.declared.axiom.Axiom.{Axiom}
use Rattle.axioms.specs.Facts.{IsWhole, IsFromOne}
use Rattle.axioms.specs.Rules.{IsBitOperator}
use Rattle.certificates.specs.Linear.{numeral_of}
use Rattle.certificates.specs.Table.{IsNotLinear}
use Rattle.axiom_instances.specs.Lists.{Triggered, IsAmong, IsHere, IsLater, AreOnly, AreAll}
use Rattle.axiom_instances.specs.Rows.{whole_row, constant_rows, unary_rows, bounds_row, product_rows, bits_row, bits_rows, operator_rows, gives_whole, whole_rows, binary_rows, ternary_rows, term_rows, IsPlain, always_rows}
use Rattle.axiom_instances.specs.Asks.{AlwaysTriggered, TruthsDiffering, TrueHolding, FalseFailing, NothingFailing, AsksOfTerm, ByStore, ByBlank, ByLen, ByEmpty, ByPush, ByPushed, ByPop, BySet, BySetAt, ByPack, BySetField, ByOtherField, ByWhole, ByQuotient, ByRemainder, ByZeroDivisor, ByMax, ByIf, ByBits, ByShl, ByShr, ByProduct, ByProductOne, ByProductZero}

-- ---- indices in lists

pub among_left : {a : Triggered} {xs : List Triggered} (ys : List Triggered) → IsAmong a xs → IsAmong a (xs ++ ys)
among_left ys (IsHere xs) = IsHere (xs ++ ys)
among_left ys (IsLater b xs h) = IsLater b (xs ++ ys) (among_left ys h)

pub among_right : {a : Triggered} (xs : List Triggered) {ys : List Triggered} → IsAmong a ys → IsAmong a (xs ++ ys)
among_right [] h = h
among_right (x ∷ xs) {ys} h = IsLater x (xs ++ ys) (among_right xs h)

pub both_only : (asks : Axiom → List TermData → FormulaData → Type 0) (xs ys : List Triggered) → AreOnly asks xs → AreOnly asks ys → AreOnly asks (xs ++ ys)
both_only asks [] ys h k = k
both_only asks (x ∷ xs) ys h k = (h.0, both_only asks xs ys h.1 k)

module _ (shapes : List Shape) where
  -- the term triggers the instances
  abbrev Only : TermData → List Triggered → Type 0
  Only t xs = AreOnly (AsksOfTerm shapes t) xs

  -- ---- each instance of a list is triggered

  constant_asks : (c : Constant) → Only (ConstantTerm c) (constant_rows c)
  constant_asks (Num i) = (ByWhole _ tt, tt)
  constant_asks Max = (ByMax, (ByWhole _ tt, tt))
  constant_asks Empty = (ByEmpty, tt)
  constant_asks True = tt
  constant_asks False = tt
  constant_asks Nothing = tt
  constant_asks Blank = tt
  constant_asks (Wide u) = tt

  unary_asks : (o : Unary) (t : TermData) → Only (UnaryTerm o t) (unary_rows o t)
  unary_asks Len t = (ByLen t, (ByWhole _ tt, tt))
  unary_asks Pop t = (ByPop t, tt)

  select_asks : (m k : TermData) → Only (SelectTerm m k) (operator_rows Select m k)
  select_asks (ConstantTerm Blank) k = (ByBlank k, tt)
  select_asks _ k = tt

  bits_ask : (o : Binary) → IsBitOperator o → (t u : TermData) → Only (BinaryTerm o t u) (bits_rows o t u)
  bits_ask o e t u = (ByBits U8 o t u e, (ByBits U16 o t u e, (ByBits U32 o t u e, (ByBits U64 o t u e, (ByBits U128 o t u e, tt)))))

  quotient_asks : (t d : TermData) → Only (DivTerm t d) (operator_rows Div t d)
  quotient_asks t (ConstantTerm (Num (pos zero))) = (ByZeroDivisor t, tt)
  quotient_asks t (ConstantTerm (Num (pos (suc n)))) = (ByQuotient (Num (pos (suc n))) t (omega (arith, ints)), tt)
  quotient_asks t (ConstantTerm Max) = (ByQuotient Max t tt, tt)
  quotient_asks t (ConstantTerm (Wide (suc n))) = (ByQuotient (Wide (suc n)) t (omega arith), tt)
  quotient_asks t _ = tt

  no_numeral : (t : TermData) → is_some (numeral_of t) ≡ false → numeral_of t ≡ None
  no_numeral t e = go (numeral_of t) e
    where
      go : {X : Type 0} (o : Option X) → is_some o ≡ false → o ≡ None
      go None e = refl
      go (Some x) e = absurd (cc)

  product_asks : (t u : TermData) → Only (MulTerm t u) (operator_rows Mul t u)
  product_asks t u = go (is_some (numeral_of t)) (is_some (numeral_of u)) refl refl
    where
      go : (p q : Bool) → is_some (numeral_of t) ≡ p → is_some (numeral_of u) ≡ q → Only (MulTerm t u) (product_rows p q t u)
      go true q d e = tt
      go false true d e = tt
      go false false d e =
          let n : IsNotLinear t u = record { left = no_numeral t d; right = no_numeral u e } in
          (ByProduct t u n, (ByProductOne t u n, (ByProductZero t u n, tt)))

  operator_asks : (o : Binary) (t u : TermData) → Only (BinaryTerm o t u) (operator_rows o t u)
  operator_asks Select t u = select_asks t u
  operator_asks Push t u = (ByPush t u, (ByPushed t u, tt))
  operator_asks Mul t u = product_asks t u
  operator_asks Div t u = quotient_asks t u
  operator_asks Mod t u = (ByRemainder t u, tt)
  operator_asks And t u = bits_ask And tt t u
  operator_asks Or t u = bits_ask Or tt t u
  operator_asks Xor t u = bits_ask Xor tt t u
  operator_asks (Shl w) t u = (ByShl w t u, tt)
  operator_asks (Shr w) t u = (ByShr w t u, tt)
  operator_asks Add t u = tt
  operator_asks Sub t u = tt
  operator_asks At t u = tt

  whole_asks : (o : Binary) (t u : TermData) → Only (BinaryTerm o t u) (whole_rows (gives_whole o) (BinaryTerm o t u))
  whole_asks Select t u = tt
  whole_asks At t u = tt
  whole_asks Push t u = tt
  whole_asks _ t u = (ByWhole _ tt, tt)

  ternary_asks : (o : Ternary) (t u v : TermData) → Only (TernaryTerm o t u v) (ternary_rows o t u v)
  ternary_asks Store t u v = (ByStore t u v, tt)
  ternary_asks Set t u v = (BySet t u v, (BySetAt t u v, tt))

  rows_ask : (t : TermData) → Only t (term_rows t)
  rows_ask (ConstantTerm c) = constant_asks c
  rows_ask (UnaryTerm o t) = unary_asks o t
  rows_ask (BinaryTerm o t u) = both_only (AsksOfTerm shapes (BinaryTerm o t u)) (operator_rows o t u) _ (operator_asks o t u) (whole_asks o t u)
  rows_ask (TernaryTerm o t u v) = ternary_asks o t u v
  rows_ask (IfTerm q t u) = (ByIf q t u, tt)
  rows_ask (VarTerm n) = tt
  rows_ask (PackTerm s ts) = tt
  rows_ask (FieldTerm s k t) = tt
  rows_ask (SetFieldTerm s k t u) = tt

  -- ---- each triggered instance occurs in a list

  whole_stands : (t : TermData) → IsWhole t → IsAmong (whole_row t) (term_rows t)
  whole_stands (ConstantTerm (Num i)) e = IsHere _
  whole_stands (ConstantTerm Max) e = IsLater _ _ (IsHere _)
  whole_stands (UnaryTerm Len t) e = IsLater _ _ (IsHere _)
  whole_stands (BinaryTerm o t u) e = among_right (operator_rows o t u) (go o e)
    where
      go : (o : Binary) → IsWhole (BinaryTerm o t u) → IsAmong (whole_row (BinaryTerm o t u)) (whole_rows (gives_whole o) (BinaryTerm o t u))
      go Select e = absurd e
      go At e = absurd e
      go Push e = absurd e
      go _ e = IsHere _
  whole_stands _ e = absurd e

  bits_stand : (w : Width) (o : Binary) (t u : TermData) → IsBitOperator o → IsAmong (bits_row w o t u) (binary_rows o t u)
  bits_stand w o t u e = among_left _ (go o e)
    where
      here : (w : Width) (o : Binary) → IsAmong (bits_row w o t u) (bits_rows o t u)
      here U8 o = IsHere _
      here U16 o = IsLater _ _ (IsHere _)
      here U32 o = IsLater _ _ (IsLater _ _ (IsHere _))
      here U64 o = IsLater _ _ (IsLater _ _ (IsLater _ _ (IsHere _)))
      here U128 o = IsLater _ _ (IsLater _ _ (IsLater _ _ (IsLater _ _ (IsHere _))))

      go : (o : Binary) → IsBitOperator o → IsAmong (bits_row w o t u) (operator_rows o t u)
      go And e = here w And
      go Or e = here w Or
      go Xor e = here w Xor
      go _ e = absurd e

  quotient_stands : (c : Constant) (t : TermData) → IsFromOne c → IsAmong (bounds_row t (ConstantTerm c)) (binary_rows Div t (ConstantTerm c))
  quotient_stands (Num (pos zero)) t e = absurd (omega (arith, ints))
  quotient_stands (Num (pos (suc n))) t e = IsHere _
  quotient_stands (Num (negsuc n)) t e = absurd (omega (arith, ints))
  quotient_stands Max t e = IsHere _
  quotient_stands (Wide zero) t e = absurd (omega arith)
  quotient_stands (Wide (suc n)) t e = IsHere _
  quotient_stands _ t e = absurd e

  product_stands : {a : Triggered} (t u : TermData) → IsNotLinear t u → IsAmong a (product_rows false false t u) → IsAmong a (binary_rows Mul t u)
  product_stands {a} t u e h =
      among_left _ (subst (IsAmong a) (λ i. product_rows (is_some (sym e.left i)) (is_some (sym e.right i)) t u) h)

  pub asks_stand : {t : TermData} {name : Axiom} {ts : List TermData} {p : FormulaData} → AsksOfTerm shapes t name ts p → IsPlain t → IsAmong (record { name = name; terms = ts; formula = p }) (term_rows t)
  asks_stand (ByStore m a v) e = IsHere _
  asks_stand (ByBlank a) e = IsHere _
  asks_stand (ByLen v) e = IsHere _
  asks_stand ByEmpty e = IsHere _
  asks_stand (ByPush v x) e = IsHere _
  asks_stand (ByPushed v x) e = IsLater _ _ (IsHere _)
  asks_stand (ByPop v) e = IsHere _
  asks_stand (BySet v i x) e = IsHere _
  asks_stand (BySetAt v i x) e = IsLater _ _ (IsHere _)
  asks_stand (ByPack s k us t h f) e = absurd e
  asks_stand (BySetField s k t v h) e = absurd e
  asks_stand (ByOtherField s j k t v h f d) e = absurd e
  asks_stand (ByWhole t w) e = whole_stands t w
  asks_stand (ByQuotient c t f) e = quotient_stands c t f
  asks_stand (ByRemainder t u) e = IsHere _
  asks_stand (ByZeroDivisor t) e = IsHere _
  asks_stand ByMax e = IsHere _
  asks_stand (ByIf q t u) e = IsHere _
  asks_stand (ByBits w o t u f) e = bits_stand w o t u f
  asks_stand (ByShl w t u) e = IsHere _
  asks_stand (ByShr w t u) e = IsHere _
  asks_stand (ByProduct t u f) e = product_stands t u f (IsHere _)
  asks_stand (ByProductOne t u f) e = product_stands t u f (IsLater _ _ (IsHere _))
  asks_stand (ByProductZero t u f) e = product_stands t u f (IsLater _ _ (IsLater _ _ (IsHere _)))

  -- a term other than a pack or a field update triggers exactly these
  pub plain_rows : (t : TermData) → IsPlain t → AreAll (term_rows t) (AsksOfTerm shapes t)
  plain_rows t e = record { only = rows_ask t; all = λ name ts p h. asks_stand h e }

-- ---- always triggered

pub always : AreAll always_rows AlwaysTriggered
always = record { only = (TruthsDiffering, (TrueHolding, (FalseFailing, (NothingFailing, tt)))); all = λ name ts p h. stands h }
  where
    stands : {name : Axiom} {ts : List TermData} {p : FormulaData} → AlwaysTriggered name ts p → IsAmong (record { name = name; terms = ts; formula = p }) always_rows
    stands TruthsDiffering = IsHere _
    stands TrueHolding = IsLater _ _ (IsHere _)
    stands FalseFailing = IsLater _ _ (IsLater _ _ (IsHere _))
    stands NothingFailing = IsLater _ _ (IsLater _ _ (IsLater _ _ (IsHere _)))
