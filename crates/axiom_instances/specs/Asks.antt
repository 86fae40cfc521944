-- The table of axioms by their triggers, without the branch. Each row has the axiom, the terms from which the instance
-- is made, and the instance.
use Rattle.std.specs.Prelude.{◌≡◌, ◌≢◌, ℕ, ◌^◌, List, [], ◌∷◌, length, slice_get, Some}
use Rattle.base.specs.TypeData.{TypeData, BoolType, IntType, AddressType, SignerType, VectorType}
use Rattle.base.specs.declared.types.Width.{Width}
use Rattle.fol.specs.declared.operators.Constant.{Constant}
use Rattle.fol.specs.declared.operators.Binary.{Binary}
use Rattle.fol.specs.declared.shapes.Shape.{Shape}
use Rattle.fol.specs.FormulaData.{TermData, ConstantTerm, BinaryTerm, MaxTerm, TrueTerm, FalseTerm, NothingTerm, BlankTerm, EmptyTerm, LenTerm, PopTerm, AddTerm, SubTerm, MulTerm, DivTerm, ModTerm, SelectTerm, AtTerm, PushTerm, ShlTerm, ShrTerm, StoreTerm, SetTerm, PackTerm, FieldTerm, SetFieldTerm, IfTerm, FormulaData, EqFormula, LeFormula, IsFormula, HoldsFormula, NotFormula, ImpliesFormula, IffFormula, terms_of}
use Rattle.axioms.specs.declared.axiom.Axiom.{Axiom}
use Rattle.axioms.specs.declared.axiom.Axiom.TheVariants.{Equal, EqualUnless, Cases, Implied, Exactly, Plain, OfStruct}
use Rattle.axioms.specs.declared.axiom.Equation.TheVariants.{SelectStored, SelectBlank, LenEmpty, LenPush, AtPushed, LenSet, Remainder, DivByZero, MulTurned, MulByOne, MulByZero}
use Rattle.axioms.specs.declared.axiom.Exception.TheVariants.{SelectOther, AtOtherPushed, LenPopped, AtPopped, AtOtherSet}
use Rattle.axioms.specs.declared.axiom.Alternative.TheVariants.{AtSet, SameItems, Choice}
use Rattle.axioms.specs.declared.axiom.Rule.TheVariants.{ItemTyped, LenBounded, SetTyped, PushTyped, PopTyped, BitsTyped, ShrTyped}
use Rattle.axioms.specs.declared.axiom.Equivalence.TheVariants.{Range, BoolTyped}
use Rattle.axioms.specs.declared.axiom.Fact.TheVariants.{LenFromZero, QuotientBounds, MaxBound, Whole, EmptyTyped, ShlTyped, NothingUntyped, TruthsDiffer, TrueHolds, FalseFails, NothingFails}
use Rattle.axioms.specs.declared.axiom.StructAxiom.TheVariants.{FieldOfPack, FieldSet, FieldOfOther, PackOfFields, PackTyped, FieldTyped}
use Rattle.axioms.specs.Forms.{number, LessFormula, DifferFormula, WholeFormula, VectorFormula}
use Rattle.axioms.specs.Alternatives.{DifferAtFormula}
use Rattle.axioms.specs.Equivalences.{greatest}
use Rattle.axioms.specs.Facts.{IsWhole, IsFromOne, multiple}
use Rattle.axioms.specs.Fields.{HasFields, HasField, HasFieldType}
use Rattle.axioms.specs.Rules.{IsBitOperator, most_items}
use Rattle.axioms.specs.Structs.{AreFieldsOf, ArePartsTyped}
use Rattle.certificates.specs.Table.{some_of, all_of, unless, range_axiom, IsNotLinear, IsLeastFresh}

-- always triggered
pub data AlwaysTriggered : Axiom → List TermData → FormulaData → Type 0 where
  TruthsDiffering : AlwaysTriggered (Plain TruthsDiffer) [] (DifferFormula TrueTerm FalseTerm)
  TrueHolding : AlwaysTriggered (Plain TrueHolds) [] (HoldsFormula TrueTerm)
  FalseFailing : AlwaysTriggered (Plain FalseFails) [] (NotFormula (HoldsFormula FalseTerm))
  NothingFailing : AlwaysTriggered (Plain NothingFails) [] (NotFormula (HoldsFormula NothingTerm))

-- triggered when this term occurs
pub data AsksOfTerm (shapes : List Shape) : TermData → Axiom → List TermData → FormulaData → Type 0 where
  ByStore : (m a v : TermData) → AsksOfTerm shapes (StoreTerm m a v) (Equal SelectStored) (StoreTerm m a v ∷ []) (EqFormula (SelectTerm (StoreTerm m a v) a) v)
  ByBlank : (a : TermData) → AsksOfTerm shapes (SelectTerm BlankTerm a) (Equal SelectBlank) (SelectTerm BlankTerm a ∷ []) (EqFormula (SelectTerm BlankTerm a) NothingTerm)
  ByLen : (v : TermData) → AsksOfTerm shapes (LenTerm v) (Plain LenFromZero) (LenTerm v ∷ []) (LeFormula (number 0) (LenTerm v))
  ByEmpty : AsksOfTerm shapes EmptyTerm (Equal LenEmpty) (EmptyTerm ∷ []) (EqFormula (LenTerm EmptyTerm) (number 0))
  ByPush : (v x : TermData) → AsksOfTerm shapes (PushTerm v x) (Equal LenPush) (PushTerm v x ∷ []) (EqFormula (LenTerm (PushTerm v x)) (AddTerm (LenTerm v) (number 1)))
  ByPushed : (v x : TermData) → AsksOfTerm shapes (PushTerm v x) (Equal AtPushed) (PushTerm v x ∷ []) (EqFormula (AtTerm (PushTerm v x) (LenTerm v)) x)
  ByPop : (v : TermData) → AsksOfTerm shapes (PopTerm v) (EqualUnless LenPopped) (PopTerm v ∷ []) (unless (LeFormula (LenTerm v) (number 0)) (LenTerm (PopTerm v)) (SubTerm (LenTerm v) (number 1)))
  BySet : (v i x : TermData) → AsksOfTerm shapes (SetTerm v i x) (Equal LenSet) (SetTerm v i x ∷ []) (EqFormula (LenTerm (SetTerm v i x)) (LenTerm v))
  BySetAt : (v i x : TermData) → AsksOfTerm shapes (SetTerm v i x) (Cases AtSet) (SetTerm v i x ∷ []) (some_of (LessFormula i (number 0) ∷ LeFormula (LenTerm v) i ∷ NotFormula (WholeFormula i) ∷ EqFormula (AtTerm (SetTerm v i x) i) x ∷ []))
  ByPack : (s : TypeData) (k : ℕ) (us : List TermData) (t : TermData) → HasFields shapes s (length us) → slice_get us k ≡ Some t → AsksOfTerm shapes (PackTerm s (terms_of us)) (OfStruct FieldOfPack) (PackTerm s (terms_of us) ∷ []) (EqFormula (FieldTerm s k (PackTerm s (terms_of us))) t)
  BySetField : (s : TypeData) (k : ℕ) (t v : TermData) → HasField shapes s k → AsksOfTerm shapes (SetFieldTerm s k t v) (OfStruct FieldSet) (SetFieldTerm s k t v ∷ []) (some_of (NotFormula (IsFormula s t) ∷ EqFormula (FieldTerm s k (SetFieldTerm s k t v)) v ∷ []))
  ByOtherField : (s : TypeData) (j k : ℕ) (t v : TermData) → HasField shapes s j → HasField shapes s k → j ≢ k → AsksOfTerm shapes (SetFieldTerm s k t v) (OfStruct FieldOfOther) (SetFieldTerm s k t v ∷ []) (EqFormula (FieldTerm s j (SetFieldTerm s k t v)) (FieldTerm s j t))
  ByWhole : (t : TermData) → IsWhole t → AsksOfTerm shapes t (Plain Whole) (t ∷ []) (WholeFormula t)
  ByQuotient : (c : Constant) (t : TermData) → IsFromOne c → AsksOfTerm shapes (DivTerm t (ConstantTerm c)) (Plain QuotientBounds) (DivTerm t (ConstantTerm c) ∷ []) (all_of (LeFormula (multiple (ConstantTerm c) t) t ∷ LeFormula t (SubTerm (AddTerm (multiple (ConstantTerm c) t) (ConstantTerm c)) (number 1)) ∷ []))
  ByRemainder : (t u : TermData) → AsksOfTerm shapes (ModTerm t u) (Equal Remainder) (ModTerm t u ∷ []) (EqFormula (ModTerm t u) (SubTerm t (MulTerm u (DivTerm t u))))
  ByZeroDivisor : (t : TermData) → AsksOfTerm shapes (DivTerm t (number 0)) (Equal DivByZero) (DivTerm t (number 0) ∷ []) (EqFormula (DivTerm t (number 0)) (number 0))
  ByMax : AsksOfTerm shapes MaxTerm (Plain MaxBound) (MaxTerm ∷ []) (LeFormula (number (2 ^ 126)) MaxTerm)
  ByIf : (q : FormulaData) (t u : TermData) → AsksOfTerm shapes (IfTerm q t u) (Cases Choice) (IfTerm q t u ∷ []) (some_of (all_of (q ∷ EqFormula (IfTerm q t u) t ∷ []) ∷ all_of (NotFormula q ∷ EqFormula (IfTerm q t u) u ∷ []) ∷ []))
  ByBits : (w : Width) (o : Binary) (x y : TermData) → IsBitOperator o → AsksOfTerm shapes (BinaryTerm o x y) (Implied BitsTyped) (BinaryTerm o x y ∷ []) (ImpliesFormula (all_of (IsFormula (IntType w) x ∷ IsFormula (IntType w) y ∷ [])) (IsFormula (IntType w) (BinaryTerm o x y)))
  ByShl : (w : Width) (x i : TermData) → AsksOfTerm shapes (ShlTerm w x i) (Plain ShlTyped) (ShlTerm w x i ∷ []) (IsFormula (IntType w) (ShlTerm w x i))
  ByShr : (w : Width) (x i : TermData) → AsksOfTerm shapes (ShrTerm w x i) (Implied ShrTyped) (ShrTerm w x i ∷ []) (ImpliesFormula (IsFormula (IntType w) x) (IsFormula (IntType w) (ShrTerm w x i)))
  ByProduct : (t u : TermData) → IsNotLinear t u → AsksOfTerm shapes (MulTerm t u) (Equal MulTurned) (MulTerm t u ∷ []) (EqFormula (MulTerm t u) (MulTerm u t))
  ByProductOne : (t u : TermData) → IsNotLinear t u → AsksOfTerm shapes (MulTerm t u) (Equal MulByOne) (MulTerm t u ∷ []) (EqFormula (MulTerm t (number 1)) (AddTerm t (number 0)))
  ByProductZero : (t u : TermData) → IsNotLinear t u → AsksOfTerm shapes (MulTerm t u) (Equal MulByZero) (MulTerm t u ∷ []) (EqFormula (MulTerm t (number 0)) (number 0))

-- triggered when an entry gives this type to this term, or denies it
pub data AsksOfType (shapes : List Shape) : TypeData → TermData → Axiom → List TermData → FormulaData → Type 0 where
  ByStructTyped : (s : TypeData) (us : List TermData) (t : TermData) → HasFields shapes s (length us) → AreFieldsOf s t us → AsksOfType shapes s t (OfStruct PackOfFields) (t ∷ []) (some_of (NotFormula (IsFormula s t) ∷ EqFormula t (PackTerm s (terms_of us)) ∷ []))
  ByPackTyped : (s : TypeData) (us : List TermData) (ps : List FormulaData) → ArePartsTyped shapes s us ps → AsksOfType shapes s (PackTerm s (terms_of us)) (OfStruct PackTyped) (PackTerm s (terms_of us) ∷ []) (IffFormula (IsFormula s (PackTerm s (terms_of us))) (all_of ps))
  ByFieldTyped : (s : TypeData) (k : ℕ) (t : TermData) (a : TypeData) → HasFieldType shapes s k a → AsksOfType shapes s t (OfStruct FieldTyped) (t ∷ []) (ImpliesFormula (IsFormula s t) (IsFormula a (FieldTerm s k t)))
  ByRange : (a : TypeData) (t most : TermData) → greatest a ≡ Some most → AsksOfType shapes a t (Exactly Range) (t ∷ []) (range_axiom a t most)
  BySigner : (t : TermData) → AsksOfType shapes SignerType t (Exactly Range) (t ∷ []) (range_axiom AddressType t MaxTerm)
  ByVector : (a : TypeData) (v : TermData) → AsksOfType shapes (VectorType a) v (Implied LenBounded) (v ∷ []) (ImpliesFormula (VectorFormula a v) (LeFormula (LenTerm v) (number most_items)))
  ByBool : (t : TermData) → AsksOfType shapes BoolType t (Exactly BoolTyped) (t ∷ []) (IffFormula (IsFormula BoolType t) (some_of (EqFormula t TrueTerm ∷ EqFormula t FalseTerm ∷ [])))

-- triggered when an entry gives this type to some term, or denies it
pub data AsksOfTypeAlone : TypeData → Axiom → List TermData → FormulaData → Type 0 where
  ByNothing : (a : TypeData) → AsksOfTypeAlone a (Plain NothingUntyped) [] (NotFormula (IsFormula a NothingTerm))

-- triggered when an entry does so and this term occurs
pub data AsksOfTypeBeside : TypeData → TermData → Axiom → List TermData → FormulaData → Type 0 where
  ByEmptyTyped : (a : TypeData) → AsksOfTypeBeside (VectorType a) EmptyTerm (Plain EmptyTyped) (EmptyTerm ∷ []) (VectorFormula a EmptyTerm)
  BySetTyped : (a : TypeData) (v i x : TermData) → AsksOfTypeBeside (VectorType a) (SetTerm v i x) (Implied SetTyped) (SetTerm v i x ∷ []) (ImpliesFormula (all_of (VectorFormula a v ∷ IsFormula a x ∷ [])) (VectorFormula a (SetTerm v i x)))
  ByPushTyped : (a : TypeData) (v x : TermData) → AsksOfTypeBeside (VectorType a) (PushTerm v x) (Implied PushTyped) (PushTerm v x ∷ []) (ImpliesFormula (all_of (VectorFormula a v ∷ IsFormula a x ∷ LessFormula (LenTerm v) (number most_items) ∷ [])) (VectorFormula a (PushTerm v x)))
  ByPopTyped : (a : TypeData) (v : TermData) → AsksOfTypeBeside (VectorType a) (PopTerm v) (Implied PopTyped) (PopTerm v ∷ []) (ImpliesFormula (VectorFormula a v) (VectorFormula a (PopTerm v)))

-- triggered when this memory or vector is read at this key or index, or the one from which it is made is
pub data AsksOfRead : TermData → TermData → Axiom → List TermData → FormulaData → Type 0 where
  ByStoreRead : (m a v k : TermData) → AsksOfRead (StoreTerm m a v) k (EqualUnless SelectOther) (StoreTerm m a v ∷ k ∷ []) (unless (EqFormula a k) (SelectTerm (StoreTerm m a v) k) (SelectTerm m k))
  ByPushRead : (v x i : TermData) → AsksOfRead (PushTerm v x) i (EqualUnless AtOtherPushed) (PushTerm v x ∷ i ∷ []) (unless (EqFormula i (LenTerm v)) (AtTerm (PushTerm v x) i) (AtTerm v i))
  ByPopRead : (v i : TermData) → AsksOfRead (PopTerm v) i (EqualUnless AtPopped) (PopTerm v ∷ i ∷ []) (unless (LeFormula (SubTerm (LenTerm v) (number 1)) i) (AtTerm (PopTerm v) i) (AtTerm v i))
  BySetRead : (v i x j : TermData) → AsksOfRead (SetTerm v i x) j (EqualUnless AtOtherSet) (SetTerm v i x ∷ j ∷ []) (unless (EqFormula i j) (AtTerm (SetTerm v i x) j) (AtTerm v j))

-- triggered when an entry gives this type to this vector, or denies it, and the vector is read at this index
pub data AsksOfItem : TypeData → TermData → TermData → Axiom → List TermData → FormulaData → Type 0 where
  ByItem : (a : TypeData) (v i : TermData) → AsksOfItem (VectorType a) v i (Implied ItemTyped) (v ∷ i ∷ []) (ImpliesFormula (VectorFormula a v) (some_of (LessFormula i (number 0) ∷ LeFormula (LenTerm v) i ∷ NotFormula (WholeFormula i) ∷ IsFormula a (AtTerm v i) ∷ [])))

-- triggered when an entry denies that these terms are equal, and entries give this type to both, or deny it
pub data AsksOfVectors : TypeData → TermData → TermData → Axiom → List TermData → FormulaData → Type 0 where
  ByVectors : (a : TypeData) (v u : TermData) (i : ℕ) → IsLeastFresh i v u → AsksOfVectors (VectorType a) v u (Cases SameItems) (v ∷ u ∷ []) (some_of (NotFormula (VectorFormula a v) ∷ NotFormula (VectorFormula a u) ∷ EqFormula v u ∷ DifferFormula (LenTerm v) (LenTerm u) ∷ DifferAtFormula i v u ∷ []))
