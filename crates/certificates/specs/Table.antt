-- The table of axioms by their triggers: the instances of each that are due on a branch. A row has the axiom, the
-- terms from which the instance is made, and the instance. The axioms are those of the theory of whole numbers,
-- arrays, sequences and tuples.
use Rattle.std.specs.Prelude.{◌≡◌, ◌≢◌, ℕ, ◌<◌, ◌^◌, ◌⊎◌, true, false, List, [], ◌∷◌, length, slice_get, Some, None}
use Rattle.base.specs.TypeData.{TypeData, BoolType, IntType, AddressType, SignerType, VectorType}
use Rattle.base.specs.declared.types.Width.{Width}
use Rattle.fol.specs.declared.operators.Constant.{Constant}
use Rattle.fol.specs.declared.operators.Binary.{Binary}
use Rattle.fol.specs.declared.shapes.Shape.{Shape}
use Rattle.fol.specs.FormulaData.{TermData, ConstantTerm, BinaryTerm, MaxTerm, TrueTerm, FalseTerm, NothingTerm, BlankTerm, EmptyTerm, LenTerm, PopTerm, AddTerm, SubTerm, MulTerm, DivTerm, ModTerm, SelectTerm, AtTerm, PushTerm, ShlTerm, ShrTerm, StoreTerm, SetTerm, PackTerm, FieldTerm, SetFieldTerm, IfTerm, FormulaData, EqFormula, LeFormula, IsFormula, HoldsFormula, NotFormula, AllOfFormula, AnyOfFormula, ImpliesFormula, IffFormula, terms_of, formulas_of}
use Rattle.substitution.specs.Free.{free_in_term}
use Rattle.axioms.specs.declared.axiom.Axiom.{Axiom}
use Rattle.axioms.specs.declared.axiom.Axiom.TheVariants.{Equal, EqualUnless, Cases, Implied, Exactly, Plain, OfStruct}
use Rattle.axioms.specs.declared.axiom.Equation.TheVariants.{SelectStored, SelectBlank, LenEmpty, LenPush, AtPushed, LenSet, Remainder, DivByZero, MulTurned, MulByOne, MulByZero}
use Rattle.axioms.specs.declared.axiom.Exception.TheVariants.{SelectOther, AtOtherPushed, LenPopped, AtPopped, AtOtherSet}
use Rattle.axioms.specs.declared.axiom.Alternative.TheVariants.{AtSet, SameItems, Choice}
use Rattle.axioms.specs.declared.axiom.Rule.TheVariants.{ItemTyped, LenBounded, SetTyped, PushTyped, PopTyped, BitsTyped, ShrTyped}
use Rattle.axioms.specs.declared.axiom.Equivalence.TheVariants.{Range, BoolTyped}
use Rattle.axioms.specs.declared.axiom.Fact.TheVariants.{LenFromZero, QuotientBounds, MaxBound, Whole, EmptyTyped, ShlTyped, NothingUntyped, TruthsDiffer, TrueHolds, FalseFails, NothingFails}
use Rattle.axioms.specs.declared.axiom.StructAxiom.TheVariants.{FieldOfPack, FieldSet, FieldOfOther, PackOfFields, PackTyped, FieldTyped}
use Rattle.axioms.specs.Forms.{number, LessFormula, DifferFormula, WholeFormula, VectorFormula}
use Rattle.axioms.specs.Alternatives.{DifferAtFormula}
use Rattle.axioms.specs.Equivalences.{greatest}
use Rattle.axioms.specs.Facts.{IsWhole, IsFromOne, multiple}
use Rattle.axioms.specs.Fields.{HasFields, HasField, HasFieldType}
use Rattle.axioms.specs.Rules.{IsBitOperator, most_items}
use Rattle.axioms.specs.Structs.{AreFieldsOf, ArePartsTyped}
use Rattle.certificates.specs.Linear.{numeral_of}
use Rattle.certificates.specs.BranchesBranch.{Branch, Stands, IsTyped, IsTerm}
use Rattle.certificates.specs.Joined.{IsSelected, IsItemRead}

-- some formula of a list is true; all are true
abbrev pub some_of : List FormulaData → FormulaData
some_of ps = AnyOfFormula (formulas_of ps)

abbrev pub all_of : List FormulaData → FormulaData
all_of ps = AllOfFormula (formulas_of ps)

-- the terms are equal, unless the formula is true
abbrev pub unless : FormulaData → TermData → TermData → FormulaData
unless p t u = some_of (p ∷ EqFormula t u ∷ [])

-- a term has a type exactly when it is a whole number from 0 to a greatest one
abbrev pub range_axiom : TypeData → TermData → TermData → FormulaData
range_axiom a t most = IffFormula (IsFormula a t) (all_of (WholeFormula t ∷ LeFormula (number 0) t ∷ LeFormula t most ∷ []))

-- an entry gives the type to some term, or denies it
pub record HasTyped (b : Branch) (a : TypeData) : Type 0 where
  pub term : TermData
  pub typed : IsTyped b a term

-- the product has no numeral as a factor
pub record IsNotLinear (t u : TermData) : Type 0 where
  pub left : numeral_of t ≡ None
  pub right : numeral_of u ≡ None

-- the least number of a variable that is free in neither term
pub record IsLeastFresh (i : ℕ) (t u : TermData) : Type 0 where
  pub not_left : free_in_term i t ≡ false
  pub not_right : free_in_term i u ≡ false
  pub least : (k : ℕ) → k < i → (free_in_term k t ≡ true) ⊎ (free_in_term k u ≡ true)

pub data Asks (shapes : List Shape) (b : Branch) : Axiom → List TermData → FormulaData → Type 0 where
  OfStore : (m a v : TermData) → IsTerm b (StoreTerm m a v) → Asks shapes b (Equal SelectStored) (StoreTerm m a v ∷ []) (EqFormula (SelectTerm (StoreTerm m a v) a) v)
  OfStoreRead : (m a v k : TermData) → IsTerm b (StoreTerm m a v) → IsTerm b k → (IsSelected b (StoreTerm m a v) k ⊎ IsSelected b m k) → Asks shapes b (EqualUnless SelectOther) (StoreTerm m a v ∷ k ∷ []) (unless (EqFormula a k) (SelectTerm (StoreTerm m a v) k) (SelectTerm m k))
  OfBlank : (a : TermData) → IsTerm b (SelectTerm BlankTerm a) → Asks shapes b (Equal SelectBlank) (SelectTerm BlankTerm a ∷ []) (EqFormula (SelectTerm BlankTerm a) NothingTerm)
  OfLen : (v : TermData) → IsTerm b (LenTerm v) → Asks shapes b (Plain LenFromZero) (LenTerm v ∷ []) (LeFormula (number 0) (LenTerm v))
  OfEmpty : IsTerm b EmptyTerm → Asks shapes b (Equal LenEmpty) (EmptyTerm ∷ []) (EqFormula (LenTerm EmptyTerm) (number 0))
  OfPush : (v x : TermData) → IsTerm b (PushTerm v x) → Asks shapes b (Equal LenPush) (PushTerm v x ∷ []) (EqFormula (LenTerm (PushTerm v x)) (AddTerm (LenTerm v) (number 1)))
  OfPushed : (v x : TermData) → IsTerm b (PushTerm v x) → Asks shapes b (Equal AtPushed) (PushTerm v x ∷ []) (EqFormula (AtTerm (PushTerm v x) (LenTerm v)) x)
  OfPushRead : (v x i : TermData) → IsTerm b (PushTerm v x) → IsTerm b i → (IsItemRead b (PushTerm v x) i ⊎ IsItemRead b v i) → Asks shapes b (EqualUnless AtOtherPushed) (PushTerm v x ∷ i ∷ []) (unless (EqFormula i (LenTerm v)) (AtTerm (PushTerm v x) i) (AtTerm v i))
  OfPop : (v : TermData) → IsTerm b (PopTerm v) → Asks shapes b (EqualUnless LenPopped) (PopTerm v ∷ []) (unless (LeFormula (LenTerm v) (number 0)) (LenTerm (PopTerm v)) (SubTerm (LenTerm v) (number 1)))
  OfPopRead : (v i : TermData) → IsTerm b (PopTerm v) → IsTerm b i → (IsItemRead b (PopTerm v) i ⊎ IsItemRead b v i) → Asks shapes b (EqualUnless AtPopped) (PopTerm v ∷ i ∷ []) (unless (LeFormula (SubTerm (LenTerm v) (number 1)) i) (AtTerm (PopTerm v) i) (AtTerm v i))
  OfSet : (v i x : TermData) → IsTerm b (SetTerm v i x) → Asks shapes b (Equal LenSet) (SetTerm v i x ∷ []) (EqFormula (LenTerm (SetTerm v i x)) (LenTerm v))
  OfSetAt : (v i x : TermData) → IsTerm b (SetTerm v i x) → Asks shapes b (Cases AtSet) (SetTerm v i x ∷ []) (some_of (LessFormula i (number 0) ∷ LeFormula (LenTerm v) i ∷ NotFormula (WholeFormula i) ∷ EqFormula (AtTerm (SetTerm v i x) i) x ∷ []))
  OfSetRead : (v i x j : TermData) → IsTerm b (SetTerm v i x) → IsTerm b j → (IsItemRead b (SetTerm v i x) j ⊎ IsItemRead b v j) → Asks shapes b (EqualUnless AtOtherSet) (SetTerm v i x ∷ j ∷ []) (unless (EqFormula i j) (AtTerm (SetTerm v i x) j) (AtTerm v j))
  OfVectors : (a : TypeData) (v u : TermData) (i : ℕ) → Stands b (DifferFormula v u) → IsTyped b (VectorType a) v → IsTyped b (VectorType a) u → IsLeastFresh i v u → Asks shapes b (Cases SameItems) (v ∷ u ∷ []) (some_of (NotFormula (VectorFormula a v) ∷ NotFormula (VectorFormula a u) ∷ EqFormula v u ∷ DifferFormula (LenTerm v) (LenTerm u) ∷ DifferAtFormula i v u ∷ []))
  OfPack : (s : TypeData) (k : ℕ) (us : List TermData) (t : TermData) → IsTerm b (PackTerm s (terms_of us)) → HasFields shapes s (length us) → slice_get us k ≡ Some t → Asks shapes b (OfStruct FieldOfPack) (PackTerm s (terms_of us) ∷ []) (EqFormula (FieldTerm s k (PackTerm s (terms_of us))) t)
  OfSetField : (s : TypeData) (k : ℕ) (t v : TermData) → IsTerm b (SetFieldTerm s k t v) → HasField shapes s k → Asks shapes b (OfStruct FieldSet) (SetFieldTerm s k t v ∷ []) (some_of (NotFormula (IsFormula s t) ∷ EqFormula (FieldTerm s k (SetFieldTerm s k t v)) v ∷ []))
  OfOtherField : (s : TypeData) (j k : ℕ) (t v : TermData) → IsTerm b (SetFieldTerm s k t v) → HasField shapes s j → HasField shapes s k → j ≢ k → Asks shapes b (OfStruct FieldOfOther) (SetFieldTerm s k t v ∷ []) (EqFormula (FieldTerm s j (SetFieldTerm s k t v)) (FieldTerm s j t))
  OfStructTyped : (s : TypeData) (us : List TermData) (t : TermData) → IsTyped b s t → HasFields shapes s (length us) → AreFieldsOf s t us → Asks shapes b (OfStruct PackOfFields) (t ∷ []) (some_of (NotFormula (IsFormula s t) ∷ EqFormula t (PackTerm s (terms_of us)) ∷ []))
  OfPackTyped : (s : TypeData) (us : List TermData) (ps : List FormulaData) → IsTyped b s (PackTerm s (terms_of us)) → ArePartsTyped shapes s us ps → Asks shapes b (OfStruct PackTyped) (PackTerm s (terms_of us) ∷ []) (IffFormula (IsFormula s (PackTerm s (terms_of us))) (all_of ps))
  OfFieldTyped : (s : TypeData) (k : ℕ) (t : TermData) (a : TypeData) → IsTyped b s t → HasFieldType shapes s k a → Asks shapes b (OfStruct FieldTyped) (t ∷ []) (ImpliesFormula (IsFormula s t) (IsFormula a (FieldTerm s k t)))
  OfRange : (a : TypeData) (t most : TermData) → IsTyped b a t → greatest a ≡ Some most → Asks shapes b (Exactly Range) (t ∷ []) (range_axiom a t most)
  OfSigner : (t : TermData) → IsTyped b SignerType t → Asks shapes b (Exactly Range) (t ∷ []) (range_axiom AddressType t MaxTerm)
  OfWhole : (t : TermData) → IsTerm b t → IsWhole t → Asks shapes b (Plain Whole) (t ∷ []) (WholeFormula t)
  OfItem : (a : TypeData) (v i : TermData) → IsTyped b (VectorType a) v → IsTerm b i → IsItemRead b v i → Asks shapes b (Implied ItemTyped) (v ∷ i ∷ []) (ImpliesFormula (VectorFormula a v) (some_of (LessFormula i (number 0) ∷ LeFormula (LenTerm v) i ∷ NotFormula (WholeFormula i) ∷ IsFormula a (AtTerm v i) ∷ [])))
  OfVector : (a : TypeData) (v : TermData) → IsTyped b (VectorType a) v → Asks shapes b (Implied LenBounded) (v ∷ []) (ImpliesFormula (VectorFormula a v) (LeFormula (LenTerm v) (number most_items)))
  OfEmptyTyped : (a : TypeData) → IsTerm b EmptyTerm → HasTyped b (VectorType a) → Asks shapes b (Plain EmptyTyped) (EmptyTerm ∷ []) (VectorFormula a EmptyTerm)
  OfSetTyped : (a : TypeData) (v i x : TermData) → IsTerm b (SetTerm v i x) → HasTyped b (VectorType a) → Asks shapes b (Implied SetTyped) (SetTerm v i x ∷ []) (ImpliesFormula (all_of (VectorFormula a v ∷ IsFormula a x ∷ [])) (VectorFormula a (SetTerm v i x)))
  OfPushTyped : (a : TypeData) (v x : TermData) → IsTerm b (PushTerm v x) → HasTyped b (VectorType a) → Asks shapes b (Implied PushTyped) (PushTerm v x ∷ []) (ImpliesFormula (all_of (VectorFormula a v ∷ IsFormula a x ∷ LessFormula (LenTerm v) (number most_items) ∷ [])) (VectorFormula a (PushTerm v x)))
  OfPopTyped : (a : TypeData) (v : TermData) → IsTerm b (PopTerm v) → HasTyped b (VectorType a) → Asks shapes b (Implied PopTyped) (PopTerm v ∷ []) (ImpliesFormula (VectorFormula a v) (VectorFormula a (PopTerm v)))
  OfNothing : (a : TypeData) → HasTyped b a → Asks shapes b (Plain NothingUntyped) [] (NotFormula (IsFormula a NothingTerm))
  OfBool : (t : TermData) → IsTyped b BoolType t → Asks shapes b (Exactly BoolTyped) (t ∷ []) (IffFormula (IsFormula BoolType t) (some_of (EqFormula t TrueTerm ∷ EqFormula t FalseTerm ∷ [])))
  AlwaysDiffer : Asks shapes b (Plain TruthsDiffer) [] (DifferFormula TrueTerm FalseTerm)
  OfQuotient : (c : Constant) (t : TermData) → IsTerm b (DivTerm t (ConstantTerm c)) → IsFromOne c → Asks shapes b (Plain QuotientBounds) (DivTerm t (ConstantTerm c) ∷ []) (all_of (LeFormula (multiple (ConstantTerm c) t) t ∷ LeFormula t (SubTerm (AddTerm (multiple (ConstantTerm c) t) (ConstantTerm c)) (number 1)) ∷ []))
  OfRemainder : (t u : TermData) → IsTerm b (ModTerm t u) → Asks shapes b (Equal Remainder) (ModTerm t u ∷ []) (EqFormula (ModTerm t u) (SubTerm t (MulTerm u (DivTerm t u))))
  OfZeroDivisor : (t : TermData) → IsTerm b (DivTerm t (number 0)) → Asks shapes b (Equal DivByZero) (DivTerm t (number 0) ∷ []) (EqFormula (DivTerm t (number 0)) (number 0))
  OfMax : IsTerm b MaxTerm → Asks shapes b (Plain MaxBound) (MaxTerm ∷ []) (LeFormula (number (2 ^ 126)) MaxTerm)
  OfIf : (q : FormulaData) (t u : TermData) → IsTerm b (IfTerm q t u) → Asks shapes b (Cases Choice) (IfTerm q t u ∷ []) (some_of (all_of (q ∷ EqFormula (IfTerm q t u) t ∷ []) ∷ all_of (NotFormula q ∷ EqFormula (IfTerm q t u) u ∷ []) ∷ []))
  OfBits : (w : Width) (o : Binary) (x y : TermData) → IsTerm b (BinaryTerm o x y) → IsBitOperator o → Asks shapes b (Implied BitsTyped) (BinaryTerm o x y ∷ []) (ImpliesFormula (all_of (IsFormula (IntType w) x ∷ IsFormula (IntType w) y ∷ [])) (IsFormula (IntType w) (BinaryTerm o x y)))
  OfShl : (w : Width) (x i : TermData) → IsTerm b (ShlTerm w x i) → Asks shapes b (Plain ShlTyped) (ShlTerm w x i ∷ []) (IsFormula (IntType w) (ShlTerm w x i))
  OfShr : (w : Width) (x i : TermData) → IsTerm b (ShrTerm w x i) → Asks shapes b (Implied ShrTyped) (ShrTerm w x i ∷ []) (ImpliesFormula (IsFormula (IntType w) x) (IsFormula (IntType w) (ShrTerm w x i)))
  AlwaysTrue : Asks shapes b (Plain TrueHolds) [] (HoldsFormula TrueTerm)
  AlwaysFalse : Asks shapes b (Plain FalseFails) [] (NotFormula (HoldsFormula FalseTerm))
  AlwaysNothing : Asks shapes b (Plain NothingFails) [] (NotFormula (HoldsFormula NothingTerm))
  OfProduct : (t u : TermData) → IsTerm b (MulTerm t u) → IsNotLinear t u → Asks shapes b (Equal MulTurned) (MulTerm t u ∷ []) (EqFormula (MulTerm t u) (MulTerm u t))
  OfProductOne : (t u : TermData) → IsTerm b (MulTerm t u) → IsNotLinear t u → Asks shapes b (Equal MulByOne) (MulTerm t u ∷ []) (EqFormula (MulTerm t (number 1)) (AddTerm t (number 0)))
  OfProductZero : (t u : TermData) → IsTerm b (MulTerm t u) → IsNotLinear t u → Asks shapes b (Equal MulByZero) (MulTerm t u ∷ []) (EqFormula (MulTerm t (number 0)) (number 0))
