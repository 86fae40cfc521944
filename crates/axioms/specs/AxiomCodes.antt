-- The codes by which the logic stores the names of axioms, as pairs of numbers, and the inverse maps.
use base.Stored.{Gv, gnum, gcons, num}
use Rattle.std.specs.Prelude.{◌≡◌, ℕ, [], ◌∷◌, refl}
use Rattle.std.proofs.Common.{ap}
use Rattle.base.specs.Codes.{pick}
use Rattle.fol.specs.OperatorCodes.{head, tail}
use Rattle.axioms.specs.declared.axiom.Axiom.{Axiom}
use Rattle.axioms.specs.declared.axiom.Axiom.TheVariants.{Equal, EqualUnless, Cases, Implied, Exactly, Plain, OfStruct}
use Rattle.axioms.specs.declared.axiom.Equation.{Equation}
use Rattle.axioms.specs.declared.axiom.Equation.TheVariants.{Itself, SelectStored, SelectBlank, LenEmpty, LenPush, AtPushed, LenSet, Remainder, DivByZero, MulTurned, MulByOne, MulByZero}
use Rattle.axioms.specs.declared.axiom.Exception.{Exception}
use Rattle.axioms.specs.declared.axiom.Exception.TheVariants.{SelectOther, AtOtherPushed, LenPopped, AtPopped, AtOtherSet}
use Rattle.axioms.specs.declared.axiom.Alternative.{Alternative}
use Rattle.axioms.specs.declared.axiom.Alternative.TheVariants.{AtSet, SameItems, Choice, Trichotomy}
use Rattle.axioms.specs.declared.axiom.Rule.{Rule}
use Rattle.axioms.specs.declared.axiom.Rule.TheVariants.{ItemTyped, LenBounded, SetTyped, PushTyped, PopTyped, BitsTyped, ShrTyped}
use Rattle.axioms.specs.declared.axiom.Equivalence.{Equivalence}
use Rattle.axioms.specs.declared.axiom.Equivalence.TheVariants.{Range, BoolTyped}
use Rattle.axioms.specs.declared.axiom.Fact.{Fact}
use Rattle.axioms.specs.declared.axiom.Fact.TheVariants.{LenFromZero, QuotientBounds, MaxBound, Whole, EmptyTyped, ShlTyped, NothingUntyped, TruthsDiffer, TrueHolds, FalseFails, NothingFails}
use Rattle.axioms.specs.declared.axiom.StructAxiom.{StructAxiom}
use Rattle.axioms.specs.declared.axiom.StructAxiom.TheVariants.{FieldOfPack, FieldSet, FieldOfOther, PackOfFields, PackTyped, FieldTyped}

abbrev equation_number : Equation → ℕ
equation_number Itself = 0
equation_number SelectStored = 1
equation_number SelectBlank = 2
equation_number LenEmpty = 3
equation_number LenPush = 4
equation_number AtPushed = 5
equation_number LenSet = 6
equation_number Remainder = 7
equation_number DivByZero = 8
equation_number MulTurned = 9
equation_number MulByOne = 10
equation_number MulByZero = 11

abbrev equation_back : ℕ → Equation
equation_back n = pick n Itself (Itself ∷ SelectStored ∷ SelectBlank ∷ LenEmpty ∷ LenPush ∷ AtPushed ∷ LenSet ∷ Remainder ∷ DivByZero ∷ MulTurned ∷ MulByOne ∷ MulByZero ∷ [])

equation_back-number : (a : Equation) → equation_back (equation_number a) ≡ a
equation_back-number Itself = refl
equation_back-number SelectStored = refl
equation_back-number SelectBlank = refl
equation_back-number LenEmpty = refl
equation_back-number LenPush = refl
equation_back-number AtPushed = refl
equation_back-number LenSet = refl
equation_back-number Remainder = refl
equation_back-number DivByZero = refl
equation_back-number MulTurned = refl
equation_back-number MulByOne = refl
equation_back-number MulByZero = refl

abbrev exception_number : Exception → ℕ
exception_number SelectOther = 0
exception_number AtOtherPushed = 1
exception_number LenPopped = 2
exception_number AtPopped = 3
exception_number AtOtherSet = 4

abbrev exception_back : ℕ → Exception
exception_back n = pick n SelectOther (SelectOther ∷ AtOtherPushed ∷ LenPopped ∷ AtPopped ∷ AtOtherSet ∷ [])

exception_back-number : (a : Exception) → exception_back (exception_number a) ≡ a
exception_back-number SelectOther = refl
exception_back-number AtOtherPushed = refl
exception_back-number LenPopped = refl
exception_back-number AtPopped = refl
exception_back-number AtOtherSet = refl

abbrev alternative_number : Alternative → ℕ
alternative_number AtSet = 0
alternative_number SameItems = 1
alternative_number Choice = 2
alternative_number Trichotomy = 3

abbrev alternative_back : ℕ → Alternative
alternative_back n = pick n AtSet (AtSet ∷ SameItems ∷ Choice ∷ Trichotomy ∷ [])

alternative_back-number : (a : Alternative) → alternative_back (alternative_number a) ≡ a
alternative_back-number AtSet = refl
alternative_back-number SameItems = refl
alternative_back-number Choice = refl
alternative_back-number Trichotomy = refl

abbrev rule_number : Rule → ℕ
rule_number ItemTyped = 0
rule_number LenBounded = 1
rule_number SetTyped = 2
rule_number PushTyped = 3
rule_number PopTyped = 4
rule_number BitsTyped = 5
rule_number ShrTyped = 6

abbrev rule_back : ℕ → Rule
rule_back n = pick n ItemTyped (ItemTyped ∷ LenBounded ∷ SetTyped ∷ PushTyped ∷ PopTyped ∷ BitsTyped ∷ ShrTyped ∷ [])

rule_back-number : (a : Rule) → rule_back (rule_number a) ≡ a
rule_back-number ItemTyped = refl
rule_back-number LenBounded = refl
rule_back-number SetTyped = refl
rule_back-number PushTyped = refl
rule_back-number PopTyped = refl
rule_back-number BitsTyped = refl
rule_back-number ShrTyped = refl

abbrev equivalence_number : Equivalence → ℕ
equivalence_number Range = 0
equivalence_number BoolTyped = 1

abbrev equivalence_back : ℕ → Equivalence
equivalence_back n = pick n Range (Range ∷ BoolTyped ∷ [])

equivalence_back-number : (a : Equivalence) → equivalence_back (equivalence_number a) ≡ a
equivalence_back-number Range = refl
equivalence_back-number BoolTyped = refl

abbrev fact_number : Fact → ℕ
fact_number LenFromZero = 0
fact_number QuotientBounds = 1
fact_number MaxBound = 2
fact_number Whole = 3
fact_number EmptyTyped = 4
fact_number ShlTyped = 5
fact_number NothingUntyped = 6
fact_number TruthsDiffer = 7
fact_number TrueHolds = 8
fact_number FalseFails = 9
fact_number NothingFails = 10

abbrev fact_back : ℕ → Fact
fact_back n = pick n LenFromZero (LenFromZero ∷ QuotientBounds ∷ MaxBound ∷ Whole ∷ EmptyTyped ∷ ShlTyped ∷ NothingUntyped ∷ TruthsDiffer ∷ TrueHolds ∷ FalseFails ∷ NothingFails ∷ [])

fact_back-number : (a : Fact) → fact_back (fact_number a) ≡ a
fact_back-number LenFromZero = refl
fact_back-number QuotientBounds = refl
fact_back-number MaxBound = refl
fact_back-number Whole = refl
fact_back-number EmptyTyped = refl
fact_back-number ShlTyped = refl
fact_back-number NothingUntyped = refl
fact_back-number TruthsDiffer = refl
fact_back-number TrueHolds = refl
fact_back-number FalseFails = refl
fact_back-number NothingFails = refl

abbrev struct_axiom_number : StructAxiom → ℕ
struct_axiom_number FieldOfPack = 0
struct_axiom_number FieldSet = 1
struct_axiom_number FieldOfOther = 2
struct_axiom_number PackOfFields = 3
struct_axiom_number PackTyped = 4
struct_axiom_number FieldTyped = 5

abbrev struct_axiom_back : ℕ → StructAxiom
struct_axiom_back n = pick n FieldOfPack (FieldOfPack ∷ FieldSet ∷ FieldOfOther ∷ PackOfFields ∷ PackTyped ∷ FieldTyped ∷ [])

struct_axiom_back-number : (a : StructAxiom) → struct_axiom_back (struct_axiom_number a) ≡ a
struct_axiom_back-number FieldOfPack = refl
struct_axiom_back-number FieldSet = refl
struct_axiom_back-number FieldOfOther = refl
struct_axiom_back-number PackOfFields = refl
struct_axiom_back-number PackTyped = refl
struct_axiom_back-number FieldTyped = refl

abbrev pub axiom_code : Axiom → Gv
axiom_code (Equal a) = gcons (gnum 0) (gnum (equation_number a))
axiom_code (EqualUnless a) = gcons (gnum 1) (gnum (exception_number a))
axiom_code (Cases a) = gcons (gnum 2) (gnum (alternative_number a))
axiom_code (Implied a) = gcons (gnum 3) (gnum (rule_number a))
axiom_code (Exactly a) = gcons (gnum 4) (gnum (equivalence_number a))
axiom_code (Plain a) = gcons (gnum 5) (gnum (fact_number a))
axiom_code (OfStruct a) = gcons (gnum 6) (gnum (struct_axiom_number a))

abbrev pub axiom_back : Gv → Axiom
axiom_back g =
    let n = num (tail g) in
    pick (num (head g)) (Equal Itself) (Equal (equation_back n) ∷ EqualUnless (exception_back n) ∷ Cases (alternative_back n) ∷ Implied (rule_back n) ∷ Exactly (equivalence_back n) ∷ Plain (fact_back n) ∷ OfStruct (struct_axiom_back n) ∷ [])

pub axiom_back-code : (a : Axiom) → axiom_back (axiom_code a) ≡ a
axiom_back-code (Equal a) = ap Equal (equation_back-number a)
axiom_back-code (EqualUnless a) = ap EqualUnless (exception_back-number a)
axiom_back-code (Cases a) = ap Cases (alternative_back-number a)
axiom_back-code (Implied a) = ap Implied (rule_back-number a)
axiom_back-code (Exactly a) = ap Exactly (equivalence_back-number a)
axiom_back-code (Plain a) = ap Plain (fact_back-number a)
axiom_back-code (OfStruct a) = ap OfStruct (struct_axiom_back-number a)
