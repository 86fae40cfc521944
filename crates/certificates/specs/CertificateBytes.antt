-- The encoding of certificates: the byte 1, which identifies this format, and the steps of the tree in order.
use Rattle.std.specs.Prelude.{ℕ, List, [], ◌∷◌, ◌++◌, length}
use Rattle.axioms.specs.declared.axiom.Axiom.{Axiom}
use Rattle.axioms.specs.declared.axiom.Axiom.TheVariants.{Equal, EqualUnless, Cases, Implied, Exactly, Plain, OfStruct}
use Rattle.axioms.specs.declared.axiom.Equation.{Equation}
use Rattle.axioms.specs.declared.axiom.Equation.TheVariants.{Itself, SelectStored, SelectBlank, LenEmpty, LenPush, AtPushed, LenSet, Remainder, DivByZero, MulTurned, MulByOne, MulByZero}
use Rattle.axioms.specs.declared.axiom.Exception.{Exception}
use Rattle.axioms.specs.declared.axiom.Exception.TheVariants.{SelectOther, AtOtherPushed, LenPopped, AtPopped, AtOtherSet}
use Rattle.axioms.specs.declared.axiom.Alternative.{Alternative}
use Rattle.axioms.specs.declared.axiom.Alternative.TheVariants.{AtSet, SameItems, Choice, Trichotomy}
use Rattle.axioms.specs.declared.axiom.Rule.{Rule}
use Rattle.axioms.specs.declared.axiom.Rule.TheVariants.{ItemTyped, LenBounded, SetTyped, PushTyped, PopTyped, BitsTyped, ShrTyped}
use Rattle.axioms.specs.declared.axiom.Equivalence.{Equivalence}
use Rattle.axioms.specs.declared.axiom.Equivalence.TheVariants.{Range, BoolTyped}
use Rattle.axioms.specs.declared.axiom.Fact.{Fact}
use Rattle.axioms.specs.declared.axiom.Fact.TheVariants.{LenFromZero, QuotientBounds, MaxBound, Whole, EmptyTyped, ShlTyped, NothingUntyped, TruthsDiffer, TrueHolds, FalseFails, NothingFails}
use Rattle.axioms.specs.declared.axiom.StructAxiom.{StructAxiom}
use Rattle.axioms.specs.declared.axiom.StructAxiom.TheVariants.{FieldOfPack, FieldSet, FieldOfOther, PackOfFields, PackTyped, FieldTyped}
use Rattle.fol.specs.FormulaData.{FormulaData, formulas_of}
use Rattle.certificates.specs.declared.certificate.Multiple.{Multiple}
use Rattle.certificates.specs.Numbers.{index_bytes, whole_bytes}
use Rattle.certificates.specs.FormulaBytes.{term_bytes, formula_bytes, formulas_bytes}
use Rattle.certificates.specs.Trees.{TreeData, PartsTree, SplitTree, CutTree, NameTree, InstanceTree, RewriteTree, AxiomTree, BoundTree, LinearTree, ClashTree, FalseTree, CasesData, NoCases, MoreCases, list_of_cases}

-- ---- the numbers of the axioms; some on one subject share theirs, and are distinguished by the formula

abbrev pub equation_number : Equation → ℕ
equation_number Itself = 1
equation_number SelectStored = 2
equation_number SelectBlank = 4
equation_number LenEmpty = 6
equation_number LenPush = 7
equation_number AtPushed = 8
equation_number LenSet = 12
equation_number Remainder = 29
equation_number DivByZero = 29
equation_number MulTurned = 35
equation_number MulByOne = 35
equation_number MulByZero = 35

abbrev pub exception_number : Exception → ℕ
exception_number SelectOther = 3
exception_number AtOtherPushed = 9
exception_number LenPopped = 10
exception_number AtPopped = 11
exception_number AtOtherSet = 14

abbrev pub alternative_number : Alternative → ℕ
alternative_number AtSet = 13
alternative_number SameItems = 15
alternative_number Choice = 31
alternative_number Trichotomy = 32

abbrev pub rule_number : Rule → ℕ
rule_number ItemTyped = 22
rule_number LenBounded = 23
rule_number SetTyped = 24
rule_number PushTyped = 24
rule_number PopTyped = 24
rule_number BitsTyped = 33
rule_number ShrTyped = 33

abbrev pub equivalence_number : Equivalence → ℕ
equivalence_number Range = 20
equivalence_number BoolTyped = 27

abbrev pub fact_number : Fact → ℕ
fact_number LenFromZero = 5
fact_number QuotientBounds = 28
fact_number MaxBound = 30
fact_number Whole = 21
fact_number EmptyTyped = 24
fact_number ShlTyped = 33
fact_number NothingUntyped = 26
fact_number TruthsDiffer = 27
fact_number TrueHolds = 34
fact_number FalseFails = 34
fact_number NothingFails = 34

abbrev pub struct_axiom_number : StructAxiom → ℕ
struct_axiom_number FieldOfPack = 16
struct_axiom_number FieldSet = 17
struct_axiom_number FieldOfOther = 18
struct_axiom_number PackOfFields = 19
struct_axiom_number PackTyped = 25
struct_axiom_number FieldTyped = 25

abbrev pub axiom_number : Axiom → ℕ
axiom_number (Equal name) = equation_number name
axiom_number (EqualUnless name) = exception_number name
axiom_number (Cases name) = alternative_number name
axiom_number (Implied name) = rule_number name
axiom_number (Exactly name) = equivalence_number name
axiom_number (Plain name) = fact_number name
axiom_number (OfStruct name) = struct_axiom_number name

-- ---- steps

-- the items, without their number
abbrev pub list_bytes : List FormulaData → List ℕ
list_bytes ps = formulas_bytes (formulas_of ps)

abbrev pub multiples_bytes : List Multiple → List ℕ
multiples_bytes [] = []
multiples_bytes (m ∷ ms) = index_bytes m.entry ++ (whole_bytes m.multiplier ++ multiples_bytes ms)

-- the pattern of a rewrite, and the entry of a bound that makes its term a whole number, are not encoded
abbrev mutual
  pub tree_bytes : TreeData → List ℕ
  tree_bytes (PartsTree i ps next) =
      128 ∷ (index_bytes i ++ (index_bytes (length ps) ++ (list_bytes ps ++ tree_bytes next)))
  tree_bytes (SplitTree i cs) = 129 ∷ (index_bytes i ++ (index_bytes (length (list_of_cases cs)) ++ cases_bytes cs))
  tree_bytes (CutTree p next other) = 130 ∷ (formula_bytes p ++ (tree_bytes next ++ tree_bytes other))
  tree_bytes (NameTree i v p next) = 131 ∷ (index_bytes i ++ (index_bytes v ++ (formula_bytes p ++ tree_bytes next)))
  tree_bytes (InstanceTree i t p next) = 132 ∷ (index_bytes i ++ (term_bytes t ++ (formula_bytes p ++ tree_bytes next)))
  tree_bytes (RewriteTree i j x c p next) =
      133 ∷ (index_bytes i ++ (index_bytes j ++ (formula_bytes p ++ tree_bytes next)))
  tree_bytes (AxiomTree name p next) = 134 ∷ (index_bytes (axiom_number name) ++ (formula_bytes p ++ tree_bytes next))
  tree_bytes (BoundTree i t k next other) =
      135 ∷ (term_bytes t ++ (whole_bytes k ++ (tree_bytes next ++ tree_bytes other)))
  tree_bytes (LinearTree ms) = 136 ∷ (index_bytes (length ms) ++ multiples_bytes ms)
  tree_bytes (ClashTree i j) = 137 ∷ (index_bytes i ++ index_bytes j)
  tree_bytes (FalseTree i) = 138 ∷ index_bytes i

  pub cases_bytes : CasesData → List ℕ
  cases_bytes NoCases = []
  cases_bytes (MoreCases p next cs) = formula_bytes p ++ (tree_bytes next ++ cases_bytes cs)

abbrev pub certificate_bytes : TreeData → List ℕ
certificate_bytes tree = 1 ∷ tree_bytes tree
