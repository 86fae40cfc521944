-- The rule applications that are due on a branch, one definition for each family, and saturation.
use Rattle.std.specs.Prelude.{◌≡◌, ◌≢◌, ℕ, ◌+◌, ◌≤◌, ◌<◌, ◌^◌, max, List, [], ◌∷◌, slice_get, Some, All}
use Rattle.base.specs.TypeData.{TypeData}
use Rattle.fol.specs.declared.operators.Quantifier.TheVariants.{ForAll, Exists}
use Rattle.fol.specs.declared.shapes.Shape.{Shape}
use Rattle.fol.specs.Depth.{term_depth, formula_depth}
use Rattle.fol.specs.FormulaData.{TermData, VarTerm, FormulaData, EqFormula, NotFormula, QuantifyFormula, SubTerm, LeFormula, TriggersData}
use Rattle.axioms.specs.declared.axiom.Axiom.{Axiom}
use Rattle.axioms.specs.declared.axiom.Axiom.TheVariants.{Cases}
use Rattle.axioms.specs.declared.axiom.Alternative.TheVariants.{Trichotomy}
use Rattle.axioms.specs.Equivalences.{greatest}
use Rattle.axioms.specs.Forms.{number, WholeFormula, DifferFormula}
use Rattle.certificates.specs.Closes.{most_deep, IsFalseForm}
use Rattle.certificates.specs.Parts.{parts_of, cases_of}
use Rattle.certificates.specs.Quantified.{IsBodyWith, IsNew as IsNewVariable}
use Rattle.certificates.specs.BranchesBranch.{Branch, Entry, formulas, Says, Stands, IsNew, IsGeneration}
use Rattle.certificates.specs.Joined.{Joined, IsAlike}
use Rattle.certificates.specs.Match.{IsMatch}
use Rattle.certificates.specs.Names.{above_all}
use Rattle.certificates.specs.Table.{Asks, some_of, range_axiom}
use Rattle.certificates.specs.Decisions.{AsksDecision, AreNumbers, IsUndecided}
use Rattle.certificates.specs.declared.branches.origin.Origin.TheVariants.{Name}

-- a formula that a step may add: its depth is within the limit
abbrev pub IsShallow : FormulaData → Type 0
IsShallow p = formula_depth p ≤ most_deep

-- some formula of a list is new on the branch
pub record HasNew (b : Branch) (ps : List FormulaData) : Type 0 where
  pub position : ℕ
  pub formula : FormulaData
  pub found : slice_get ps position ≡ Some formula
  pub is_new : IsNew b formula

-- ---- alpha, beta and delta rules

-- the alpha rule: the parts (conjuncts) of an entry, some of which is new
pub record PartsDue (b : Branch) (i : ℕ) (ps : List FormulaData) : Type 0 where
  pub entry : FormulaData
  pub says : Says b i entry
  pub are_parts : parts_of entry ≡ Some ps
  pub news : HasNew b ps
  pub shallow : All IsShallow ps

-- the beta rule (case split): the cases of a disjunction, each of which is new
pub record SplitDue (b : Branch) (i : ℕ) (ps : List FormulaData) : Type 0 where
  pub entry : FormulaData
  pub says : Says b i entry
  pub are_cases : cases_of entry ≡ Some ps
  pub some : ps ≢ []
  pub news : All (IsNew b) ps
  pub shallow : All IsShallow ps

-- an entry is the instance by a Skolem name of the entry with this number
pub record IsNamed (b : Branch) (i : ℕ) : Type 0 where
  pub position : ℕ
  pub entry : Entry
  pub found : slice_get b position ≡ Some entry
  pub names : entry.origin ≡ Name i

-- a number of a variable: these are unsigned integers of 32 bits
abbrev pub IsVariable : ℕ → Type 0
IsVariable v = v < 2 ^ 32

-- the delta rule: a Skolem name for an existential entry that has none yet: the least number above all variables of
-- the branch, free and bound. If that is no number of a variable, no name is due
pub record NameDue (b : Branch) (i v : ℕ) (p : FormulaData) : Type 0 where
  pub entry : FormulaData
  pub says : Says b i entry
  pub is_body : IsBodyWith Exists (VarTerm v) entry p
  pub is_new : IsNewVariable v (formulas b)
  pub is_above : v ≡ above_all (formulas b)
  pub is_variable : IsVariable v
  pub unnamed : IsNamed b i → ⊥
  pub shallow : IsShallow p

-- ---- gamma rule: instances of quantified formulas

-- the greatest number of gamma instances that lead to a formula
abbrev pub most_generations : ℕ
most_generations = 3

-- the entry is a universal quantification, possibly as a negated existential one, and this term matches it
pub data IsMatched (b : Branch) (t : TermData) : FormulaData → Type 0 where
  ForAllMatched : (n : ℕ) (triggers : TriggersData) (body : FormulaData) → IsMatch b n triggers body t → IsMatched b t (QuantifyFormula ForAll n triggers body)
  NoneMatched : (n : ℕ) (triggers : TriggersData) (body : FormulaData) → IsMatch b n triggers body t → IsMatched b t (NotFormula (QuantifyFormula Exists n triggers body))

-- the instance of the quantified formula for the term is on the branch, up to alpha equivalence
pub record HasInstance (b : Branch) (entry : FormulaData) (t : TermData) : Type 0 where
  pub body : FormulaData
  pub stands : Stands b body
  pub is_body : IsBodyWith ForAll t entry body

-- the gamma rule: the instance for a matching term that has none yet: one generation above the entry and the term
pub record InstanceDue (b : Branch) (i : ℕ) (t : TermData) (p : FormulaData) (generation : ℕ) : Type 0 where
  pub entry : Entry
  pub found : slice_get b i ≡ Some entry
  pub matched : IsMatched b t entry.formula
  pub is_body : IsBodyWith ForAll t entry.formula p
  pub older : ℕ
  pub is_older : IsGeneration b t older
  pub next : generation ≡ max entry.generation older + 1
  pub few : generation ≤ most_generations
  pub unsaid : HasInstance b entry.formula t → ⊥
  pub shallow : IsShallow p
  pub shallow_term : term_depth t ≤ most_deep

-- ---- instances of axioms

-- two whole numbers are equal, or one of them is at most the other minus 1
abbrev pub trichotomy_axiom : TermData → TermData → FormulaData
trichotomy_axiom t u =
    some_of (NotFormula (WholeFormula t) ∷ NotFormula (WholeFormula u) ∷ EqFormula t u ∷ LeFormula t (SubTerm u (number 1)) ∷ LeFormula u (SubTerm t (number 1)) ∷ [])

-- the order of two numbers is undecided: they are of different classes, and the instance with the two swapped is not
-- on the branch
pub record IsUnordered (b : Branch) (t u : TermData) : Type 0 where
  pub not_joined : Joined b t u → ⊥
  pub not_turned : Stands b (trichotomy_axiom u t) → ⊥

-- triggered by the table, or as a decision on two numbers
pub data AsksAxiom (shapes : List Shape) (b : Branch) : Axiom → List TermData → FormulaData → Type 0 where
  ByTable : (name : Axiom) (ts : List TermData) (p : FormulaData) → Asks shapes b name ts p → AsksAxiom shapes b name ts p
  AsDecision : (t u : TermData) → IsUnordered b t u → AsksDecision b t u → AreNumbers b t u → AsksAxiom shapes b (Cases Trichotomy) (t ∷ u ∷ []) (trichotomy_axiom t u)

-- the greatest of the generations of terms, and 0 for none
pub data AreGenerations (b : Branch) : List TermData → ℕ → Type 0 where
  OfNone : AreGenerations b [] 0
  OfMore : (t : TermData) (ts : List TermData) (g h : ℕ) → IsGeneration b t g → AreGenerations b ts h → AreGenerations b (t ∷ ts) (max g h)

pub record AxiomDue (shapes : List Shape) (b : Branch) (name : Axiom) (p : FormulaData) (generation : ℕ) : Type 0 where
  pub terms : List TermData
  pub triggered : AsksAxiom shapes b name terms p
  pub generations : AreGenerations b terms generation
  pub is_new : IsNew b p
  pub shallow : IsShallow p

-- ---- a cut on the equality of two terms that are not both known as numbers

pub record CutDue (b : Branch) (t u : TermData) : Type 0 where
  pub triggered : AsksDecision b t u
  pub no_numbers : AreNumbers b t u → ⊥
  pub undecided : IsUndecided b t u
  pub is_new : IsNew b (EqFormula t u)
  pub denial_is_new : IsNew b (DifferFormula t u)
  pub shallow : IsShallow (DifferFormula t u)

-- ---- saturation

-- nothing is due
pub record NothingDue (shapes : List Shape) (b : Branch) : Type 0 where
  pub no_parts : (i : ℕ) (ps : List FormulaData) → PartsDue b i ps → ⊥
  pub no_split : (i : ℕ) (ps : List FormulaData) → SplitDue b i ps → ⊥
  pub no_name : (i v : ℕ) (p : FormulaData) → NameDue b i v p → ⊥
  pub no_instance : (i : ℕ) (t : TermData) (p : FormulaData) (g : ℕ) → InstanceDue b i t p g → ⊥
  pub no_axiom : (name : Axiom) (p : FormulaData) (g : ℕ) → AxiomDue shapes b name p g → ⊥
  pub no_cut : (t u : TermData) → CutDue b t u → ⊥

-- up to classes no entry denies another one, or denies that a term is equal to itself, and none is false by its form
pub record IsNotClosed (b : Branch) : Type 0 where
  pub no_clash : (p q : FormulaData) → Stands b p → Stands b (NotFormula q) → IsAlike b [] p q → ⊥
  pub no_differing : (t u : TermData) → Stands b (DifferFormula t u) → Joined b t u → ⊥
  pub no_false : (p : FormulaData) → Stands b p → IsFalseForm p → ⊥

-- a Hintikka set (R. Smullyan, First-Order Logic, chapter II) with equality and the axioms
pub record IsSaturated (shapes : List Shape) (b : Branch) : Type 0 where
  pub nothing_due : NothingDue shapes b
  pub not_closed : IsNotClosed b

-- ---- rules that come before decisions and splits

-- the entry is an instance of the axiom on the range of a type
pub record IsRange (p : FormulaData) : Type 0 where
  pub type : TypeData
  pub term : TermData
  pub most : TermData
  pub is_most : greatest type ≡ Some most
  pub is : p ≡ range_axiom type term most
