-- The proof trace of a search tree: its rule applications in depth-first order. They extend the first branch and, when
-- an application closes it, go on with the next open one. Each application is due on its branch.
use Rattle.std.specs.Prelude.{◌≡◌, ℕ, suc, ◌+◌, ◌≤◌, ◌^◌, ℤ, pos, ◌+ℤ◌, ◌*ℤ◌, List, [], ◌∷◌, ◌++◌, length, map, slice_get, Option, Some, None, All, Contains}
use Rattle.std.proofs.Common.{◌<ℤ◌}
use Rattle.base.specs.TypeData.{NumType}
use Rattle.fol.specs.declared.shapes.Shape.{Shape}
use Rattle.fol.specs.FormulaData.{TermData, NumTerm, FormulaData, EqFormula, LeFormula, IsFormula, NotFormula}
use Rattle.axioms.specs.declared.axiom.Axiom.{Axiom}
use Rattle.axioms.specs.declared.axiom.Axiom.TheVariants.{Equal, Exactly, Plain}
use Rattle.axioms.specs.declared.axiom.Equation.TheVariants.{Itself}
use Rattle.axioms.specs.declared.axiom.Equivalence.TheVariants.{Range}
use Rattle.axioms.specs.declared.axiom.Fact.TheVariants.{Whole}
use Rattle.axioms.specs.Forms.{DifferFormula}
use Rattle.certificates.specs.CertData.{StepData, AxiomStep, RewriteStep, CloseData}
use Rattle.certificates.specs.Closes.{most_entries, IsStep, IsClose, added}
use Rattle.linear_arith.specs.Inequality.{Inequality}
use Rattle.linear_arith.specs.Elimination.{ReachesLimit}
use Rattle.linear_arith.specs.declared.rows.Fraction.{Fraction}
use Rattle.linear_arith.specs.Answer.{IsSolution}
use Rattle.linear_arith.specs.Values.{AreAllChosen}
use Rattle.linear_arith.specs.Wide.{IsWide}
use Rattle.certificates.specs.BranchesBranch.{Branch, Entry, formulas, Says}
use Rattle.certificates.specs.Inside.{StandsInside}
use Rattle.certificates.specs.Names.{above_all}
use Rattle.certificates.specs.Due.{PartsDue, SplitDue, NameDue, InstanceDue, AxiomDue, CutDue, AreGenerations, IsNotClosed, IsSaturated, IsRange, IsShallow}
use Rattle.certificates.specs.Rows.{AreBranchRows, IsWholeIfNumber, Meets, MeetsWhole}
use Rattle.certificates.specs.declared.branches.origin.Origin.{Origin}
use Rattle.certificates.specs.declared.branches.origin.Origin.TheVariants.{Name, Other}

-- a rule application, with the generation of the entries that it adds if no entry determines it
pub data Application : Type 0 where
  PartsApplication : ℕ → List FormulaData → Application
  NameApplication : ℕ → ℕ → FormulaData → Application
  InstanceApplication : ℕ → TermData → FormulaData → ℕ → Application
  AxiomApplication : Axiom → FormulaData → ℕ → Application
  SplitApplication : ℕ → List FormulaData → Application
  CutApplication : TermData → TermData → ℕ → Application
  BoundApplication : ℕ → TermData → ℤ → Application
  CloseApplication : List StepData → CloseData → Application

-- ---- the entries that applications add

abbrev pub entry_with : ℕ → Origin → FormulaData → Entry
entry_with generation origin p = record { formula = p; generation = generation; origin = origin }

abbrev pub generation_in : Option Entry → ℕ
generation_in None = 0
generation_in (Some e) = e.generation

abbrev pub generation_at : Branch → ℕ → ℕ
generation_at b i = generation_in (slice_get b i)

-- the branches that an application leaves of a branch
abbrev pub left_of : Branch → Application → List Branch
left_of b (PartsApplication i ps) = (b ++ map (entry_with (generation_at b i) Other) ps) ∷ []
left_of b (NameApplication i v p) = (b ++ entry_with (generation_at b i) (Name i) p ∷ []) ∷ []
left_of b (InstanceApplication i t p generation) = (b ++ entry_with generation Other p ∷ []) ∷ []
left_of b (AxiomApplication name p generation) = (b ++ entry_with generation Other p ∷ []) ∷ []
left_of b (SplitApplication i ps) = map (λ p. b ++ entry_with (generation_at b i) Other p ∷ []) ps
left_of b (CutApplication t u generation) =
    map (λ p. b ++ entry_with generation Other p ∷ []) (EqFormula t u ∷ DifferFormula t u ∷ [])
left_of b (BoundApplication i t k) =
    map (λ p. b ++ entry_with (generation_at b i) Other p ∷ []) (LeFormula t (NumTerm k) ∷ LeFormula (NumTerm (k +ℤ pos 1)) t ∷ [])
left_of b (CloseApplication chain by) = []

-- ---- late applications

-- parts, names, instances of the axioms on which terms are whole numbers of a range, and splits of these come first
pub record NothingEarly (shapes : List Shape) (b : Branch) : Type 0 where
  pub no_parts : (i : ℕ) (ps : List FormulaData) → PartsDue b i ps → ⊥
  pub no_name : (i v : ℕ) (p : FormulaData) → NameDue b i v p → ⊥
  pub no_range : (p : FormulaData) (g : ℕ) → AxiomDue shapes b (Exactly Range) p g → ⊥
  pub no_whole : (p : FormulaData) (g : ℕ) → AxiomDue shapes b (Plain Whole) p g → ⊥
  pub no_range_split : (i : ℕ) (p : FormulaData) (ps : List FormulaData) → Says b i p → IsRange p → SplitDue b i ps → ⊥

-- a late application requires a branch that nothing closes yet: no clash, no false entry, and some values meet its
-- rows
pub record IsLate (shapes : List Shape) (b : Branch) : Type 0 where
  pub nothing_early : NothingEarly shapes b
  pub not_closed : IsNotClosed b
  pub values : List Fraction
  pub met : Meets b values

-- a split of an instance of the range axiom is early, any other is late
pub data IsSplitTime (shapes : List Shape) (b : Branch) (i : ℕ) : Type 0 where
  OfRange : (p : FormulaData) → Says b i p → IsRange p → IsSplitTime shapes b i
  Late : IsLate shapes b → IsSplitTime shapes b i

-- ---- a bound on a number that has no whole value

-- the value lies between k and k + 1
pub record IsBetween (k : ℤ) (v : Fraction) : Type 0 where
  pub above : (k *ℤ v.denominator) <ℤ v.numerator
  pub below : v.numerator <ℤ ((k +ℤ pos 1) *ℤ v.denominator)

-- nothing else is due, an elimination of the rows gives values, and the first value of a number that is not whole, in
-- the order in which the values are chosen, is that of the class of t
pub record BoundDue (shapes : List Shape) (b : Branch) (i : ℕ) (t : TermData) (k : ℤ) : Type 0 where
  pub saturated : IsSaturated shapes b
  pub says : Says b i (IsFormula NumType t)
  pub class : TermData → ℕ
  pub classes : List ℕ
  pub rows : List Inequality
  pub are_rows : AreBranchRows b class classes rows
  pub before : List Fraction
  pub value : Fraction
  pub after : List Fraction
  pub chosen : AreAllChosen rows (before ++ value ∷ after)
  pub solution : IsSolution rows (before ++ value ∷ after)
  pub whole_before : All (IsWholeIfNumber b class classes) before
  pub of_term : slice_get classes value.unknown ≡ Some (class t)
  pub between : IsBetween k value
  pub shallow : IsShallow (LeFormula (NumTerm (k +ℤ pos 1)) t)

-- ---- closing

-- the reflexivity axiom of a term that occurs in an entry
pub record IsItself (b : Branch) (name : Axiom) (p : FormulaData) : Type 0 where
  pub is_axiom : name ≡ Equal Itself
  pub term : TermData
  pub stands : StandsInside b term
  pub is : p ≡ EqFormula term term

-- a step of an explanation: the reflexivity of a term, or the replacement of equals by equals
abbrev pub IsLinkStep : Branch → StepData → Type 0
IsLinkStep b (AxiomStep name p) = IsItself b name p
IsLinkStep b (RewriteStep i j x c p) = Unit {0}
IsLinkStep b _ = ⊥

-- the step adds only formulas that are not among these
pub record IsLink (b : Branch) (ps : List FormulaData) (s : StepData) : Type 0 where
  pub step : IsLinkStep b s
  pub news : All (λ p. Contains ps p → ⊥) (added s)

-- such steps, one after another
abbrev pub AreLinks : List Shape → Branch → List FormulaData → List StepData → Type 0
AreLinks shapes b ps [] = Unit {0}
AreLinks shapes b ps (s ∷ ss) = IsLink b ps s × IsStep shapes ps s × AreLinks shapes b (ps ++ added s) ss

abbrev pub after_links : List FormulaData → List StepData → List FormulaData
after_links ps [] = ps
after_links ps (s ∷ ss) = after_links (ps ++ added s) ss

-- an explanation by such steps, and a step that closes the branch after them
pub record ClosesBranch (shapes : List Shape) (b : Branch) (chain : List StepData) (by : CloseData) : Type 0 where
  pub links : AreLinks shapes b (formulas b) chain
  pub short : length (after_links (formulas b) chain) ≤ most_entries
  pub closes : IsClose (after_links (formulas b) chain) by

-- ---- traces

abbrev pub IsDueApplication : List Shape → Branch → Application → Type 0
IsDueApplication shapes b (PartsApplication i ps) = PartsDue b i ps
IsDueApplication shapes b (NameApplication i v p) = NameDue b i v p
IsDueApplication shapes b (InstanceApplication i t p generation) = InstanceDue b i t p generation
IsDueApplication shapes b (AxiomApplication name p generation) = AxiomDue shapes b name p generation
IsDueApplication shapes b (SplitApplication i ps) = SplitDue b i ps × IsSplitTime shapes b i
IsDueApplication shapes b (CutApplication t u generation) =
    CutDue b t u × AreGenerations b (t ∷ u ∷ []) generation × IsLate shapes b
IsDueApplication shapes b (BoundApplication i t k) = BoundDue shapes b i t k
IsDueApplication shapes b (CloseApplication chain by) = ClosesBranch shapes b chain by

-- the open branches, the first of which is current
abbrev pub OpenBranches : Type 0
OpenBranches = List Branch

abbrev pub after_application : OpenBranches → Application → OpenBranches
after_application [] application = []
after_application (b ∷ bs) application = left_of b application ++ bs

abbrev pub after_applications : OpenBranches → List Application → OpenBranches
after_applications bs [] = bs
after_applications bs (application ∷ applications) = after_applications (after_application bs application) applications

abbrev pub IsShortBranch : Branch → Type 0
IsShortBranch b = length b ≤ most_entries

-- the application is due on the current branch, and leaves no branch that is too long
abbrev pub IsDueIn : List Shape → OpenBranches → Application → Type 0
IsDueIn shapes [] application = ⊥
IsDueIn shapes (b ∷ bs) application = IsDueApplication shapes b application × All IsShortBranch (left_of b application)

-- each application of a trace is due
abbrev pub AreDue : List Shape → OpenBranches → List Application → Type 0
AreDue shapes bs [] = Unit {0}
AreDue shapes bs (application ∷ applications) = IsDueIn shapes bs application × AreDue shapes (after_application bs application) applications

-- the tableau for a formula begins with the formula's negation
abbrev pub begun : FormulaData → OpenBranches
begun p = (entry_with 0 Other (NotFormula p) ∷ []) ∷ []

-- the number of steps of a trace: a closing application is none, but each explanation step before it is one
abbrev pub steps_in : List Application → ℕ
steps_in [] = 0
steps_in (CloseApplication chain by ∷ applications) = length chain + steps_in applications
steps_in (application ∷ applications) = suc (steps_in applications)

-- ---- the evidence in the answers of a search

-- a due trace that leaves no branch open
pub record IsProof (shapes : List Shape) (p : FormulaData) (applications : List Application) : Type 0 where
  pub due : AreDue shapes (begun p) applications
  pub closed : after_applications (begun p) applications ≡ []

-- the first branch that a due trace leaves open
pub record IsReached (shapes : List Shape) (p : FormulaData) (applications : List Application) (b : Branch) : Type 0 where
  pub others : OpenBranches
  pub due : AreDue shapes (begun p) applications
  pub first : after_applications (begun p) applications ≡ b ∷ others

-- the branch is saturated, and values meet its rows, whole ones for numbers
pub record IsOpenBranch (shapes : List Shape) (p : FormulaData) (applications : List Application) (b : Branch) (values : List Fraction) : Type 0 where
  pub reached : IsReached shapes p applications b
  pub saturated : IsSaturated shapes b
  pub met : MeetsWhole b values

-- an elimination of the rows of a reached branch meets two rows whose sum overflows 128 bits
pub record IsWideBranch (shapes : List Shape) (p : FormulaData) (applications : List Application) (b : Branch) (first second : Inequality) : Type 0 where
  pub reached : IsReached shapes p applications b
  pub class : TermData → ℕ
  pub classes : List ℕ
  pub rows : List Inequality
  pub are_rows : AreBranchRows b class classes rows
  pub wide : IsWide rows first second

-- an elimination of the rows of a reached branch reaches 5,000 rows
pub record IsLargeBranch (shapes : List Shape) (p : FormulaData) (applications : List Application) (b : Branch) (found : List Inequality) : Type 0 where
  pub reached : IsReached shapes p applications b
  pub class : TermData → ℕ
  pub classes : List ℕ
  pub rows : List Inequality
  pub are_rows : AreBranchRows b class classes rows
  pub limit : ReachesLimit rows found

-- a partial tableau: a due trace with this number of steps. `EndsInChain` is the case of a trace that ends within the
-- explanation that would close the current branch
pub record IsPartialTree (shapes : List Shape) (p : FormulaData) (applications : List Application) (count : ℕ) : Type 0 where
  pub due : AreDue shapes (begun p) applications
  pub steps : steps_in applications ≡ count

pub record EndsInChain (shapes : List Shape) (p : FormulaData) (applications : List Application) (done rest : List StepData) (by : CloseData) (count : ℕ) : Type 0 where
  pub b : Branch
  pub reached : IsReached shapes p applications b
  pub closes : ClosesBranch shapes b (done ++ rest) by
  pub steps : steps_in applications + length done ≡ count

-- a branch that no certificate can extend: it has the greatest number of entries, or a due application or the
-- explanation that would close it exceeds that number; or it has an entry deeper than a step may add, whose parts need
-- not fit either; or no number of a variable is left above those on it
pub data IsFull (shapes : List Shape) (b : Branch) : Type 0 where
  Now : length b ≡ most_entries → IsFull shapes b
  Next : (application : Application) → IsDueApplication shapes b application → (All IsShortBranch (left_of b application) → ⊥) → IsFull shapes b
  Chain : (chain : List StepData) (by : CloseData) → AreLinks shapes b (formulas b) chain → IsClose (after_links (formulas b) chain) by → (length (after_links (formulas b) chain) ≤ most_entries → ⊥) → IsFull shapes b
  Deep : (i : ℕ) (p : FormulaData) → Says b i p → (IsShallow p → ⊥) → IsFull shapes b
  Crowded : 2 ^ 32 ≤ above_all (formulas b) → IsFull shapes b
