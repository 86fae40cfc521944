-- Certificates that close a branch: a closed analytic tableau (R. Smullyan, First-Order Logic, chapter II), with
-- Skolem names and instances of quantified formulas (chapter V), replacement of equals by equals, cuts, instances of
-- axioms, and contradictions of linear arithmetic.
use Rattle.std.specs.Prelude.{◌≡◌, ℕ, ◌+◌, ◌≤◌, List, [], ◌∷◌, ◌++◌, length, map, slice_get, Some, All}
use Rattle.axioms.specs.Axioms.{IsAxiom}
use Rattle.base.specs.TypeData.{NumType}
use Rattle.fol.specs.declared.operators.Comparison.TheVariants.{Eq}
use Rattle.fol.specs.declared.operators.Constant.TheVariants.{False}
use Rattle.fol.specs.declared.operators.Junction.TheVariants.{AllOf, AnyOf}
use Rattle.fol.specs.declared.operators.Quantifier.TheVariants.{ForAll, Exists}
use Rattle.fol.specs.declared.shapes.Shape.{Shape}
use Rattle.fol.specs.Depth.{term_depth, formula_depth}
use Rattle.fol.specs.FormulaData.{TermData, VarTerm, IsFormula, FormulaData, HoldsFormula, NotFormula, NoFormulas, CompareFormula, ConstantTerm, JoinFormula}
use Rattle.certificates.specs.CertData.{StepData, PartsStep, AxiomStep, InstanceStep, NameStep, RewriteStep, CloseData, LinearClose, ClashClose, FalseClose, MoveData, StraightMove, ForkedMove, ClosedMove}
use Rattle.certificates.specs.declared.certificate.Cause.{Cause}
use Rattle.certificates.specs.declared.certificate.Cause.TheVariants.{Split, Cut, Bound}
use Rattle.certificates.specs.Parts.{parts_of, cases_of}
use Rattle.certificates.specs.Linear.{IsContradiction}
use Rattle.certificates.specs.Quantified.{IsBodyWith, IsNew, AreCut, AreBounds}
use Rattle.certificates.specs.Rewriting.{IsRewriting}

-- the greatest number of entries of a branch
abbrev pub most_entries : ℕ
most_entries = 4000

-- the greatest depth of a formula or term in a step
abbrev pub most_deep : ℕ
most_deep = 2000

abbrev pub IsWithin : ℕ → FormulaData → Type 0
IsWithin limit p = formula_depth p ≤ limit

-- the entry with this number
abbrev pub IsEntry : List FormulaData → ℕ → FormulaData → Type 0
IsEntry entries i p = slice_get entries i ≡ Some p

-- ---- straight steps

-- the formulas that a straight step adds
abbrev pub added : StepData → List FormulaData
added (PartsStep i ps) = ps
added (AxiomStep name p) = p ∷ []
added (InstanceStep i t p) = p ∷ []
added (NameStep i v p) = p ∷ []
added (RewriteStep i j x c p) = p ∷ []

-- a straight step is allowed on a branch
abbrev pub IsAllowed : List Shape → List FormulaData → StepData → Type 0
IsAllowed shapes entries (PartsStep i ps) = (p : FormulaData) × IsEntry entries i p × (parts_of p ≡ Some ps)
IsAllowed shapes entries (AxiomStep name p) = IsAxiom shapes name p
IsAllowed shapes entries (InstanceStep i t p) = (q : FormulaData) × IsEntry entries i q × IsBodyWith ForAll t q p
IsAllowed shapes entries (NameStep i v p) =
    ((q : FormulaData) × IsEntry entries i q × IsBodyWith Exists (VarTerm v) q p) × IsNew v entries
IsAllowed shapes entries (RewriteStep i j x c p) =
    (e : FormulaData) × (q : FormulaData) × IsEntry entries i e × IsEntry entries j q × IsRewriting x c e q p

-- the depths of the formulas and terms of a straight step, other than those that it adds, are within the limit
abbrev pub NamesWithin : StepData → Type 0
NamesWithin (PartsStep i ps) = Unit {0}
NamesWithin (AxiomStep name p) = Unit {0}
NamesWithin (InstanceStep i t p) = term_depth t ≤ most_deep
NamesWithin (NameStep i v p) = Unit {0}
NamesWithin (RewriteStep i j x c p) = IsWithin most_deep c

-- ---- forks

-- one of the cases is true if the branch is
abbrev pub IsFork : List FormulaData → Cause → List FormulaData → Type 0
IsFork entries (Split i) ps = (p : FormulaData) × IsEntry entries i p × (cases_of p ≡ Some ps)
IsFork entries Cut ps = AreCut ps
IsFork entries (Bound i) ps = (t : TermData) × IsEntry entries i (IsFormula NumType t) × AreBounds t ps

-- the greatest depth of the cases: those of a split are within the limit; a cut is limited by the operand of its
-- second case, and a bound by the term that its cases compare, and these are one level deeper
abbrev pub most_deep_of : Cause → ℕ
most_deep_of (Split i) = most_deep
most_deep_of Cut = most_deep + 1
most_deep_of (Bound i) = most_deep + 1

-- ---- steps that close a branch

-- an entry that is false by its form
abbrev pub IsFalseNegated : FormulaData → Type 0
IsFalseNegated (JoinFormula AllOf NoFormulas) = Unit {0}
IsFalseNegated (CompareFormula Eq t u) = t ≡ u
IsFalseNegated _ = ⊥

abbrev pub IsFalseForm : FormulaData → Type 0
IsFalseForm (JoinFormula AnyOf NoFormulas) = Unit {0}
IsFalseForm (HoldsFormula (ConstantTerm False)) = Unit {0}
IsFalseForm (NotFormula p) = IsFalseNegated p
IsFalseForm _ = ⊥

abbrev pub IsClose : List FormulaData → CloseData → Type 0
IsClose entries (LinearClose ms) = IsContradiction entries ms
IsClose entries (ClashClose i j) = (p : FormulaData) × IsEntry entries i p × IsEntry entries j (NotFormula p)
IsClose entries (FalseClose i) = (p : FormulaData) × IsEntry entries i p × IsFalseForm p

-- ---- moves

-- the open branches, the first of which is current
abbrev pub OpenData : Type 0
OpenData = List (List FormulaData)

-- a straight step whose formulas and terms have depths within the limit
pub record IsStep (shapes : List Shape) (entries : List FormulaData) (step : StepData) : Type 0 where
  pub shallow : All (IsWithin most_deep) (added step)
  pub names : NamesWithin step
  pub allowed : IsAllowed shapes entries step

-- a fork whose cases have depths within the limit
pub record IsForkWithin (entries : List FormulaData) (cause : Cause) (ps : List FormulaData) : Type 0 where
  pub shallow : All (IsWithin (most_deep_of cause)) ps
  pub allowed : IsFork entries cause ps

abbrev pub IsMove : List Shape → List FormulaData → MoveData → Type 0
IsMove shapes entries (StraightMove step) = IsStep shapes entries step
IsMove shapes entries (ForkedMove cause ps) = IsForkWithin entries cause ps
IsMove shapes entries (ClosedMove by) = IsClose entries by

-- the branches that a move leaves of a branch
abbrev pub left_of : List FormulaData → MoveData → OpenData
left_of entries (StraightMove step) = (entries ++ added step) ∷ []
left_of entries (ForkedMove cause ps) = map (λ p. entries ++ p ∷ []) ps
left_of entries (ClosedMove by) = []

abbrev pub IsShort : List FormulaData → Type 0
IsShort entries = length entries ≤ most_entries

-- the move is allowed on the current branch, and leaves no branch that is too long
abbrev pub IsMoveIn : List Shape → OpenData → MoveData → Type 0
IsMoveIn shapes [] move = ⊥
IsMoveIn shapes (b ∷ bs) move = IsMove shapes b move × All IsShort (left_of b move)

abbrev pub after : OpenData → MoveData → OpenData
after [] move = []
after (b ∷ bs) move = left_of b move ++ bs

-- the moves close all branches, one move after another
abbrev pub Closes : List Shape → OpenData → List MoveData → Type 0
Closes shapes bs [] = bs ≡ []
Closes shapes bs (move ∷ moves) = IsMoveIn shapes bs move × Closes shapes (after bs move) moves

-- a certificate of a formula closes the branch that begins with the formula's negation
abbrev pub Certifies : List Shape → List MoveData → FormulaData → Type 0
Certifies shapes moves p = Closes shapes ((NotFormula p ∷ []) ∷ []) moves
