-- Grown branches: each is extended step by step from the negation of a formula, by applications that are due when they
-- are applied (R. Smullyan, First-Order Logic, chapter II). The other branches are left out, and so is the time of an
-- application: it may come before those that a trace takes first.
use Rattle.std.specs.Prelude.{◌≡◌, ℕ, ℤ, pos, ◌+ℤ◌, List, [], ◌∷◌, slice_get, Some}
use Rattle.base.specs.TypeData.{NumType}
use Rattle.fol.specs.declared.shapes.Shape.{Shape}
use Rattle.fol.specs.FormulaData.{TermData, NumTerm, FormulaData, LeFormula, IsFormula, NotFormula}
use Rattle.certificates.specs.BranchesBranch.{Branch, Says}
use Rattle.certificates.specs.Due.{PartsDue, SplitDue, NameDue, InstanceDue, AxiomDue, CutDue, AreGenerations, IsShallow}
use Rattle.certificates.specs.ProofTraces.{Application, PartsApplication, NameApplication, InstanceApplication, AxiomApplication, SplitApplication, CutApplication, BoundApplication, CloseApplication, entry_with, left_of, IsShortBranch}
use Rattle.certificates.specs.declared.branches.origin.Origin.TheVariants.{Other}

-- the entry states that the term is a whole number, so it is at most k or at least the next number; neither side is
-- deeper than a step may add
pub record BoundsDue (b : Branch) (i : ℕ) (t : TermData) (k : ℤ) : Type 0 where
  pub says : Says b i (IsFormula NumType t)
  pub shallow : IsShallow (LeFormula t (NumTerm k))
  pub shallow_next : IsShallow (LeFormula (NumTerm (k +ℤ pos 1)) t)

-- the application adds formulas and is due, whatever the time
abbrev pub IsDueWhenever : List Shape → Branch → Application → Type 0
IsDueWhenever shapes b (PartsApplication i ps) = PartsDue b i ps
IsDueWhenever shapes b (NameApplication i v p) = NameDue b i v p
IsDueWhenever shapes b (InstanceApplication i t p generation) = InstanceDue b i t p generation
IsDueWhenever shapes b (AxiomApplication name p generation) = AxiomDue shapes b name p generation
IsDueWhenever shapes b (SplitApplication i ps) = SplitDue b i ps
IsDueWhenever shapes b (CutApplication t u generation) = CutDue b t u × AreGenerations b (t ∷ u ∷ []) generation
IsDueWhenever shapes b (BoundApplication i t k) = BoundsDue b i t k
IsDueWhenever shapes b (CloseApplication chain by) = ⊥

-- an application, and the number of the branch to continue with among those it leaves
pub record Step : Type 0 where
  pub application : Application
  pub case : ℕ

-- the step leads from the first branch to the second, which is not too long
pub record IsGrownStep (shapes : List Shape) (b : Branch) (s : Step) (c : Branch) : Type 0 where
  pub due : IsDueWhenever shapes b s.application
  pub left : slice_get (left_of b s.application) s.case ≡ Some c
  pub short : IsShortBranch c

-- such steps lead from the first branch to the second, one after another
abbrev pub IsGrownFrom : List Shape → Branch → List Step → Branch → Type 0
IsGrownFrom shapes b [] c = b ≡ c
IsGrownFrom shapes b (s ∷ ss) c = (d : Branch) × IsGrownStep shapes b s d × IsGrownFrom shapes d ss c

-- the branch with only the negation of the formula
abbrev pub denial : FormulaData → Branch
denial p = entry_with 0 Other (NotFormula p) ∷ []

-- the branch is one of the formula
pub record IsGrown (shapes : List Shape) (p : FormulaData) (b : Branch) : Type 0 where
  pub steps : List Step
  pub grown : IsGrownFrom shapes (denial p) steps b
