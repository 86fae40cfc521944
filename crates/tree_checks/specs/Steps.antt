-- Steps by number: whether an application by number is due, whatever the time, and where steps lead, one after another.
use Rattle.std.specs.Prelude.{◌≡◌, ℕ, ◌<◌, ◌^◌, List, [], ◌∷◌, slice_get, Some, All}
use Rattle.fol.specs.declared.shapes.Shape.{Shape}
use Rattle.term_pool.specs.declared.node.Node.{Node}
use Rattle.certificates.specs.BranchesBranch.{Branch, formulas}
use Rattle.certificates.specs.Names.{above_all}
use Rattle.certificates.specs.ProofTraces.{Application, entry_with, left_of, IsShortBranch}
use Rattle.certificates.specs.declared.branches.origin.Origin.TheVariants.{Other}
use Rattle.tableau.specs.PoolBranches.{IsTermNumber}
use Rattle.tableau.specs.Numbers.{formula_at, AreFormulas}
use Rattle.search.specs.Applications.{terms_of, entry_of, IsGenerationFrom, IsExtensionOf}
use Rattle.search.specs.declared.trees.application.Extension.{Extension}
use Rattle.search.specs.declared.trees.application.Reason.{Reason}
use Rattle.search.specs.declared.trees.application.Reason.TheVariants.{Axiom}
use Rattle.tree_checks.specs.Grown.{IsDueWhenever}
use Rattle.tree_checks.specs.declared.grown.steps.GrownStep.{GrownStep}

-- the numbers in it are those of formulas and of terms
pub record HasNumbers (ns : List Node) (g : Extension) : Type 0 where
  pub formulas : AreFormulas ns g.formulas.items
  pub terms : All (IsTermNumber ns) (terms_of g.reason)

-- the same for each step
pub record AreNumbered (ns : List Node) (ss : List GrownStep) : Type 0 where
  pub each : All (λ s. HasNumbers ns s.extension) ss

-- axiom instances are due only while a variable number is left above those of the branch
abbrev pub HasRoomFor : Reason → Branch → Type 0
HasRoomFor (Axiom name) b = above_all (formulas b) < 2 ^ 32
HasRoomFor _ b = Unit {0}

-- the extension by number is due on the branch, whatever the time, and its generation is right
pub record IsGrowing (shapes : List Shape) (ns : List Node) (b : Branch) (g : Extension) : Type 0 where
  pub application : Application
  pub is : IsExtensionOf ns g application
  pub from : IsGenerationFrom b (entry_of g.reason) g.generation
  pub due : IsDueWhenever shapes b application
  pub room : HasRoomFor g.reason b

-- the step leads from the first branch to the second
pub record IsTaken (shapes : List Shape) (ns : List Node) (b : Branch) (s : GrownStep) (c : Branch) : Type 0 where
  pub growing : IsGrowing shapes ns b s.extension
  pub left : slice_get (left_of b growing.application) s.case ≡ Some c
  pub short : IsShortBranch c

-- the step leads nowhere
pub record IsNotTaken (shapes : List Shape) (ns : List Node) (b : Branch) (s : GrownStep) : Type 0 where
  pub none : (c : Branch) → IsTaken shapes ns b s c → ⊥

-- the steps lead from the first branch to the second, one after another
abbrev pub LeadsTo : List Shape → List Node → Branch → List GrownStep → Branch → Type 0
LeadsTo shapes ns b [] c = b ≡ c
LeadsTo shapes ns b (s ∷ ss) c = (d : Branch) × IsTaken shapes ns b s d × LeadsTo shapes ns d ss c

-- the steps lead nowhere
pub record LeadsNowhere (shapes : List Shape) (ns : List Node) (b : Branch) (ss : List GrownStep) : Type 0 where
  pub none : (c : Branch) → LeadsTo shapes ns b ss c → ⊥

-- the branch whose one entry is the formula with this number
abbrev pub first_branch : List Node → ℕ → Branch
first_branch ns n = entry_with 0 Other (formula_at ns n) ∷ []
