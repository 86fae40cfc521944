-- Given proof traces, by number: whether the applications are due one after another, each with the grounds on which it
-- may come where it is, and what that shows about the formula.
use Rattle.std.specs.Prelude.{◌≡◌, ℕ, ◌+◌, ◌≤◌, List, [], ◌∷◌, ◌++◌, length, map, take, drop, Option, Some, None, All}
use Rattle.std.specs.List.{AllZip}
use Rattle.fol.specs.declared.shapes.Shape.{Shape}
use Rattle.fol.specs.FormulaData.{FormulaData}
use Rattle.certificates.specs.CertView.{close_of_node}
use Rattle.term_pool.specs.declared.node.Node.{Node}
use Rattle.certificates.specs.BranchesBranch.{Branch}
use Rattle.certificates.specs.ProofTraces.{Application, OpenBranches, left_of, IsShortBranch, ClosesBranch, IsPartialTree, EndsInChain}
use Rattle.explanations.specs.Chains.{step_in}
use Rattle.search.specs.Applications.{IsApplicationOf}
use Rattle.search.specs.declared.trees.application.Closing.{Closing}
use Rattle.search.specs.declared.trees.application.PoolApplication.{PoolApplication}
use Rattle.search.specs.declared.trees.application.PoolApplication.TheVariants.{Grown as PoolGrown, Closed as PoolClosed}
use Rattle.step_checks.specs.Links.{AreNamed}
use Rattle.tree_checks.specs.Steps.{HasNumbers}
use Rattle.tree_checks.specs.Timely.{IsDueBy}
use Rattle.tree_checks.specs.declared.partial.applications.GivenExtension.{GivenExtension}
use Rattle.tree_checks.specs.declared.partial.applications.GivenApplication.{GivenApplication}
use Rattle.tree_checks.specs.declared.partial.applications.GivenApplication.TheVariants.{Grown, Closed}
use Rattle.tree_checks.specs.declared.partial.applications.GivenChain.{GivenChain}
use Rattle.tree_checks.specs.declared.partial.applications.GivenTree.{GivenTree}

-- ---- numbers in applications

-- the numbers in it are those of formulas and of terms
abbrev pub IsNumbered : List Node → GivenApplication → Type 0
IsNumbered ns (Grown given) = HasNumbers ns given.extension
IsNumbered ns (Closed closing) = AreNamed ns closing.chain.items

abbrev pub IsChainNumbered : List Node → Option GivenChain → Type 0
IsChainNumbered ns None = Unit {0}
IsChainNumbered ns (Some given) = AreNamed ns given.closing.chain.items

pub record IsTreeNumbered (ns : List Node) (tree : GivenTree) : Type 0 where
  pub applications : All (IsNumbered ns) tree.applications.items
  pub chain : IsChainNumbered ns tree.chain

-- ---- applications one after another

-- the extension is due on the current branch, and leaves no branch that is too long; these branches are then open
pub record IsGrownBy (shapes : List Shape) (ns : List Node) (bs : OpenBranches) (given : GivenExtension) (cs : OpenBranches) : Type 0 where
  pub b : Branch
  pub rest : OpenBranches
  pub is : bs ≡ b ∷ rest
  pub due : IsDueBy shapes ns b given
  pub short : All IsShortBranch (left_of b due.growing.application)
  pub left : cs ≡ left_of b due.growing.application ++ rest

-- the application closes the current branch
pub record IsClosedBy (shapes : List Shape) (ns : List Node) (bs : OpenBranches) (closing : Closing) (cs : OpenBranches) : Type 0 where
  pub b : Branch
  pub is : bs ≡ b ∷ cs
  pub closes : ClosesBranch shapes b (map (step_in ns) closing.chain.items) (close_of_node closing.by)

abbrev pub IsTakenBy : List Shape → List Node → OpenBranches → GivenApplication → OpenBranches → Type 0
IsTakenBy shapes ns bs (Grown given) cs = IsGrownBy shapes ns bs given cs
IsTakenBy shapes ns bs (Closed closing) cs = IsClosedBy shapes ns bs closing cs

-- the application is not due, or leaves a branch that is too long
pub record IsNotTakenBy (shapes : List Shape) (ns : List Node) (bs : OpenBranches) (application : GivenApplication) : Type 0 where
  pub none : (cs : OpenBranches) → IsTakenBy shapes ns bs application cs → ⊥

-- the applications are due one after another, and leave these branches open
abbrev pub AreTakenBy : List Shape → List Node → OpenBranches → List GivenApplication → OpenBranches → Type 0
AreTakenBy shapes ns bs [] cs = bs ≡ cs
AreTakenBy shapes ns bs (application ∷ applications) cs = (ds : OpenBranches) × IsTakenBy shapes ns bs application ds × AreTakenBy shapes ns ds applications cs

-- ---- steps

-- a closing is no step, but each step of its explanation is one
abbrev pub steps_of : GivenApplication → ℕ
steps_of (Grown given) = 1
steps_of (Closed closing) = length closing.chain.items

abbrev pub steps_in_all : List GivenApplication → ℕ
steps_in_all [] = 0
steps_in_all (application ∷ applications) = steps_of application + steps_in_all applications

abbrev pub links_of : Option GivenChain → ℕ
links_of None = 0
links_of (Some given) = given.links

-- ---- partial tableaux

-- the closing in which the trace ends closes the current branch, and at most as many steps of its explanation count as
-- there are
pub record EndsAmong (shapes : List Shape) (ns : List Node) (bs : OpenBranches) (given : GivenChain) : Type 0 where
  pub b : Branch
  pub rest : OpenBranches
  pub is : bs ≡ b ∷ rest
  pub closes : ClosesBranch shapes b (map (step_in ns) given.closing.chain.items) (close_of_node given.closing.by)
  pub within : given.links ≤ length given.closing.chain.items

abbrev pub EndsBy : List Shape → List Node → OpenBranches → Option GivenChain → Type 0
EndsBy shapes ns bs None = Unit {0}
EndsBy shapes ns bs (Some given) = EndsAmong shapes ns bs given

-- from these open branches the applications are due one after another, and have this number of steps, with those of an
-- explanation in which they end
pub record ArePartial (shapes : List Shape) (ns : List Node) (bs : OpenBranches) (applications : List GivenApplication) (chain : Option GivenChain) (count : ℕ) : Type 0 where
  pub left : OpenBranches
  pub taken : AreTakenBy shapes ns bs applications left
  pub ends : EndsBy shapes ns left chain
  pub steps : steps_in_all applications + links_of chain ≡ count

abbrev pub IsPartialBy : List Shape → List Node → OpenBranches → GivenTree → ℕ → Type 0
IsPartialBy shapes ns bs tree count = ArePartial shapes ns bs tree.applications.items tree.chain count

-- ---- what that shows

abbrev pub application_of : GivenApplication → PoolApplication
application_of (Grown given) = PoolGrown given.extension
application_of (Closed closing) = PoolClosed closing

-- these applications are a partial tableau, or end within an explanation
abbrev pub IsTreeWith : List Shape → List Node → FormulaData → List Application → Option GivenChain → ℕ → Type 0
IsTreeWith shapes ns p applications None count = IsPartialTree shapes p applications count
IsTreeWith shapes ns p applications (Some given) count =
    EndsInChain shapes p applications (take given.links (map (step_in ns) given.closing.chain.items)) (drop given.links (map (step_in ns) given.closing.chain.items)) (close_of_node given.closing.by) count

-- the same for the applications of the trace
pub record ShowsPartial (shapes : List Shape) (ns : List Node) (p : FormulaData) (tree : GivenTree) (count : ℕ) : Type 0 where
  pub applications : List Application
  pub are_applications : AllZip (IsApplicationOf ns) (map application_of tree.applications.items) applications
  pub partial : IsTreeWith shapes ns p applications tree.chain count
