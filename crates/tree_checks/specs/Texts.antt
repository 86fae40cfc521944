-- Traces of a search, by number, and what they show about a formula.
use Rattle.std.specs.Prelude.{◌≡◌, ℕ, List, length, Option}
use Rattle.std.specs.List.{AllZip}
use Rattle.fol.specs.declared.shapes.Shape.{Shape}
use Rattle.fol.specs.FormulaData.{FormulaData}
use Rattle.term_pool.specs.Pools.{Extends, IsOneNumber}
use Rattle.term_pool.specs.declared.node.Node.{Node}
use Rattle.certificates.specs.ProofTraces.{Application, OpenBranches}
use Rattle.search.specs.Applications.{IsApplicationOf}
use Rattle.search.specs.declared.trees.application.PoolApplication.{PoolApplication}
use Rattle.search.specs.declared.trees.application.PoolApplication.TheVariants.{Grown, Closed}
use Rattle.tree_checks.specs.Partial.{application_of, IsTakenBy, IsTreeWith}
use Rattle.tree_checks.specs.declared.partial.applications.GivenChain.{GivenChain}
use Rattle.tree_checks.specs.declared.partial.applications.GivenApplication.{GivenApplication}

-- a closing is no step, but each step of its explanation is one
abbrev pub steps_of : PoolApplication → ℕ
steps_of (Grown g) = 1
steps_of (Closed c) = length c.chain.items

-- with some grounds the application is due, over some extension of this pool
pub record IsTakenFor (shapes : List Shape) (ns : List Node) (bs : OpenBranches) (application : PoolApplication) (cs : OpenBranches) : Type 0 where
  pub pool : List Node
  pub extends : Extends ns pool
  pub one : IsOneNumber pool
  pub given : GivenApplication
  pub same : application_of given ≡ application
  pub taken : IsTakenBy shapes pool bs given cs

-- the applications of the trace are a partial tableau of the formula with this many steps, or end within this
-- explanation
pub record IsPartialText (shapes : List Shape) (ns : List Node) (p : FormulaData) (text : List PoolApplication) (chain : Option GivenChain) (count : ℕ) : Type 0 where
  pub applications : List Application
  pub are_applications : AllZip (IsApplicationOf ns) text applications
  pub partial : IsTreeWith shapes ns p applications chain count
