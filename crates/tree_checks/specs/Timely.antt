-- Extensions, with the grounds on which they may come where they are.
use Rattle.std.specs.Prelude.{ℕ, ℤ, List}
use Rattle.fol.specs.declared.shapes.Shape.{Shape}
use Rattle.fol.specs.FormulaData.{TermData}
use Rattle.term_pool.specs.declared.node.Node.{Node}
use Rattle.certificates.specs.BranchesBranch.{Branch}
use Rattle.tableau.specs.Terms.{term_at}
use Rattle.search.specs.declared.trees.application.Reason.{Reason}
use Rattle.search.specs.declared.trees.application.Reason.TheVariants.{Parts, Name, Instance, Axiom, Split, Cut, Bound}
use Rattle.tree_checks.specs.Late.{IsRangeEntry, IsLateBy}
use Rattle.tree_checks.specs.Bounds.{IsBoundBy}
use Rattle.tree_checks.specs.Steps.{IsGrowing}
use Rattle.tree_checks.specs.declared.partial.applications.Grounds.{Grounds}
use Rattle.tree_checks.specs.declared.partial.applications.Grounds.TheVariants.{Nothing, Late, Bound as OfBound}
use Rattle.tree_checks.specs.declared.partial.applications.GivenExtension.{GivenExtension}

-- a case split may come at an instance of the axiom on ranges, or as a late application
abbrev pub IsSplitBy : List Shape → List Node → Branch → ℕ → Grounds → Type 0
IsSplitBy shapes ns b i Nothing = IsRangeEntry b i
IsSplitBy shapes ns b i (Late v) = IsLateBy shapes ns b v
IsSplitBy shapes ns b i (OfBound g) = ⊥

-- a cut may come as a late application
abbrev pub IsCutBy : List Shape → List Node → Branch → Grounds → Type 0
IsCutBy shapes ns b Nothing = ⊥
IsCutBy shapes ns b (Late v) = IsLateBy shapes ns b v
IsCutBy shapes ns b (OfBound g) = ⊥

-- a bound on a number may come if an elimination of the rows and values require it
abbrev pub IsPutBy : List Shape → List Node → Branch → TermData → ℤ → Grounds → Type 0
IsPutBy shapes ns b t k Nothing = ⊥
IsPutBy shapes ns b t k (Late v) = ⊥
IsPutBy shapes ns b t k (OfBound g) = IsBoundBy shapes ns b t k g.values g.elimination

-- the application may come now; alpha, delta and gamma rules and axiom instances may come whenever they are due
abbrev pub IsTimely : List Shape → List Node → Branch → Reason → Grounds → Type 0
IsTimely shapes ns b (Parts i) grounds = Unit {0}
IsTimely shapes ns b (Name i v) grounds = Unit {0}
IsTimely shapes ns b (Instance i t) grounds = Unit {0}
IsTimely shapes ns b (Axiom name) grounds = Unit {0}
IsTimely shapes ns b (Split i) grounds = IsSplitBy shapes ns b i grounds
IsTimely shapes ns b (Cut t u) grounds = IsCutBy shapes ns b grounds
IsTimely shapes ns b (Bound i t k) grounds = IsPutBy shapes ns b (term_at ns t) k grounds

-- the application is due on the branch, and may come now
pub record IsDueBy (shapes : List Shape) (ns : List Node) (b : Branch) (given : GivenExtension) : Type 0 where
  pub growing : IsGrowing shapes ns b given.extension
  pub timely : IsTimely shapes ns b given.extension.reason given.grounds
