-- The open branches while a trace is read.
use Rattle.std.specs.Prelude.{◌≡◌, Bool, true, false, List, [], ◌∷◌, ◌++◌, length, map, reverse, All}
use Rattle.fol.specs.FormulaData.{FormulaData}
use Rattle.term_pool.specs.declared.node.Node.{Node}
use Rattle.certificates.specs.BranchesBranch.{formulas}
use Rattle.certificates.specs.ProofTraces.{OpenBranches, IsShortBranch}
use Rattle.tableau.specs.PoolBranches.{IsOver}
use Rattle.tableau.specs.declared.entry.PoolEntry.{PoolEntry}
use Rattle.search.specs.Applications.{is_fork}
use Rattle.search.specs.Trees.{branch_of, waiting_in, AreStacked, AreWaiting, entries_of}
use Rattle.search.specs.declared.trees.application.Extension.{Extension}
use Rattle.search.specs.declared.trees.tree.Waiting.{Waiting}
use Rattle.tree_checks.specs.Entries.{cases_by}
use Rattle.tree_checks.specs.Kept.{IsKept}
use Rattle.tree_checks.specs.declared.partial.walk.Walk.{Walk}

-- the branch with these entries and the pending ones, or none
abbrev pub open_if : Bool → List Node → List PoolEntry → List Waiting → OpenBranches
open_if false ns es ws = []
open_if true ns es ws = branch_of ns es ∷ waiting_in ns es ws

-- the pending branches, the next one first
abbrev pub waiting_of : Walk → List Waiting
waiting_of w = reverse w.waiting.items

abbrev pub opened : List Node → Walk → OpenBranches
opened ns w = open_if w.is_open ns w.branch.entries (waiting_of w)

-- the formulas of the first entries of a branch
pub record AreFirstTrees (ns : List Node) (es : List PoolEntry) (ps : List FormulaData) : Type 0 where
  pub more : List FormulaData
  pub are : formulas (branch_of ns es) ≡ ps ++ more

-- the state is right for the current branch, and the marks of the pending ones are not past its end
pub record IsWalk (ns : List Node) (w : Walk) : Type 0 where
  pub over : IsOver ns w.branch
  pub kept : IsKept ns w.branch.entries w.kept
  pub trees : AreFirstTrees ns w.branch.entries w.trees.items
  pub waiting : AreWaiting ns (waiting_of w)
  pub stacked : AreStacked (length w.branch.entries) (waiting_of w)

-- ---- steps

-- the branches with which one continues after the extension
abbrev pub branches_by : List Node → List PoolEntry → Extension → OpenBranches
branches_by ns es g = map (λ (xs : List PoolEntry). branch_of ns (es ++ xs)) (cases_by (is_fork g.reason) (entries_of g))

-- these branches are open now, and none is too long
pub record GoesOn (ns : List Node) (old : Walk) (g : Extension) (new : Walk) : Type 0 where
  pub short : All IsShortBranch (branches_by ns old.branch.entries g)
  pub now_open : opened ns new ≡ branches_by ns old.branch.entries g ++ waiting_in ns old.branch.entries (waiting_of old)

-- there are no such branches, or one is too long
pub record GoesNowhere (ns : List Node) (w : Walk) (g : Extension) : Type 0 where
  pub none : All IsShortBranch (branches_by ns w.branch.entries g) → branches_by ns w.branch.entries g ≡ []
