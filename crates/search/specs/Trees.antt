-- A search tree over a pool: its trace, the current branch and the pending ones. Each pending branch begins as the
-- current one does, up to a mark.
use Rattle.std.specs.Prelude.{◌≡◌, ℕ, ◌≤◌, List, [], ◌∷◌, ◌++◌, length, map, take, reverse, All}
use Rattle.std.specs.List.{AllZip}
use Rattle.fol.specs.declared.shapes.Shape.{Shape}
use Rattle.fol.specs.FormulaData.{FormulaData}
use Rattle.term_pool.specs.declared.node.Node.{Node}
use Rattle.certificates.specs.BranchesBranch.{Branch}
use Rattle.certificates.specs.ProofTraces.{Application, OpenBranches, AreDue, begun, after_applications, steps_in}
use Rattle.tableau.specs.PoolBranches.{entry_in, branch_in, IsFormulaNumber, IsOver}
use Rattle.tableau.specs.declared.entry.PoolEntry.{PoolEntry}
use Rattle.search.specs.Applications.{origin_of, IsApplicationOf}
use Rattle.search.specs.declared.trees.application.Extension.{Extension}
use Rattle.search.specs.declared.trees.application.PoolApplication.{PoolApplication}
use Rattle.search.specs.declared.trees.tree.Waiting.{Waiting}
use Rattle.search.specs.declared.trees.tree.SearchTree.{SearchTree}

abbrev pub branch_of : List Node → List PoolEntry → Branch
branch_of ns es = map (entry_in ns) es

-- the pending branches
abbrev pub waiting_in : List Node → List PoolEntry → List Waiting → OpenBranches
waiting_in ns es [] = []
waiting_in ns es (w ∷ ws) = branch_of ns (take w.mark es ++ w.entry ∷ []) ∷ waiting_in ns es ws

-- the mark of each pending branch is at most that of the one before it
abbrev pub AreStacked : ℕ → List Waiting → Type 0
AreStacked n [] = Unit {0}
AreStacked n (w ∷ ws) = (w.mark ≤ n) × AreStacked w.mark ws

-- the applications are due one after another, have this number of steps, and leave these branches open
pub record IsText (shapes : List Shape) (p : FormulaData) (spent : ℕ) (ns : List Node) (text : List PoolApplication) (left : OpenBranches) : Type 0 where
  pub applications : List Application
  pub are_applications : AllZip (IsApplicationOf ns) text applications
  pub due : AreDue shapes (begun p) applications
  pub steps : steps_in applications ≡ spent
  pub branches : after_applications (begun p) applications ≡ left

abbrev pub AreWaiting : List Node → List Waiting → Type 0
AreWaiting ns ws = All (λ w. IsFormulaNumber ns w.entry.formula) ws

-- the open branches are the current one and the pending ones, the last of which is the next
pub record IsTree (shapes : List Shape) (p : FormulaData) (spent : ℕ) (ns : List Node) (t : SearchTree) : Type 0 where
  pub over : IsOver ns t.branch
  pub waiting : AreWaiting ns (reverse t.waiting.items)
  pub stacked : AreStacked (length t.branch.entries) (reverse t.waiting.items)
  pub text : IsText shapes p spent ns t.text.items (branch_in ns t.branch ∷ waiting_in ns t.branch.entries (reverse t.waiting.items))

-- pending branches with this mark, with one more entry each
abbrev pub frames : ℕ → List PoolEntry → List Waiting
frames mark [] = []
frames mark (e ∷ es) = record { mark = mark; entry = e } ∷ frames mark es

-- ---- applications

-- the entries that an extension adds
abbrev pub entries_of : Extension → List PoolEntry
entries_of g = map (λ n. record { formula = n; generation = g.generation; origin = origin_of g.reason }) g.formulas.items

-- the last pending branch is now the current one
pub record IsResumed (ns : List Node) (old new : SearchTree) : Type 0 where
  pub next : Waiting
  pub waiting : reverse old.waiting.items ≡ next ∷ reverse new.waiting.items
  pub entries : new.branch.entries ≡ take next.mark old.branch.entries ++ next.entry ∷ []
  pub over : IsOver ns new.branch
  pub text : new.text ≡ old.text

-- no branch is pending
pub record HasNone (old new : SearchTree) : Type 0 where
  pub none : old.waiting.items ≡ []
  pub text : new.text ≡ old.text
