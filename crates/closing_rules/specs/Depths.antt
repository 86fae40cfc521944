-- Entries that are deeper than a step may add.
use Rattle.std.specs.Prelude.{◌≡◌, ℕ, ◌<◌, List, slice_get, Some}
use Rattle.fol.specs.FormulaData.{FormulaData}
use Rattle.term_pool.specs.declared.node.Node.{Node}
use Rattle.certificates.specs.BranchesBranch.{Branch, Says}
use Rattle.certificates.specs.Due.{IsShallow}
use Rattle.tableau.specs.PoolBranches.{BranchData}
use Rattle.tableau.specs.declared.entry.PoolEntry.{PoolEntry}
use Rattle.tableau.specs.Numbers.{formula_at}
use Rattle.explanations.specs.BranchGraphs.{IsLow}

-- the formula is deeper than a step may add
pub record IsDeep (p : FormulaData) : Type 0 where
  pub deep : IsShallow p → ⊥

-- some entry is deeper than a step may add
pub record HasDeep (b : Branch) : Type 0 where
  pub position : ℕ
  pub formula : FormulaData
  pub says : Says b position formula
  pub deep : IsDeep formula

-- each of the first entries is no deeper than a step may add, or negates a formula that is not
pub record AreLowBefore (ns : List Node) (d : BranchData) (count : ℕ) : Type 0 where
  pub each : (i : ℕ) (e : PoolEntry) → i < count → slice_get d.entries i ≡ Some e → IsLow (formula_at ns e.formula)
