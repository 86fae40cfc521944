-- The terms of a branch over a pool, by number, and its classes.
use Rattle.std.specs.Prelude.{◌≡◌, ◌↔◌, ℕ, List, map, Contains}
use Rattle.fol.specs.FormulaData.{TermData}
use Rattle.term_pool.specs.Items.{term_in}
use Rattle.term_pool.specs.Pools.{item_at}
use Rattle.term_pool.specs.declared.node.Node.{Node}
use Rattle.certificates.specs.BranchesBranch.{Branch, IsTerm}
use Rattle.tableau.specs.PoolBranches.{BranchData, IsTermNumber}
use Rattle.tableau.specs.declared.entry.PoolEntry.{PoolEntry}
use Rattle.congruence_closure.specs.Known.{BranchClassesData, IsOver}

abbrev pub term_at : List Node → ℕ → TermData
term_at ns n = term_in (item_at ns n)

-- the number of a term of the branch
pub record IsBranchTerm (ns : List Node) (b : Branch) (n : ℕ) : Type 0 where
  pub number : IsTermNumber ns n
  pub stands : IsTerm b (term_at ns n)

-- the numbers of the terms of the branch
pub record AreBranchTerms (ns : List Node) (b : Branch) (numbers : List ℕ) : Type 0 where
  pub each : (n : ℕ) → Contains numbers n ↔ IsBranchTerm ns b n

abbrev pub formula_number : PoolEntry → ℕ
formula_number e = e.formula

-- the classes are those of the branch: its entries were added, by the same numbers
pub record AreClassesOf (ns : List Node) (d : BranchData) (c : BranchClassesData) : Type 0 where
  pub over : IsOver ns c
  pub entries : c.entries ≡ map formula_number d.entries
