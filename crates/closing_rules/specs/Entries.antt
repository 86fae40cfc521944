-- The formulas of entries by number.
use Rattle.std.specs.Prelude.{◌≡◌, ℕ, List, slice_get, Some}
use Rattle.fol.specs.FormulaData.{TermData, FormulaData, EqFormula, NotFormula}
use Rattle.term_pool.specs.declared.node.Node.{Node}
use Rattle.certificates.specs.BranchesBranch.{Branch, Says}
use Rattle.tableau.specs.PoolBranches.{BranchData}
use Rattle.tableau.specs.declared.entry.PoolEntry.{PoolEntry}
use Rattle.term_pool.specs.Forms.{IsDenialOf}

-- the number of the entry's formula
pub record IsFormulaOf (d : BranchData) (i n : ℕ) : Type 0 where
  pub entry : PoolEntry
  pub found : slice_get d.entries i ≡ Some entry
  pub is : entry.formula ≡ n

-- the entry negates a formula
pub record DeniesSome (b : Branch) (i : ℕ) : Type 0 where
  pub formula : FormulaData
  pub denies : Says b i (NotFormula formula)

-- this is the number of the formula that the entry negates
pub record IsDeniedBy (ns : List Node) (d : BranchData) (i inner : ℕ) : Type 0 where
  pub entry : PoolEntry
  pub found : slice_get d.entries i ≡ Some entry
  pub denial : IsDenialOf ns entry.formula inner

pub record IsSomeEquation (p : FormulaData) : Type 0 where
  pub left : TermData
  pub right : TermData
  pub is : p ≡ EqFormula left right
