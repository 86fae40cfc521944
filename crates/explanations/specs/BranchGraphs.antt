-- The nodes of the classes of a branch as a graph.
use Rattle.std.specs.Prelude.{◌≡◌, ◌⊎◌, ℕ, List, slice_get, Some}
use Rattle.fol.specs.FormulaData.{FormulaData, NotFormula}
use Rattle.term_pool.specs.Items.{FormulaSort, sort_of}
use Rattle.term_pool.specs.Pools.{item_at}
use Rattle.term_pool.specs.declared.node.Node.{Node}
use Rattle.certificates.specs.Due.{IsShallow}
use Rattle.explanations.specs.Chains.{formula_at, ChainData}

-- the formula is no deeper than a step may add, or is the negation of such a formula
abbrev pub IsLow : FormulaData → Type 0
IsLow p = IsShallow p ⊎ ((q : FormulaData) × (p ≡ NotFormula q) × IsShallow q)

-- these are numbers of such formulas
pub record AreLow (pool : List Node) (entries : List ℕ) : Type 0 where
  pub formula : (position number : ℕ) → slice_get entries position ≡ Some number → sort_of (item_at pool number) ≡ FormulaSort
  pub low : (position number : ℕ) → slice_get entries position ≡ Some number → IsLow (formula_at pool number)

-- the explanation begins with the entries
pub record HasEntries (d : ChainData) (entries : List ℕ) : Type 0 where
  pub each : (position number : ℕ) → slice_get entries position ≡ Some number → slice_get d.formulas position ≡ Some number
