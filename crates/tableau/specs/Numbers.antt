-- Formulas by number.
use Rattle.std.specs.Prelude.{◌≡◌, ℕ, ◌<◌, List, ◌∷◌, map, Option, Some, All}
use Rattle.fol.specs.FormulaData.{FormulaData, list_of_formulas}
use Rattle.term_pool.specs.Items.{formula_in, formulas_in}
use Rattle.term_pool.specs.Pools.{item_at}
use Rattle.term_pool.specs.declared.node.Node.{Node}
use Rattle.tableau.specs.PoolBranches.{IsFormulaNumber}

abbrev pub formula_at : List Node → ℕ → FormulaData
formula_at ns n = formula_in (item_at ns n)

-- the formulas of the list with this number
abbrev pub formulas_at : List Node → ℕ → List FormulaData
formulas_at ns n = list_of_formulas (formulas_in (item_at ns n))

-- each is the number of a formula
pub record AreFormulas (ns : List Node) (numbers : List ℕ) : Type 0 where
  pub each : All (IsFormulaNumber ns) numbers

-- the number of this formula
pub record IsNumberOf (ns : List Node) (p : FormulaData) (n : ℕ) : Type 0 where
  pub number : IsFormulaNumber ns n
  pub is : formula_at ns n ≡ p

-- the numbers of these formulas, in order
pub record AreNumbersOf (ns : List Node) (ps : List FormulaData) (numbers : List ℕ) : Type 0 where
  pub formulas : AreFormulas ns numbers
  pub are : map (formula_at ns) numbers ≡ ps

-- the numbers of the formulas of this list, if there is one
pub record AreNumbersIn (ns : List Node) (found : Option (List FormulaData)) (numbers : List ℕ) : Type 0 where
  pub formulas : List FormulaData
  pub is : found ≡ Some formulas
  pub are : AreNumbersOf ns formulas numbers

-- the numbers of the first formula of a list and of the rest
pub record IsFirst (ns : List Node) (list : ℕ) (p : ℕ × ℕ) : Type 0 where
  pub first : IsFormulaNumber ns p.0
  pub earlier : p.1 < list
  pub is : formulas_at ns list ≡ formula_at ns p.0 ∷ formulas_at ns p.1
