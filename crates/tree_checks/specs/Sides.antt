-- Comparisons by number, and the two sides of a bound.
use Rattle.std.specs.Prelude.{◌≡◌, ℕ, ℤ, pos, ◌+ℤ◌, List, Option, Some, None}
use Rattle.fol.specs.FormulaData.{TermData, NumTerm, FormulaData, CompareFormula, LeFormula}
use Rattle.term_pool.specs.declared.node.Two.TheVariants.{Compare}
use Rattle.term_pool.specs.declared.node.Node.{Node}
use Rattle.term_pool.specs.declared.node.Node.TheVariants.{Two as TwoNode}
use Rattle.certificates.specs.Due.{IsShallow}
use Rattle.tableau.specs.PoolBranches.{IsTermNumber}
use Rattle.tableau.specs.Numbers.{formula_at}
use Rattle.tableau.specs.Terms.{term_at}
use Rattle.tree_checks.specs.declared.grown.reading.Sides.{Sides}

-- the formula is no comparison of terms
abbrev pub IsNoComparison : FormulaData → Type 0
IsNoComparison (CompareFormula o t u) = ⊥
IsNoComparison _ = Unit {0}

-- the formula compares the terms with these numbers
pub record IsComparison (ns : List Node) (p : FormulaData) (s : Sides) : Type 0 where
  pub left_number : IsTermNumber ns s.left
  pub right_number : IsTermNumber ns s.right
  pub is : p ≡ CompareFormula s.operator (term_at ns s.left) (term_at ns s.right)

-- the sides of a node's formula
abbrev pub sides_of : Node → Option Sides
sides_of (TwoNode (Compare o) a b) = Some (record { operator = o; left = a; right = b })
sides_of _ = None

-- the formula does not state that a term is at most another one; it states this of the terms with these numbers
pub record IsNoOrder (p : FormulaData) : Type 0 where
  pub none : (t u : TermData) → p ≡ LeFormula t u → ⊥

pub record IsOrder (ns : List Node) (p : FormulaData) (pair : ℕ × ℕ) : Type 0 where
  pub left_number : IsTermNumber ns pair.0
  pub right_number : IsTermNumber ns pair.1
  pub is : p ≡ LeFormula (term_at ns pair.0) (term_at ns pair.1)

-- the formulas with these numbers state that the term is at most k, and that it is at least the next number; neither is
-- deeper than a step may add
pub record AreBoundsOf (ns : List Node) (t : TermData) (k : ℤ) (below above : ℕ) : Type 0 where
  pub is_below : formula_at ns below ≡ LeFormula t (NumTerm k)
  pub is_above : formula_at ns above ≡ LeFormula (NumTerm (k +ℤ pos 1)) t
  pub shallow : IsShallow (formula_at ns below)
  pub shallow_next : IsShallow (formula_at ns above)
