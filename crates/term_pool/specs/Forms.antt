-- The nodes of terms and formulas, and the forms of formulas by number.
use Rattle.std.specs.Prelude.{◌≡◌, ℕ, Bool, true, false, List, Option, Some, None}
use Rattle.fol.specs.declared.operators.Comparison.TheVariants.{Eq}
use Rattle.fol.specs.FormulaData.{TermData, FormulaData, EqFormula, NotFormula}
use Rattle.term_pool.specs.Pools.{IsMade}
use Rattle.term_pool.specs.declared.node.Leaf.TheVariants.{Var, Constant}
use Rattle.term_pool.specs.declared.node.One.TheVariants.{Unary, Holds, Not, Join}
use Rattle.term_pool.specs.declared.node.Two.TheVariants.{Binary, Pack, Field, Compare, Is, Connect, Quantify}
use Rattle.term_pool.specs.declared.node.Three.TheVariants.{Ternary, SetField, If}
use Rattle.term_pool.specs.declared.node.Node.{Node}
use Rattle.term_pool.specs.declared.node.Node.TheVariants.{Leaf as LeafNode, One as OneNode, Two as TwoNode, Three as ThreeNode}

-- ---- nodes

-- the node is that of a term
abbrev pub is_term_node : Node → Bool
is_term_node (LeafNode (Var n)) = true
is_term_node (LeafNode (Constant c)) = true
is_term_node (OneNode (Unary o) a) = true
is_term_node (TwoNode (Binary o) a b) = true
is_term_node (TwoNode Pack a b) = true
is_term_node (TwoNode (Field k) a b) = true
is_term_node (ThreeNode (Ternary o) a b c) = true
is_term_node (ThreeNode (SetField k) a b c) = true
is_term_node (ThreeNode If a b c) = true
is_term_node _ = false

-- the node is that of a formula
abbrev pub is_formula_node : Node → Bool
is_formula_node (OneNode Holds a) = true
is_formula_node (OneNode Not a) = true
is_formula_node (OneNode (Join o) a) = true
is_formula_node (TwoNode (Compare o) a b) = true
is_formula_node (TwoNode Is a b) = true
is_formula_node (TwoNode (Connect o) a b) = true
is_formula_node (TwoNode (Quantify o n) a b) = true
is_formula_node _ = false

-- the formula that the node negates
abbrev pub denied_part : Node → Option ℕ
denied_part (OneNode Not p) = Some p
denied_part _ = None

-- the sides of the equation that the node is
abbrev pub sides_of : Node → Option (ℕ × ℕ)
sides_of (TwoNode (Compare Eq) t u) = Some (t, u)
sides_of _ = None

-- ---- formulas

pub record IsNoDenial (p : FormulaData) : Type 0 where
  pub none : (q : FormulaData) → p ≡ NotFormula q → ⊥

-- the formula with the first number negates the one with the second
abbrev pub IsDenialOf : List Node → ℕ → ℕ → Type 0
IsDenialOf ns formula inner = IsMade ns formula (OneNode Not inner)

pub record IsNoEquation (p : FormulaData) : Type 0 where
  pub none : (t u : TermData) → p ≡ EqFormula t u → ⊥

-- the formula is the equation of the terms with these numbers
abbrev pub IsEquationOf : List Node → ℕ → ℕ × ℕ → Type 0
IsEquationOf ns formula sides = IsMade ns formula (TwoNode (Compare Eq) sides.0 sides.1)
