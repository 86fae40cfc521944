-- The forms of formulas that may close a branch, by their nodes.
use Rattle.std.specs.Prelude.{◌≡◌, ℕ, Bool, true, false, Option, Some, None}
use Rattle.fol.specs.declared.operators.Constant.TheVariants.{False}
use Rattle.fol.specs.declared.operators.Junction.TheVariants.{AllOf, AnyOf}
use Rattle.fol.specs.FormulaData.{TermData, FormulaData, EqFormula}
use Rattle.term_pool.specs.declared.node.Leaf.TheVariants.{Constant}
use Rattle.term_pool.specs.declared.node.One.TheVariants.{Holds, Join}
use Rattle.term_pool.specs.declared.node.Two.TheVariants.{ConsFormula}
use Rattle.term_pool.specs.declared.node.Node.{Node}
use Rattle.term_pool.specs.declared.node.Node.TheVariants.{Leaf as LeafNode, One as OneNode, Two as TwoNode}

-- ---- nodes

-- the term that the node states to be true
abbrev pub held_part : Node → Option ℕ
held_part (OneNode Holds t) = Some t
held_part _ = None

abbrev pub is_false_node : Node → Bool
is_false_node (LeafNode (Constant False)) = true
is_false_node _ = false

-- the list of the disjuncts, and of the conjuncts
abbrev pub any_part : Node → Option ℕ
any_part (OneNode (Join AnyOf) ps) = Some ps
any_part _ = None

abbrev pub all_part : Node → Option ℕ
all_part (OneNode (Join AllOf) ps) = Some ps
all_part _ = None

-- the node is no list of formulas with a first one
abbrev pub is_no_first : Node → Bool
is_no_first (TwoNode ConsFormula p ps) = false
is_no_first _ = true

-- ---- formulas

-- the equation of a term with itself
pub record IsReflexive (p : FormulaData) : Type 0 where
  pub term : TermData
  pub is : p ≡ EqFormula term term
