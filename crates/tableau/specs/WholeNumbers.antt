-- Formulas stating that a term is a whole number, by number.
use Rattle.std.specs.Prelude.{◌≡◌, ℕ, Bool, true, false, List, Option, Some, None}
use Rattle.base.specs.TypeData.{NumType}
use Rattle.fol.specs.FormulaData.{IsFormula}
use Rattle.term_pool.specs.declared.node.Leaf.TheVariants.{TypeNum}
use Rattle.term_pool.specs.declared.node.Two.TheVariants.{Is}
use Rattle.term_pool.specs.declared.node.Node.{Node}
use Rattle.term_pool.specs.declared.node.Node.TheVariants.{Leaf as LeafNode, Two as TwoNode}
use Rattle.tableau.specs.PoolBranches.{IsTermNumber}
use Rattle.tableau.specs.Numbers.{formula_at}
use Rattle.tableau.specs.Terms.{term_at}

-- the type of whole numbers
abbrev pub is_num_node : Node → Bool
is_num_node (LeafNode TypeNum) = true
is_num_node _ = false

-- the type and the term of a formula stating that a term has a type
abbrev pub typed_parts : Node → Option (ℕ × ℕ)
typed_parts (TwoNode Is a t) = Some (a, t)
typed_parts _ = None

-- the formula states that the term is a whole number
pub record IsNumberSaid (ns : List Node) (formula term : ℕ) : Type 0 where
  pub number : IsTermNumber ns term
  pub is : formula_at ns formula ≡ IsFormula NumType (term_at ns term)
