-- Positions of sums in a formula, and how the terms there are compared.
use Rattle.std.specs.Prelude.{◌≡◌, ℕ, ◌≤◌, List, [], length, Option}
use Rattle.fol.specs.declared.operators.Binary.{Binary as BinaryOperator}
use Rattle.term_pool.specs.Items.{Item, NoItem, TermSort, FormulaSort, sort_of, two_item, first_of_two, second_of_two}
use Rattle.term_pool.specs.Pools.{item_at, IsMade}
use Rattle.term_pool.specs.Depths.{item_depth}
use Rattle.term_pool.specs.declared.node.Two.{Two}
use Rattle.term_pool.specs.declared.node.Two.TheVariants.{Binary}
use Rattle.term_pool.specs.declared.node.Node.{Node}
use Rattle.term_pool.specs.declared.node.Node.TheVariants.{Two as TwoNode}
use Rattle.certificates.specs.Closes.{most_deep}
use Rattle.congruence_closure.specs.Known.{BranchClassesData}
use Rattle.explanations.specs.Frames.{filled, Leads, bound_in, bound_on}
use Rattle.explanations.specs.declared.frame.Frame.{Frame}
use Rattle.explanations.specs.Positions.{AreFound}
use Rattle.explanations.specs.declared.derived.replacing.Difference.{Difference}
use Rattle.row_reasoning.specs.StandIns.{IsStandIn}
use Rattle.row_reasoning.specs.DifferencesSums.{IsChosenSum}
use Rattle.row_reasoning.specs.declared.differences.shape.Pair.{Pair}
use Rattle.row_reasoning.specs.declared.differences.walk.Turn.{Turn}
use Rattle.row_reasoning.specs.declared.differences.walk.Turn.TheVariants.{Same, Unknown, Parts}

-- the item of the head with these parts
abbrev pub pair_item : List Node → Two → ℕ → ℕ → Item
pair_item ns h a b = two_item h (item_at ns a) (item_at ns b)

-- the path leads to a term outside quantifiers, and the term is to be replaced by the other one; the formula with the
-- other term does not exceed the maximal depth
pub record IsSumPosition (ns : List Node) (c : BranchClassesData) (names : List ℕ) (find : ℕ → Option ℕ) (way : List Frame) (one other : ℕ) : Type 0 where
  pub leads : Leads ns FormulaSort way TermSort
  pub unbound : bound_on way ≡ []
  pub sum : IsChosenSum ns c names find one other
  pub shallow : item_depth (item_at ns one) ≤ most_deep
  pub low : item_depth (filled ns way (item_at ns one)) ≤ most_deep

-- the same for two terms under one head
pub record AreSidesAt (ns : List Node) (c : BranchClassesData) (names : List ℕ) (find : ℕ → Option ℕ) (way : List Frame) (p q : Pair) : Type 0 where
  pub first_term : first_of_two p.head ≡ TermSort
  pub second_term : second_of_two p.head ≡ TermSort
  pub plain : bound_in p.head [] ≡ []
  pub leads : Leads ns FormulaSort way (sort_of (two_item p.head NoItem NoItem))
  pub unbound : bound_on way ≡ []
  pub first : IsChosenSum ns c names find p.first q.first
  pub second : IsChosenSum ns c names find p.second q.second
  pub shallow : item_depth (pair_item ns p.head p.first p.second) ≤ most_deep
  pub low : item_depth (filled ns way (pair_item ns p.head p.first p.second)) ≤ most_deep

-- the differences found transform the first item into the second
abbrev pub AreFoundAt : List Node → BranchClassesData → Item → Item → List Difference → List Difference → Type 0
AreFoundAt ns c x y old new = AreFound ns c.classes.nodes c.classes.links c.numbers (length c.classes.links) x y old new

-- two sums with one operator
pub record AreParts (ns : List Node) (c : BranchClassesData) (names : List ℕ) (find : ℕ → Option ℕ) (one other : ℕ) (p q : Pair) : Type 0 where
  pub operator : BinaryOperator
  pub head : p.head ≡ Binary operator
  pub one_made : IsMade ns one (TwoNode p.head p.first p.second)
  pub other_made : IsMade ns other (TwoNode p.head q.first q.second)
  pub first : IsChosenSum ns c names find p.first q.first
  pub second : IsChosenSum ns c names find p.second q.second

abbrev pub IsTurn : List Node → BranchClassesData → List ℕ → (ℕ → Option ℕ) → ℕ → ℕ → Turn → Type 0
IsTurn ns c names find one other Same = one ≡ other
IsTurn ns c names find one other Unknown = IsStandIn ns c names find one other
IsTurn ns c names find one other (Parts p q) = AreParts ns c names find one other p q
