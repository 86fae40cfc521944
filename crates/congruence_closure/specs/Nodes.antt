-- The tree that a node of a list represents. A bound variable is represented by the negation of a type parameter with
-- its number, which is no formula and no term.
use Rattle.std.specs.Prelude.{◌≡◌, ℕ, ◌<◌, List, [], length, slice_get, Some}
use Rattle.fol.specs.FormulaData.{TermData, FormulaData, EqFormula}
use Rattle.term_pool.specs.Items.{Item, TermItem}
use Rattle.term_pool.specs.declared.node.Leaf.{Leaf}
use Rattle.term_pool.specs.declared.node.Leaf.TheVariants.{TypeParam}
use Rattle.term_pool.specs.declared.node.One.{One}
use Rattle.term_pool.specs.declared.node.One.TheVariants.{Not}
use Rattle.term_pool.specs.declared.node.Two.{Two}
use Rattle.term_pool.specs.declared.node.Three.{Three}
use Rattle.term_pool.specs.declared.node.Node.{Node}
use Rattle.term_pool.specs.declared.node.Node.TheVariants.{Leaf as LeafNode, One as OneNode, Two as TwoNode, Three as ThreeNode}
use Rattle.congruence_closure.specs.declared.classes.link.Equation.{Equation}
use Rattle.congruence_closure.specs.Trees.{Tree, BoundTree, LeafTree, OneTree, TwoTree, ThreeTree, tree_of}

abbrev pub denied_leaf : Leaf → Tree
denied_leaf (TypeParam n) = BoundTree n
denied_leaf h = OneTree Not (LeafTree h)

abbrev pub denied : Tree → Tree
denied (LeafTree h) = denied_leaf h
denied x = OneTree Not x

abbrev pub one_tree : One → Tree → Tree
one_tree Not x = denied x
one_tree h x = OneTree h x

-- the node with this number represents the tree
pub data IsTree (ns : List Node) : ℕ → Tree → Type 0 where
  OfLeaf : (i : ℕ) (h : Leaf) → slice_get ns i ≡ Some (LeafNode h) → IsTree ns i (LeafTree h)
  OfOne : (i : ℕ) (h : One) (a : ℕ) (x : Tree) → slice_get ns i ≡ Some (OneNode h a) → IsTree ns a x → IsTree ns i (one_tree h x)
  OfTwo : (i : ℕ) (h : Two) (a b : ℕ) (x y : Tree) → slice_get ns i ≡ Some (TwoNode h a b) → IsTree ns a x → IsTree ns b y → IsTree ns i (TwoTree h x y)
  OfThree : (i : ℕ) (h : Three) (a b c : ℕ) (x y z : Tree) → slice_get ns i ≡ Some (ThreeNode h a b c) → IsTree ns a x → IsTree ns b y → IsTree ns c z → IsTree ns i (ThreeTree h x y z)

-- the node represents the item, under quantifiers of these variables
pub record IsNode (ns : List Node) (i : ℕ) (bound : List ℕ) (x : Item) : Type 0 where
  pub is : IsTree ns i (tree_of bound x)

-- the node represents some item, under some quantifiers
pub record IsSomeNode (ns : List Node) (i : ℕ) : Type 0 where
  pub bound : List ℕ
  pub item : Item
  pub is : IsNode ns i bound item

pub record AreNodes (ns : List Node) : Type 0 where
  pub each : (i : ℕ) → i < length ns → IsSomeNode ns i

-- the nodes represent the terms
pub record AreSides (ns : List Node) (e : Equation) (t u : TermData) : Type 0 where
  pub left : IsNode ns e.left [] (TermItem t)
  pub right : IsNode ns e.right [] (TermItem u)

-- an equation of the list is that of these terms
pub record IsEquation (ns : List Node) (es : List Equation) (t u : TermData) : Type 0 where
  pub position : ℕ
  pub equation : Equation
  pub found : slice_get es position ≡ Some equation
  pub sides : AreSides ns equation t u

-- some formula states that the sides of the equation are equal
pub record IsSaid (ns : List Node) (Says : ℕ → FormulaData → Type 0) (e : Equation) : Type 0 where
  pub one : TermData
  pub other : TermData
  pub sides : AreSides ns e one other
  pub position : ℕ
  pub says : Says position (EqFormula one other)

-- the equations are those of the formulas
pub record AreEquations (ns : List Node) (es : List Equation) (Says : ℕ → FormulaData → Type 0) : Type 0 where
  pub given : (k : ℕ) (e : Equation) → slice_get es k ≡ Some e → IsSaid ns Says e
  pub all : (i : ℕ) (t u : TermData) → Says i (EqFormula t u) → IsEquation ns es t u
