-- Congruences over a list of nodes: the least equivalence that contains each equation, and joins two nodes with equal
-- head symbols and joined parts (C. G. Nelson and D. C. Oppen, Fast Decision Procedures Based on Congruence Closure).
use Rattle.std.specs.Prelude.{◌≡◌, ℕ, ◌<◌, List, length, slice_get, Some}
use Rattle.term_pool.specs.declared.node.Leaf.{Leaf}
use Rattle.term_pool.specs.declared.node.One.{One}
use Rattle.term_pool.specs.declared.node.Two.{Two}
use Rattle.term_pool.specs.declared.node.Three.{Three}
use Rattle.term_pool.specs.declared.node.Node.{Node}
use Rattle.term_pool.specs.declared.node.Node.TheVariants.{Leaf as LeafNode, One as OneNode, Two as TwoNode, Three as ThreeNode}
use Rattle.congruence_closure.specs.declared.classes.link.Equation.{Equation}

pub data Congruent (ns : List Node) (es : List Equation) : ℕ → ℕ → Type 0 where
  ByEquation : (k : ℕ) (e : Equation) → slice_get es k ≡ Some e → Congruent ns es e.left e.right
  ByLeaf : (i j : ℕ) (h : Leaf) → slice_get ns i ≡ Some (LeafNode h) → slice_get ns j ≡ Some (LeafNode h) → Congruent ns es i j
  ByPart : (i j : ℕ) (h : One) (a x : ℕ) → slice_get ns i ≡ Some (OneNode h a) → slice_get ns j ≡ Some (OneNode h x) → Congruent ns es a x → Congruent ns es i j
  ByTwo : (i j : ℕ) (h : Two) (a b x y : ℕ) → slice_get ns i ≡ Some (TwoNode h a b) → slice_get ns j ≡ Some (TwoNode h x y) → Congruent ns es a x → Congruent ns es b y → Congruent ns es i j
  ByThree : (i j : ℕ) (h : Three) (a b c x y z : ℕ) → slice_get ns i ≡ Some (ThreeNode h a b c) → slice_get ns j ≡ Some (ThreeNode h x y z) → Congruent ns es a x → Congruent ns es b y → Congruent ns es c z → Congruent ns es i j
  Itself : (i : ℕ) → Congruent ns es i i
  Turned : (i j : ℕ) → Congruent ns es i j → Congruent ns es j i
  Chained : (i j k : ℕ) → Congruent ns es i j → Congruent ns es j k → Congruent ns es i k

-- the parts of the node are among the first numbers
abbrev pub IsWithin : ℕ → Node → Type 0
IsWithin count (LeafNode h) = Unit {0}
IsWithin count (OneNode h a) = a < count
IsWithin count (TwoNode h a b) = (a < count) × (b < count)
IsWithin count (ThreeNode h a b c) = (a < count) × (b < count) × (c < count)

-- the parts of each node have numbers of the list, and so have the sides of each equation
pub record AreTerms (ns : List Node) (es : List Equation) : Type 0 where
  pub parts : (i : ℕ) (n : Node) → slice_get ns i ≡ Some n → IsWithin (length ns) n
  pub left : (k : ℕ) (e : Equation) → slice_get es k ≡ Some e → e.left < length ns
  pub right : (k : ℕ) (e : Equation) → slice_get es k ≡ Some e → e.right < length ns
