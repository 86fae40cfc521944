-- For each class of terms a shallowest one that is no sum.
use Rattle.std.specs.Prelude.{◌≡◌, ℕ, ◌<◌, ◌≤◌, ℤ, Bool, true, false, List, length, slice_index, Contains, Option, Some, None, MatchOption}
use Rattle.fol.specs.declared.operators.Constant.TheVariants.{Num}
use Rattle.fol.specs.FormulaData.{TermData, BinaryTerm}
use Rattle.certificates.specs.Linear.{numeral_of}
use Rattle.term_pool.specs.Depths.{item_depth, counted}
use Rattle.term_pool.specs.Pools.{item_at}
use Rattle.term_pool.specs.declared.node.Leaf.TheVariants.{Constant}
use Rattle.term_pool.specs.declared.node.Two.TheVariants.{Binary}
use Rattle.term_pool.specs.declared.node.Node.{Node}
use Rattle.term_pool.specs.declared.node.Node.TheVariants.{Leaf as LeafNode, Two as TwoNode}
use Rattle.row_reasoning.specs.Shapes.{term_at}
use Rattle.row_reasoning.specs.Chosen.{IsNoSum}

-- ---- terms that are no sums, by their nodes

abbrev pub is_numeral_node : Node → Bool
is_numeral_node (LeafNode (Constant (Num i))) = true
is_numeral_node _ = false

pub record HasNumeral (t : TermData) : Type 0 where
  pub number : ℤ
  pub is : numeral_of t ≡ Some number

abbrev pub IsNoSumNode : List Node → Node → Type 0
IsNoSumNode ns (LeafNode (Constant (Num i))) = ⊥
IsNoSumNode ns (TwoNode (Binary o) a b) = IsNoSum (BinaryTerm o (term_at ns a) (term_at ns b))
IsNoSumNode ns _ = Unit {0}

-- ---- the shallowest

-- the depth of the item, as a pool counts it
abbrev pub depth_at : List Node → ℕ → ℕ
depth_at ns n = counted (item_depth (item_at ns n))

-- the number of one of the terms, which belongs to the class and is no sum
pub record IsCandidate (ns : List Node) (names terms : List ℕ) (class n : ℕ) : Type 0 where
  pub among : Contains terms n
  pub no_sum : IsNoSum (term_at ns n)
  pub of_class : slice_index names n ≡ class

pub record IsNoCandidate (ns : List Node) (names terms : List ℕ) (class : ℕ) : Type 0 where
  pub none : (n : ℕ) → IsCandidate ns names terms class n → ⊥

pub record IsShallowest (ns : List Node) (names terms : List ℕ) (class n : ℕ) : Type 0 where
  pub candidate : IsCandidate ns names terms class n
  pub least : (m : ℕ) → IsCandidate ns names terms class m → depth_at ns n ≤ depth_at ns m

pub record AreShallowest (ns : List Node) (names terms : List ℕ) (find : ℕ → Option ℕ) : Type 0 where
  pub each : (class : ℕ) → MatchOption (find class) (IsNoCandidate ns names terms class) (IsShallowest ns names terms class)

-- ---- choices

-- each chosen number is in the pool
pub record AreWithin (ns : List Node) (find : ℕ → Option ℕ) : Type 0 where
  pub each : (class n : ℕ) → find class ≡ Some n → n < length ns

-- no term is chosen for the class, or a deeper one
pub data IsBetter (ns : List Node) (find : ℕ → Option ℕ) (class term : ℕ) : Type 0 where
  First : find class ≡ None → IsBetter ns find class term
  Shallower : (other : ℕ) → find class ≡ Some other → depth_at ns term < depth_at ns other → IsBetter ns find class term

-- a term that is at least as shallow is chosen
pub record IsNoBetter (ns : List Node) (find : ℕ → Option ℕ) (class term : ℕ) : Type 0 where
  pub other : ℕ
  pub found : find class ≡ Some other
  pub deeper : depth_at ns other ≤ depth_at ns term
