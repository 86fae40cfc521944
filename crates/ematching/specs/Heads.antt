-- The nodes of a pool by head symbol: the last one with each head symbol, and for each node the previous one with the
-- same head symbol.
use Rattle.std.specs.Prelude.{◌≡◌, ◌≢◌, ℕ, ◌<◌, ◌≤◌, List, [], ◌∷◌, ◌++◌, length, slice_get, slice_index_or, Option, Some, None, MatchOption}
use Rattle.std.specs.HashMap.{get}
use Rattle.term_pool.specs.NodeCodes.{same_node}
use Rattle.ematching.specs.declared.heads.HeadIndex.{HeadIndex}
use Rattle.term_pool.specs.declared.node.Two.TheVariants.{Is}
use Rattle.term_pool.specs.declared.node.Node.{Node}
use Rattle.term_pool.specs.declared.node.Node.TheVariants.{Leaf as LeafNode, One as OneNode, Two as TwoNode, Three as ThreeNode}

-- the node with 0 for its parts, except that the type in a typing of a term belongs to the head symbol
abbrev pub head_of : Node → Node
head_of (LeafNode h) = LeafNode h
head_of (OneNode h a) = OneNode h 0
head_of (TwoNode Is a b) = TwoNode Is a 0
head_of (TwoNode h a b) = TwoNode h 0 0
head_of (ThreeNode h a b c) = ThreeNode h 0 0 0

-- the last number with the head symbol
abbrev pub last_of : HeadIndex → Node → Option ℕ
last_of d h = get same_node d.last h

pub record HasHead (ns : List Node) (h : Node) (n : ℕ) : Type 0 where
  pub node : Node
  pub found : slice_get ns n ≡ Some node
  pub same : head_of node ≡ h

pub record NoneBelow (ns : List Node) (h : Node) (limit : ℕ) : Type 0 where
  pub none : (k : ℕ) → k < limit → HasHead ns h k → ⊥

pub record IsLast (ns : List Node) (h : Node) (limit n : ℕ) : Type 0 where
  pub below : n < limit
  pub has : HasHead ns h n
  pub none : (k : ℕ) → n < k → k < limit → HasHead ns h k → ⊥

-- the last number below the limit with the head symbol
abbrev pub IsLastBelow : List Node → Node → ℕ → Option ℕ → Type 0
IsLastBelow ns h limit o = MatchOption o (NoneBelow ns h limit) (IsLast ns h limit)

-- the index of a prefix of a pool
pub record IsIndex (ns : List Node) (d : HeadIndex) : Type 0 where
  pub within : length d.before.items ≤ length ns
  pub last : (h : Node) → IsLastBelow ns h (length d.before.items) (last_of d h)
  pub before : (n : ℕ) (node : Node) → n < length d.before.items → slice_get ns n ≡ Some node → IsLastBelow ns (head_of node) n (slice_index_or d.before.items n None)

-- the index of the whole pool
pub record IsIndexOf (ns : List Node) (d : HeadIndex) : Type 0 where
  pub index : IsIndex ns d
  pub whole : length d.before.items ≡ length ns

-- one more node
pub record IsIndexedMore (node : Node) (d e : HeadIndex) : Type 0 where
  pub before : e.before.items ≡ d.before.items ++ last_of d (head_of node) ∷ []
  pub last : last_of e (head_of node) ≡ Some (length d.before.items)
  pub others : (h : Node) → h ≢ head_of node → last_of e h ≡ last_of d h
