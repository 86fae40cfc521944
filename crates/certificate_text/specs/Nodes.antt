-- Nodes with new numbers, by a list that has the new number at the index of the old one.
use Rattle.std.specs.Prelude.{ℕ, ◌<◌, Bool, List, length, slice_index_or}
use Rattle.term_pool.specs.Pools.{item_at, IsItem}
use Rattle.term_pool.specs.declared.node.Node.{Node}
use Rattle.term_pool.specs.declared.node.Node.TheVariants.{Leaf as LeafNode, One as OneNode, Two as TwoNode, Three as ThreeNode}
use Rattle.certificate_text.specs.Marks.{IsMarked}

abbrev pub new_number : List ℕ → ℕ → ℕ
new_number ks i = slice_index_or ks i 0

abbrev pub node_anew : List ℕ → Node → Node
node_anew ks (LeafNode h) = LeafNode h
node_anew ks (OneNode h a) = OneNode h (new_number ks a)
node_anew ks (TwoNode h a b) = TwoNode h (new_number ks a) (new_number ks b)
node_anew ks (ThreeNode h a b c) = ThreeNode h (new_number ks a) (new_number ks b) (new_number ks c)

-- each marked item of the first pool is the same item in the second one, with its new number
pub record AreNumbers (ns ms : List Node) (marks : List Bool) (ks : List ℕ) : Type 0 where
  pub each : (i : ℕ) → i < length ks → IsMarked marks i → IsItem ms (new_number ks i) (item_at ns i)
