-- Pools: lists of nodes, each with earlier nodes as parts, in which each node occurs once. So equal terms and formulas
-- have one number (hash-consing).
use Rattle.std.specs.Prelude.{◌≡◌, ℕ, ◌<◌, List, [], ◌∷◌, ◌++◌, length, slice_get, slice_index_or, Some}
use Rattle.term_pool.specs.Items.{Item, NoItem, Sort, sort_of, leaf_item, one_item, two_item, three_item, one_part, first_of_two, second_of_two, first_of_three, second_of_three, third_of_three}
use Rattle.term_pool.specs.declared.node.Node.{Node}
use Rattle.term_pool.specs.declared.node.Node.TheVariants.{Leaf as LeafNode, One as OneNode, Two as TwoNode, Three as ThreeNode}

-- the item with this number
abbrev pub nth : List Item → ℕ → Item
nth xs i = slice_index_or xs i NoItem

abbrev pub item_of : List Item → Node → Item
item_of xs (LeafNode h) = leaf_item h
item_of xs (OneNode h a) = one_item h (nth xs a)
item_of xs (TwoNode h a b) = two_item h (nth xs a) (nth xs b)
item_of xs (ThreeNode h a b c) = three_item h (nth xs a) (nth xs b) (nth xs c)

abbrev pub items_from : List Item → List Node → List Item
items_from xs [] = xs
items_from xs (n ∷ ns) = items_from (xs ++ item_of xs n ∷ []) ns

-- the items of the nodes, each made of those before it
abbrev pub items : List Node → List Item
items ns = items_from [] ns

abbrev pub item_at : List Node → ℕ → Item
item_at ns i = nth (items ns) i

-- the node with this number is this item
pub record IsItem (ns : List Node) (i : ℕ) (x : Item) : Type 0 where
  pub within : i < length ns
  pub is : item_at ns i ≡ x

-- a part of a node: an earlier one of this sort
pub record HasPart (ns : List Node) (i a : ℕ) (s : Sort) : Type 0 where
  pub earlier : a < i
  pub sort : sort_of (item_at ns a) ≡ s

-- the parts of a node that has this number, or is to get it
abbrev pub HasParts : List Node → ℕ → Node → Type 0
HasParts ns i (LeafNode h) = Unit {0}
HasParts ns i (OneNode h a) = HasPart ns i a (one_part h)
HasParts ns i (TwoNode h a b) = HasPart ns i a (first_of_two h) × HasPart ns i b (second_of_two h)
HasParts ns i (ThreeNode h a b c) = HasPart ns i a (first_of_three h) × HasPart ns i b (second_of_three h) × HasPart ns i c (third_of_three h)

pub record IsPool (ns : List Node) : Type 0 where
  pub parts : (i : ℕ) (n : Node) → slice_get ns i ≡ Some n → HasParts ns i n
  pub once : (i j : ℕ) (n : Node) → slice_get ns i ≡ Some n → slice_get ns j ≡ Some n → i ≡ j

pub record IsNowhere (ns : List Node) (n : Node) : Type 0 where
  pub nowhere : (i : ℕ) → slice_get ns i ≡ Some n → ⊥

-- the second pool is the first with further nodes at its end
pub record Extends (ns ms : List Node) : Type 0 where
  pub more : List Node
  pub is : ms ≡ ns ++ more

-- two different numbers have different items
pub record IsOneNumber (ns : List Node) : Type 0 where
  pub one : (i j : ℕ) → i < length ns → j < length ns → item_at ns i ≡ item_at ns j → i ≡ j

-- the node with this number, its item, and its parts
pub record IsMade (ns : List Node) (i : ℕ) (n : Node) : Type 0 where
  pub found : slice_get ns i ≡ Some n
  pub item : item_at ns i ≡ item_of (items ns) n
  pub parts : HasParts ns i n
