-- Items by templates: nodes whose parts are given by their indices among given items and, after them, the items of the
-- nodes before.
use Rattle.std.specs.Prelude.{◌≡◌, ℕ, ◌<◌, Bool, true, false, ◌&&◌, List, [], ◌∷◌, ◌++◌, length, map, slice_index_or}
use Rattle.term_pool.specs.Items.{Item, Sort, TermSort, TermsSort, TriggersSort, FormulaSort, FormulasSort, TypeSort, TypesSort, BytesSort, sort_of, one_part, first_of_two, second_of_two, first_of_three, second_of_three, third_of_three}
use Rattle.term_pool.specs.Pools.{nth, item_of, item_at, IsItem}
use Rattle.term_pool.specs.declared.node.Node.{Node}
use Rattle.term_pool.specs.declared.node.Node.TheVariants.{Leaf as LeafNode, One as OneNode, Two as TwoNode, Three as ThreeNode}

-- the items with these numbers
abbrev pub items_at : List Node → List ℕ → List Item
items_at ns is = map (item_at ns) is

-- the numbers are those of the items
pub data AreItems (ns : List Node) : List ℕ → List Item → Type 0 where
  NoItems : AreItems ns [] []
  MoreItems : (i : ℕ) (x : Item) (is : List ℕ) (xs : List Item) → IsItem ns i x → AreItems ns is xs → AreItems ns (i ∷ is) (x ∷ xs)

-- ---- whether the parts of nodes have the sorts that their head symbols require

abbrev pub same_sort : Sort → Sort → Bool
same_sort TermSort TermSort = true
same_sort TermsSort TermsSort = true
same_sort TriggersSort TriggersSort = true
same_sort FormulaSort FormulaSort = true
same_sort FormulasSort FormulasSort = true
same_sort TypeSort TypeSort = true
same_sort TypesSort TypesSort = true
same_sort BytesSort BytesSort = true
same_sort _ _ = false

abbrev pub is_part : List Item → ℕ → Sort → Bool
is_part xs a s = same_sort s (sort_of (nth xs a))

abbrev pub fits : List Item → Node → Bool
fits xs (LeafNode h) = true
fits xs (OneNode h a) = is_part xs a (one_part h)
fits xs (TwoNode h a b) = is_part xs a (first_of_two h) && is_part xs b (second_of_two h)
fits xs (ThreeNode h a b c) =
    is_part xs a (first_of_three h) && (is_part xs b (second_of_three h) && is_part xs c (third_of_three h))

abbrev pub all_fit : List Item → List Node → Bool
all_fit xs [] = true
all_fit xs (n ∷ ns) = fits xs n && all_fit (xs ++ item_of xs n ∷ []) ns

-- the numbers are of the pool, and the nodes are well-sorted over their items
pub record Fits (ns : List Node) (given : List ℕ) (nodes : List Node) : Type 0 where
  pub are : AreItems ns given (items_at ns given)
  pub fit : all_fit (items_at ns given) nodes ≡ true

-- ---- a node with the numbers of its parts in place of their indices

abbrev pub number_at : List ℕ → ℕ → ℕ
number_at is a = slice_index_or is a 0

abbrev pub renumbered : List ℕ → Node → Node
renumbered is (LeafNode h) = LeafNode h
renumbered is (OneNode h a) = OneNode h (number_at is a)
renumbered is (TwoNode h a b) = TwoNode h (number_at is a) (number_at is b)
renumbered is (ThreeNode h a b c) = ThreeNode h (number_at is a) (number_at is b) (number_at is c)

abbrev pub AreWithin : List ℕ → Node → Type 0
AreWithin is (LeafNode h) = Unit {0}
AreWithin is (OneNode h a) = a < length is
AreWithin is (TwoNode h a b) = (a < length is) × (b < length is)
AreWithin is (ThreeNode h a b c) = (a < length is) × (b < length is) × (c < length is)
