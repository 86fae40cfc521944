-- Contexts: formulas with a hole (F. Baader and T. Nipkow, Term Rewriting and All That, section 3.1). A context is a
-- list of frames, the outermost first: head symbols, each with its other parts by number (G. Huet, The Zipper).
use Rattle.std.specs.Prelude.{◌≡◌, ℕ, List, [], ◌∷◌, length}
use Rattle.term_pool.specs.Items.{Item, NoItem, Sort, FormulaSort, sort_of, one_item, two_item, three_item, one_part, first_of_two, second_of_two, first_of_three, second_of_three, third_of_three}
use Rattle.term_pool.specs.Pools.{item_at, HasPart}
use Rattle.term_pool.specs.declared.node.Two.{Two}
use Rattle.term_pool.specs.declared.node.Two.TheVariants.{Quantify}
use Rattle.term_pool.specs.declared.node.Node.{Node}
use Rattle.term_pool.specs.declared.node.Node.TheVariants.{One as OneNode, Two as TwoNode, Three as ThreeNode}
use Rattle.explanations.specs.declared.frame.Frame.{Frame}
use Rattle.explanations.specs.declared.frame.Frame.TheVariants.{Only, FirstOfTwo, SecondOfTwo, FirstOfThree, SecondOfThree, ThirdOfThree}

-- the node with this part in the hole
abbrev pub node_with : Frame → ℕ → Node
node_with (Only h) k = OneNode h k
node_with (FirstOfTwo h b) k = TwoNode h k b
node_with (SecondOfTwo h a) k = TwoNode h a k
node_with (FirstOfThree h b c) k = ThreeNode h k b c
node_with (SecondOfThree h a c) k = ThreeNode h a k c
node_with (ThirdOfThree h a b) k = ThreeNode h a b k

-- the item with this part in the hole
abbrev pub frame_item : List Node → Frame → Item → Item
frame_item ns (Only h) x = one_item h x
frame_item ns (FirstOfTwo h b) x = two_item h x (item_at ns b)
frame_item ns (SecondOfTwo h a) x = two_item h (item_at ns a) x
frame_item ns (FirstOfThree h b c) x = three_item h x (item_at ns b) (item_at ns c)
frame_item ns (SecondOfThree h a c) x = three_item h (item_at ns a) x (item_at ns c)
frame_item ns (ThirdOfThree h a b) x = three_item h (item_at ns a) (item_at ns b) x

-- the item of the context with this part in its hole
abbrev pub filled : List Node → List Frame → Item → Item
filled ns [] x = x
filled ns (f ∷ fs) x = frame_item ns f (filled ns fs x)

-- the sort of the hole
abbrev pub open_sort : Frame → Sort
open_sort (Only h) = one_part h
open_sort (FirstOfTwo h b) = first_of_two h
open_sort (SecondOfTwo h a) = second_of_two h
open_sort (FirstOfThree h b c) = first_of_three h
open_sort (SecondOfThree h a c) = second_of_three h
open_sort (ThirdOfThree h a b) = third_of_three h

-- the sort of the item of the head symbol
abbrev pub made_sort : Frame → Sort
made_sort (Only h) = sort_of (one_item h NoItem)
made_sort (FirstOfTwo h b) = sort_of (two_item h NoItem NoItem)
made_sort (SecondOfTwo h a) = sort_of (two_item h NoItem NoItem)
made_sort (FirstOfThree h b c) = sort_of (three_item h NoItem NoItem NoItem)
made_sort (SecondOfThree h a c) = sort_of (three_item h NoItem NoItem NoItem)
made_sort (ThirdOfThree h a b) = sort_of (three_item h NoItem NoItem NoItem)

-- the other parts occur in the pool and have the sorts that the head symbol requires
abbrev pub HasOthers : List Node → Frame → Type 0
HasOthers ns (Only h) = Unit {0}
HasOthers ns (FirstOfTwo h b) = HasPart ns (length ns) b (second_of_two h)
HasOthers ns (SecondOfTwo h a) = HasPart ns (length ns) a (first_of_two h)
HasOthers ns (FirstOfThree h b c) = HasPart ns (length ns) b (second_of_three h) × HasPart ns (length ns) c (third_of_three h)
HasOthers ns (SecondOfThree h a c) = HasPart ns (length ns) a (first_of_three h) × HasPart ns (length ns) c (third_of_three h)
HasOthers ns (ThirdOfThree h a b) = HasPart ns (length ns) a (first_of_three h) × HasPart ns (length ns) b (second_of_three h)

-- the context has the one sort, and its hole has the other
abbrev pub Leads : List Node → Sort → List Frame → Sort → Type 0
Leads ns top [] end = top ≡ end
Leads ns top (f ∷ fs) end = (made_sort f ≡ top) × HasOthers ns f × Leads ns (open_sort f) fs end

-- it is a context of a formula
pub record IsWay (ns : List Node) (way : List Frame) (end : Sort) : Type 0 where
  pub leads : Leads ns FormulaSort way end

-- ---- the variables that are bound in the hole of the context, the innermost first

abbrev pub bound_in : Two → List ℕ → List ℕ
bound_in (Quantify o n) ks = n ∷ ks
bound_in _ ks = ks

abbrev pub bound_below : Frame → List ℕ → List ℕ
bound_below (FirstOfTwo h b) ks = bound_in h ks
bound_below (SecondOfTwo h a) ks = bound_in h ks
bound_below _ ks = ks

abbrev pub bound_after : List ℕ → List Frame → List ℕ
bound_after ks [] = ks
bound_after ks (f ∷ fs) = bound_after (bound_below f ks) fs

abbrev pub bound_on : List Frame → List ℕ
bound_on way = bound_after [] way
