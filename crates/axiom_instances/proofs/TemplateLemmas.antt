-- The items of the nodes of a template.
use Rattle.std.proofs.Common.{◌≡◌, ℕ, zero, suc, ◌+◌, ◌<◌, ◌≤◌, Bool, true, false, ◌&&◌, List, [], ◌∷◌, ◌++◌, length, get_or, drop, refl, sym, ap, ◌∙◌, subst, arith, drop-cons}
use Rattle.std.proofs.lemmas.Option.{slice_get_within}
use Rattle.term_pool.specs.Items.{Item, Sort, NoSort, TermSort, TermsSort, TriggersSort, FormulaSort, FormulasSort, TypeSort, TypesSort, BytesSort, sort_of, one_item, two_item, three_item, one_part, first_of_two, second_of_two, first_of_three, second_of_three, third_of_three}
use Rattle.term_pool.specs.Pools.{nth, item_of, items, items_from, HasPart, HasParts, IsItem, IsMade, Extends}
use Rattle.term_pool.specs.declared.node.Two.{Two}
use Rattle.term_pool.specs.declared.node.Three.{Three}
use Rattle.term_pool.specs.declared.node.Node.{Node}
use Rattle.term_pool.specs.declared.node.Node.TheVariants.{Leaf as LeafNode, One as OneNode, Two as TwoNode, Three as ThreeNode}
use Rattle.term_pool.proofs.GrowthLemmas.{extends_itself, extends_then, item_stays}
use Rattle.axiom_instances.specs.Templates.{items_at, AreItems, NoItems, MoreItems, same_sort, is_part, fits, all_fit, Fits, number_at, renumbered, AreWithin}

-- ---- numbers and their items

pub items_stay : {ns ms : List Node} {is : List ℕ} {xs : List Item} → Extends ns ms → AreItems ns is xs → AreItems ms is xs
items_stay e NoItems = NoItems
items_stay e (MoreItems i x is xs h r) = MoreItems i x is xs (item_stays e h) (items_stay e r)

pub items_more : {ns : List Node} {is : List ℕ} {xs : List Item} {i : ℕ} {x : Item} → AreItems ns is xs → IsItem ns i x → AreItems ns (is ++ i ∷ []) (xs ++ x ∷ [])
items_more {ns} {is} {xs} {i} {x} NoItems h = MoreItems i x [] [] h NoItems
items_more {ns} {is} {xs} {i} {x} (MoreItems j y js ys k r) h = MoreItems j y (js ++ i ∷ []) (ys ++ x ∷ []) k (items_more r h)

pub items_are : {ns : List Node} {is : List ℕ} {xs : List Item} → AreItems ns is xs → items_at ns is ≡ xs
items_are NoItems = refl
items_are (MoreItems i x is xs h r) = λ k. h.is k ∷ items_are r k

-- nodes that are well-sorted over given items
pub nodes_fit : {ns : List Node} {is : List ℕ} {xs : List Item} {nodes : List Node} → AreItems ns is xs → all_fit xs nodes ≡ true → Fits ns is nodes
nodes_fit {ns} {is} {xs} {nodes} h e = record {
  are = subst (AreItems ns is) (sym (items_are h)) h;
  fit = ap (λ ys. all_fit ys nodes) (items_are h) ∙ e;
}

-- ---- parts

pub both : (a b : Bool) → (a && b) ≡ true → (a ≡ true) × (b ≡ true)
both true b e = (refl, e)
both false b e = absurd (cc)

pub is_sort : (s t : Sort) → same_sort s t ≡ true → s ≡ t
is_sort TermSort TermSort e = refl
is_sort TermsSort TermsSort e = refl
is_sort TriggersSort TriggersSort e = refl
is_sort FormulaSort FormulaSort e = refl
is_sort FormulasSort FormulasSort e = refl
is_sort TypeSort TypeSort e = refl
is_sort TypesSort TypesSort e = refl
is_sort BytesSort BytesSort e = refl
is_sort _ _ e = absurd (cc)

no_part : (s : Sort) → same_sort s NoSort ≡ true → ⊥
no_part NoSort e = absurd (cc)
no_part _ e = absurd (cc)

pub record PartAt (ns : List Node) (is : List ℕ) (xs : List Item) (a : ℕ) : Type 0 where
  pub within : a < length is
  pub at : IsItem ns (number_at is a) (nth xs a)

pub part_at : {ns : List Node} {is : List ℕ} {xs : List Item} (a : ℕ) (s : Sort) → AreItems ns is xs → is_part xs a s ≡ true → PartAt ns is xs a
part_at a s NoItems e = absurd (no_part s e)
part_at zero s (MoreItems i x is xs h r) e = record { within = omega arith; at = h }
part_at (suc a) s (MoreItems i x is xs h r) e = let later = part_at a s r e in record { within = (let w = later.within in omega arith); at = later.at }

has_part : {ns : List Node} {is : List ℕ} {xs : List Item} (a : ℕ) (s : Sort) → AreItems ns is xs → is_part xs a s ≡ true → HasPart ns (length ns) (number_at is a) s
has_part {ns} {is} {xs} a s h e =
    let p = part_at a s h e in
    record { earlier = p.at.within; sort = ap sort_of p.at.is ∙ sym (is_sort s (sort_of (nth xs a)) e) }

-- ---- a node over items that have numbers

-- the well-sorted parts of a node with two or three parts
record FitTwo (xs : List Item) (k : Two) (a b : ℕ) : Type 0 where
  first : is_part xs a (first_of_two k) ≡ true
  second : is_part xs b (second_of_two k) ≡ true

fit_two : (xs : List Item) (k : Two) (a b : ℕ) → fits xs (TwoNode k a b) ≡ true → FitTwo xs k a b
fit_two xs k a b e =
    let t = both (is_part xs a (first_of_two k)) (is_part xs b (second_of_two k)) e in record { first = t.0; second = t.1 }

record FitThree (xs : List Item) (k : Three) (a b c : ℕ) : Type 0 where
  first : is_part xs a (first_of_three k) ≡ true
  second : is_part xs b (second_of_three k) ≡ true
  third : is_part xs c (third_of_three k) ≡ true

fit_three : (xs : List Item) (k : Three) (a b c : ℕ) → fits xs (ThreeNode k a b c) ≡ true → FitThree xs k a b c
fit_three xs k a b c e =
    let t = both (is_part xs a (first_of_three k)) (is_part xs b (second_of_three k) && is_part xs c (third_of_three k)) e in
    let u = both (is_part xs b (second_of_three k)) (is_part xs c (third_of_three k)) t.1 in
    record { first = t.0; second = u.0; third = u.1 }

module _ {ns : List Node} {is : List ℕ} {xs : List Item} (h : AreItems ns is xs) where
  pub node_within : (n : Node) → fits xs n ≡ true → AreWithin is n
  node_within (LeafNode k) e = tt
  node_within (OneNode k a) e = (part_at a (one_part k) h e).within
  node_within (TwoNode k a b) e =
      let f = fit_two xs k a b e in
      ((part_at a (first_of_two k) h f.first).within, (part_at b (second_of_two k) h f.second).within)
  node_within (ThreeNode k a b c) e =
      let f = fit_three xs k a b c e in
      ((part_at a (first_of_three k) h f.first).within, (part_at b (second_of_three k) h f.second).within, (part_at c (third_of_three k) h f.third).within)

  pub node_parts : (n : Node) → fits xs n ≡ true → HasParts ns (length ns) (renumbered is n)
  node_parts (LeafNode k) e = tt
  node_parts (OneNode k a) e = has_part a (one_part k) h e
  node_parts (TwoNode k a b) e =
      let f = fit_two xs k a b e in
      (has_part a (first_of_two k) h f.first, has_part b (second_of_two k) h f.second)
  node_parts (ThreeNode k a b c) e =
      let f = fit_three xs k a b c e in
      (has_part a (first_of_three k) h f.first, has_part b (second_of_three k) h f.second, has_part c (third_of_three k) h f.third)

  same_item : (n : Node) → fits xs n ≡ true → item_of (items ns) (renumbered is n) ≡ item_of xs n
  same_item (LeafNode k) e = refl
  same_item (OneNode k a) e = ap (one_item k) (part_at a (one_part k) h e).at.is
  same_item (TwoNode k a b) e =
      let f = fit_two xs k a b e in
      λ i. two_item k ((part_at a (first_of_two k) h f.first).at.is i) ((part_at b (second_of_two k) h f.second).at.is i)
  same_item (ThreeNode k a b c) e =
      let f = fit_three xs k a b c e in
      λ i. three_item k ((part_at a (first_of_three k) h f.first).at.is i) ((part_at b (second_of_three k) h f.second).at.is i) ((part_at c (third_of_three k) h f.third).at.is i)

  pub node_is : {k : ℕ} (n : Node) → fits xs n ≡ true → IsMade ns k (renumbered is n) → IsItem ns k (item_of xs n)
  node_is {k} n e m = record { within = slice_get_within ns k _ m.found; is = m.item ∙ same_item n e }

-- ---- the walk through a template

-- these numbers are those of items over which the remaining nodes are well-sorted and give the same items
pub record Making (ns ms : List Node) (given is : List ℕ) (nodes left : List Node) : Type 0 where
  pub extends : Extends ns ms
  pub over : List Item
  pub are : AreItems ms is over
  pub fit : all_fit over left ≡ true
  pub same : items_from over left ≡ items_from (items_at ns given) nodes

pub making_first : (ns : List Node) (given : List ℕ) (nodes : List Node) → Fits ns given nodes → Making ns ns given given nodes nodes
making_first ns given nodes h = record {
  extends = extends_itself ns;
  over = items_at ns given;
  are = h.are;
  fit = h.fit;
  same = refl;
}

pub making_next : {ns ms ks : List Node} {given is : List ℕ} {nodes left : List Node} {n : Node} {k : ℕ} → Making ns ms given is nodes (n ∷ left) → Extends ms ks → IsMade ks k (renumbered is n) → Making ns ks given (is ++ k ∷ []) nodes left
making_next {n = n} h e m =
    let t = both (fits h.over n) _ h.fit in
    record {
      extends = extends_then h.extends e;
      over = h.over ++ item_of h.over n ∷ [];
      are = items_more (items_stay e h.are) (node_is (items_stay e h.are) n t.0 m);
      fit = t.1;
      same = h.same;
    }

-- the indices are within the numbers, and the final items
pub making_within : {ns ms : List Node} {given is : List ℕ} {nodes left : List Node} {n : Node} → Making ns ms given is nodes (n ∷ left) → AreWithin is n
making_within {n = n} h = node_within h.are n (both (fits h.over n) _ h.fit).0

pub making_parts : {ns ms : List Node} {given is : List ℕ} {nodes left : List Node} {n : Node} → Making ns ms given is nodes (n ∷ left) → HasParts ms (length ms) (renumbered is n)
making_parts {n = n} h = node_parts h.are n (both (fits h.over n) _ h.fit).0

pub making_last : {ns ms : List Node} {given is : List ℕ} {nodes : List Node} → Making ns ms given is nodes [] → AreItems ms is (items_from (items_at ns given) nodes)
making_last {ms = ms} {is = is} h = subst (AreItems ms is) h.same h.are

-- ---- the remaining nodes from an index on

from_position : (ns : List Node) (i : ℕ) (d : Node) → i < length ns → drop i ns ≡ get_or ns i d ∷ drop (i + 1) ns
from_position ns i d h = let one : suc i ≡ i + 1 = omega arith in drop-cons ns i d h ∙ ap (λ j. get_or ns i d ∷ drop j ns) one

none_left : (ns : List Node) (i : ℕ) → length ns ≤ i → drop i ns ≡ []
none_left [] zero h = refl
none_left [] (suc i) h = refl
none_left (n ∷ ns) zero h = absurd (omega arith)
none_left (n ∷ ns) (suc i) h = none_left ns i (omega arith)

pub making_here : {ns ms : List Node} {given is : List ℕ} {nodes : List Node} (i : ℕ) (d : Node) → i < length nodes → Making ns ms given is nodes (drop i nodes) → Making ns ms given is nodes (get_or nodes i d ∷ drop (i + 1) nodes)
making_here {ns} {ms} {given} {is} {nodes} i d h m =
    subst (λ left. Making ns ms given is nodes left) (from_position nodes i d h) m

pub making_end : {ns ms : List Node} {given is : List ℕ} {nodes : List Node} (i : ℕ) → length nodes ≤ i → Making ns ms given is nodes (drop i nodes) → Making ns ms given is nodes []
making_end {ns} {ms} {given} {is} {nodes} i h m =
    subst (λ left. Making ns ms given is nodes left) (none_left nodes i h) m
