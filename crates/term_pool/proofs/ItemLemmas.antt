-- The items of a pool as it is extended, and those of its nodes.
use Rattle.std.proofs.Common.{◌≡◌, ℕ, zero, suc, ◌+◌, ◌<◌, ◌≤◌, List, [], ◌∷◌, ◌++◌, length, Some, refl, sym, ap, ◌∙◌, subst, arith, length-append}
use Rattle.std.specs.Prelude.{slice_get}
use Rattle.std.proofs.lemmas.List.{get_or_append_left, get_or_push, get_or_past}
use Rattle.term_pool.specs.Items.{Item, NoItem, Sort, sort_of, one_item, two_item, three_item}
use Rattle.term_pool.specs.Pools.{nth, item_of, items_from, items, item_at, HasPart, HasParts, IsPool, Extends}
use Rattle.term_pool.specs.declared.node.Node.{Node}
use Rattle.term_pool.specs.declared.node.Node.TheVariants.{Leaf as LeafNode, One as OneNode, Two as TwoNode, Three as ThreeNode}

-- ---- further nodes

from_more : (ns ms : List Node) (xs : List Item) → items_from xs (ns ++ ms) ≡ items_from (items_from xs ns) ms
from_more [] ms xs = refl
from_more (n ∷ ns) ms xs = from_more ns ms (xs ++ item_of xs n ∷ [])

from_length : (ns : List Node) (xs : List Item) → length (items_from xs ns) ≡ length xs + length ns
from_length [] xs = omega arith
from_length (n ∷ ns) xs = (let e = from_length ns (xs ++ item_of xs n ∷ []) in omega (arith, e, length-append xs (item_of xs n ∷ [])))

pub items_length : (ns : List Node) → length (items ns) ≡ length ns
items_length ns = (let e = from_length ns [] in omega (arith, e))

-- the earlier items are unchanged
from_prefix : (ns : List Node) (xs : List Item) (i : ℕ) → i < length xs → nth (items_from xs ns) i ≡ nth xs i
from_prefix [] xs i h = refl
from_prefix (n ∷ ns) xs i h =
    from_prefix ns (xs ++ item_of xs n ∷ []) i (omega (arith, h, length-append xs (item_of xs n ∷ []))) ∙ get_or_append_left xs (item_of xs n ∷ []) NoItem i h

pub item_kept : (ns ms : List Node) → Extends ns ms → (i : ℕ) → i < length ns → item_at ms i ≡ item_at ns i
item_kept ns ms e i h =
    ap (λ ks. item_at ks i) e.is
    ∙ ap (λ xs. nth xs i) (from_more ns e.more [])
    ∙ from_prefix e.more (items ns) i (omega (arith, h, items_length ns))

pub new_item : (ns : List Node) (n : Node) → item_at (ns ++ n ∷ []) (length ns) ≡ item_of (items ns) n
new_item ns n = ap (λ xs. nth xs (length ns)) (from_more ns (n ∷ []) []) ∙ get_or_push (items ns) (item_of (items ns) n) NoItem (length ns) (items_length ns)

-- ---- the item of a node

-- two lists have the same items up to an index
record Agree (i : ℕ) (xs ys : List Item) : Type 0 where
  at : (a : ℕ) → a < i → nth xs a ≡ nth ys a

item_agrees : (ns : List Node) (i : ℕ) (n : Node) (xs ys : List Item) → HasParts ns i n → Agree i xs ys → item_of xs n ≡ item_of ys n
item_agrees ns i (LeafNode h) xs ys p s = refl
item_agrees ns i (OneNode h a) xs ys p s = ap (one_item h) (s.at a p.earlier)
item_agrees ns i (TwoNode h a b) xs ys p s = λ k. two_item h (s.at a p.0.earlier k) (s.at b p.1.earlier k)
item_agrees ns i (ThreeNode h a b c) xs ys p s = λ k. three_item h (s.at a p.0.earlier k) (s.at b p.1.earlier k) (s.at c p.2.earlier k)

from_at : (all ns : List Node) (xs : List Item) (k : ℕ) (n : Node) → slice_get ns k ≡ Some n → HasParts all (length xs + k) n → nth (items_from xs ns) (length xs + k) ≡ item_of (items_from xs ns) n
from_at all [] xs k n found parts = absurd (cc)
from_at all (m ∷ ns) xs zero n found parts =
    let same : m ≡ n = cc in
    let here : length xs + 0 ≡ length xs = omega arith in
    let later : List Item = xs ++ item_of xs m ∷ [] in
    let more : length (xs ++ item_of xs m ∷ []) ≡ length xs + 1 = (let e = length-append xs (item_of xs m ∷ []) in omega (arith, e)) in
    let at : nth (items_from (xs ++ item_of xs m ∷ []) ns) (length xs + 0) ≡ item_of xs m =
    ap (nth (items_from (xs ++ item_of xs m ∷ []) ns)) here
    ∙ from_prefix ns (xs ++ item_of xs m ∷ []) (length xs) (omega (arith, more))
    ∙ get_or_push xs (item_of xs m) NoItem (length xs) refl in
    at ∙ ap (item_of xs) same
    ∙ sym (item_agrees all (length xs) n (items_from xs (m ∷ ns)) xs (subst (λ i. HasParts all i n) here parts) (record { at = λ a h. from_prefix (m ∷ ns) xs a h }))
from_at all (m ∷ ns) xs (suc k) n found parts =
    let more : length (xs ++ item_of xs m ∷ []) ≡ length xs + 1 = (let e = length-append xs (item_of xs m ∷ []) in omega (arith, e)) in
    let there : length xs + suc k ≡ length (xs ++ item_of xs m ∷ []) + k = omega (arith, more) in
    ap (nth (items_from xs (m ∷ ns))) there ∙ from_at all ns (xs ++ item_of xs m ∷ []) k n found (subst (λ i. HasParts all i n) there parts)

pub item_node : (ns : List Node) → IsPool ns → (i : ℕ) (n : Node) → slice_get ns i ≡ Some n → item_at ns i ≡ item_of (items ns) n
item_node ns pool i n found =
    let here : 0 + i ≡ i = omega arith in
    ap (item_at ns) (sym here) ∙ from_at ns ns [] i n found (subst (λ k. HasParts ns k n) (sym here) (pool.parts i n found))

-- ---- parts in an extended pool

part_kept : (ns ms : List Node) → Extends ns ms → (i a : ℕ) (s : Sort) → i ≤ length ns → HasPart ns i a s → HasPart ms i a s
part_kept ns ms e i a s h p = record { earlier = p.earlier; sort = ap sort_of (item_kept ns ms e a (omega (arith, h, p.earlier))) ∙ p.sort }

pub parts_kept : (ns ms : List Node) → Extends ns ms → (i : ℕ) (n : Node) → i ≤ length ns → HasParts ns i n → HasParts ms i n
parts_kept ns ms e i (LeafNode k) h p = p
parts_kept ns ms e i (OneNode k a) h p = part_kept ns ms e i a _ h p
parts_kept ns ms e i (TwoNode k a b) h p = (part_kept ns ms e i a _ h p.0, part_kept ns ms e i b _ h p.1)
parts_kept ns ms e i (ThreeNode k a b c) h p = (part_kept ns ms e i a _ h p.0, part_kept ns ms e i b _ h p.1, part_kept ns ms e i c _ h p.2)

-- past the last node there is no item
pub item_past : (ns : List Node) (i : ℕ) → length ns ≤ i → item_at ns i ≡ NoItem
item_past ns i h = get_or_past (items ns) i NoItem (omega (arith, h, items_length ns))
