-- Nodes that are copied to another pool with new numbers represent the same items there.
use Rattle.std.proofs.Common.{◌≡◌, ◌⊎◌, inl, inr, ℕ, ◌<◌, ◌≤◌, Bool, List, [], ◌∷◌, ◌++◌, length, refl, sym, ap, ◌∙◌, subst, arith, length-append}
use Rattle.std.specs.List.{Contains}
use Rattle.std.proofs.lemmas.List.{get_or_append_left, get_or_push}
use Rattle.std.proofs.lemmas.Option.{slice_get_within}
use Rattle.std.proofs.lemmas.Bool.{cases_lt}
use Rattle.term_pool.specs.Items.{Sort, sort_of, one_item, two_item, three_item}
use Rattle.term_pool.specs.Pools.{item_at, item_of, items, HasPart, HasParts, IsItem, IsMade, Extends}
use Rattle.term_pool.specs.declared.node.Node.{Node}
use Rattle.term_pool.specs.declared.node.Node.TheVariants.{Leaf as LeafNode, One as OneNode, Two as TwoNode, Three as ThreeNode}
use Rattle.term_pool.proofs.GrowthLemmas.{item_stays}
use Rattle.certificate_text.specs.Marks.{parts_of, parts_in, IsMarked, AreInside}
use Rattle.certificate_text.specs.Nodes.{new_number, node_anew, AreNumbers}
use Rattle.certificate_text.proofs.ListLemmas.{at_head, in_tail}

pub numbers_begun : (ns ms : List Node) (marks : List Bool) → AreNumbers ns ms marks []
numbers_begun ns ms marks = record { each = λ i w h. absurd (omega (arith, w)) }

module _ (ns ms : List Node) (marks : List Bool) (ks : List ℕ) (numbers : AreNumbers ns ms marks ks) (inside : AreInside ns 0 marks) where
  module _ (n : Node) (made : IsMade ns (length ks) n) (marked : IsMarked marks (length ks)) where
    stands : (a : ℕ) → a < length ks → Contains (parts_of n) a → IsItem ms (new_number ks a) (item_at ns a)
    stands a w c = numbers.each a w (inside.each (length ks) a (omega arith) marked (subst (λ xs. Contains xs a) (sym (ap parts_in made.found)) c))

  part_anew : (a : ℕ) (s : Sort) → HasPart ns (length ks) a s → IsItem ms (new_number ks a) (item_at ns a) → HasPart ms (length ms) (new_number ks a) s
  part_anew a s p h = record { earlier = h.within; sort = ap sort_of h.is ∙ p.sort }

  -- the parts of the new node
  pub parts_anew : (n : Node) → IsMade ns (length ks) n → IsMarked marks (length ks) → HasParts ms (length ms) (node_anew ks n)
  parts_anew (LeafNode h) made m = tt
  parts_anew (OneNode h a) made m = let p = made.parts in part_anew a _ p (stands (OneNode h a) made m a p.earlier (at_head a []))
  parts_anew (TwoNode h a b) made m =
      let p = made.parts in (
        part_anew a _ p.0 (stands (TwoNode h a b) made m a p.0.earlier (at_head a (b ∷ []))),
        part_anew b _ p.1 (stands (TwoNode h a b) made m b p.1.earlier (in_tail a (b ∷ []) b (at_head b []))),
      )
  parts_anew (ThreeNode h a b c) made m =
      let p = made.parts in (
        part_anew a _ p.0 (stands (ThreeNode h a b c) made m a p.0.earlier (at_head a (b ∷ c ∷ []))),
        part_anew b _ p.1 (stands (ThreeNode h a b c) made m b p.1.earlier (in_tail a (b ∷ c ∷ []) b (at_head b (c ∷ [])))),
        part_anew c _ p.2 (stands (ThreeNode h a b c) made m c p.2.earlier (in_tail a (b ∷ c ∷ []) c (in_tail b (c ∷ []) c (at_head c [])))),
      )

  module _ (more : List Node) (grown : Extends ms more) where
    same_part : (n : Node) → IsMade ns (length ks) n → IsMarked marks (length ks) → (a : ℕ) → a < length ks → Contains (parts_of n) a → item_at more (new_number ks a) ≡ item_at ns a
    same_part n made m a w c = (item_stays grown (stands n made m a w c)).is

    item_anew : (n : Node) → IsMade ns (length ks) n → IsMarked marks (length ks) → item_of (items more) (node_anew ks n) ≡ item_of (items ns) n
    item_anew (LeafNode h) made m = refl
    item_anew (OneNode h a) made m = let p = made.parts in ap (one_item h) (same_part (OneNode h a) made m a p.earlier (at_head a []))
    item_anew (TwoNode h a b) made m =
        let p = made.parts in
        let e : item_at more (new_number ks a) ≡ item_at ns a = same_part (TwoNode h a b) made m a p.0.earlier (at_head a (b ∷ [])) in
        let f : item_at more (new_number ks b) ≡ item_at ns b = same_part (TwoNode h a b) made m b p.1.earlier (in_tail a (b ∷ []) b (at_head b [])) in
        λ i. two_item h (e i) (f i)
    item_anew (ThreeNode h a b c) made m =
        let p = made.parts in
        let e : item_at more (new_number ks a) ≡ item_at ns a = same_part (ThreeNode h a b c) made m a p.0.earlier (at_head a (b ∷ c ∷ [])) in
        let f : item_at more (new_number ks b) ≡ item_at ns b = same_part (ThreeNode h a b c) made m b p.1.earlier (in_tail a (b ∷ c ∷ []) b (at_head b (c ∷ []))) in
        let g : item_at more (new_number ks c) ≡ item_at ns c = same_part (ThreeNode h a b c) made m c p.2.earlier (in_tail a (b ∷ c ∷ []) c (in_tail b (c ∷ []) c (at_head c []))) in
        λ i. three_item h (e i) (f i) (g i)

    -- one more node
    pub numbers_more : (n : Node) (k : ℕ) → IsMade ns (length ks) n → (IsMarked marks (length ks) → IsMade more k (node_anew ks n)) → AreNumbers ns more marks (ks ++ k ∷ [])
    numbers_more n k made put = record { each = λ i w m. each i m (cases_lt i (length ks)) (let l = length-append ks (k ∷ []) in omega (arith, w, l)) }
      where
        last : IsMarked marks (length ks) → IsItem more (new_number (ks ++ k ∷ []) (length ks)) (item_at ns (length ks))
        last m =
            let new = put m in
            let here : new_number (ks ++ k ∷ []) (length ks) ≡ k = get_or_push ks k 0 (length ks) refl in
            subst (λ j. IsItem more j (item_at ns (length ks))) (sym here) (record { within = slice_get_within more k (node_anew ks n) new.found; is = new.item ∙ item_anew n made m ∙ sym made.item })

        each : (i : ℕ) → IsMarked marks i → (i < length ks) ⊎ (length ks ≤ i) → i ≤ length ks → IsItem more (new_number (ks ++ k ∷ []) i) (item_at ns i)
        each i m (inl w) h = subst (λ j. IsItem more j (item_at ns i)) (sym (get_or_append_left ks (k ∷ []) 0 i w)) (item_stays grown (numbers.each i w m))
        each i m (inr past) h =
            let same : length ks ≡ i = omega (arith, past, h) in
            subst (λ j. IsItem more (new_number (ks ++ k ∷ []) j) (item_at ns j)) same (last (subst (IsMarked marks) (sym same) m))
