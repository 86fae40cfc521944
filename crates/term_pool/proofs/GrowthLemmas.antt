-- Properties of pools that are extended node by node.
use Rattle.std.proofs.Common.{◌≡◌, ℕ, zero, suc, ◌-◌, get_or, drop, ◌<◌, ◌≤◌, List, [], ◌∷◌, ◌++◌, length, sym, ap, ◌∙◌, arith, append_assoc, append-nil, length-append, Result, Ok, Err, IfOk}
use Rattle.std.proofs.lemmas.Option.{slice_get_within}
use Rattle.term_pool.specs.Items.{Item, Sort, sort_of, leaf_item, one_item, two_item, three_item, one_part, first_of_two, second_of_two, first_of_three, second_of_three, third_of_three}
use Rattle.term_pool.specs.Pools.{item_at, HasPart, HasParts, IsItem, IsMade, Extends}
use Rattle.term_pool.specs.declared.node.Leaf.{Leaf}
use Rattle.term_pool.specs.declared.node.One.{One}
use Rattle.term_pool.specs.declared.node.Two.{Two}
use Rattle.term_pool.specs.declared.node.Three.{Three}
use Rattle.term_pool.specs.declared.node.Node.{Node}
use Rattle.term_pool.specs.declared.node.Node.TheVariants.{Leaf as LeafNode, One as OneNode, Two as TwoNode, Three as ThreeNode}
use Rattle.term_pool.proofs.ItemLemmas.{item_kept}

pub extends_itself : (ns : List Node) → Extends ns ns
extends_itself ns = record { more = []; is = sym (append-nil ns) }

pub extends_then : {ns ms ks : List Node} → Extends ns ms → Extends ms ks → Extends ns ks
extends_then {ns} {ms} {ks} e f = record { more = e.more ++ f.more; is = f.is ∙ ap (λ xs. xs ++ f.more) e.is ∙ append_assoc ns e.more f.more }

extends_longer : {ns ms : List Node} → Extends ns ms → length ns ≤ length ms
extends_longer {ns} {ms} e = (let l = ap length e.is in omega (arith, l, length-append ns e.more))

pub item_stays : {ns ms : List Node} {i : ℕ} {x : Item} → Extends ns ms → IsItem ns i x → IsItem ms i x
item_stays {ns} {ms} {i} e h = record { within = omega (arith, h.within, extends_longer e); is = item_kept ns ms e i h.within ∙ h.is }

-- ---- items of known parts

part_is : {ns : List Node} {i : ℕ} {x : Item} (s : Sort) → IsItem ns i x → sort_of x ≡ s → HasPart ns (length ns) i s
part_is s h e = record { earlier = h.within; sort = ap sort_of h.is ∙ e }

pub one_parts : {ns : List Node} {a : ℕ} {x : Item} (h : One) → IsItem ns a x → sort_of x ≡ one_part h → HasParts ns (length ns) (OneNode h a)
one_parts h p e = part_is (one_part h) p e

pub two_parts : {ns : List Node} {a b : ℕ} {x y : Item} (h : Two) → IsItem ns a x → IsItem ns b y → sort_of x ≡ first_of_two h → sort_of y ≡ second_of_two h → HasParts ns (length ns) (TwoNode h a b)
two_parts h p q e f = (part_is (first_of_two h) p e, part_is (second_of_two h) q f)

pub three_parts : {ns : List Node} {a b c : ℕ} {x y z : Item} (h : Three) → IsItem ns a x → IsItem ns b y → IsItem ns c z → sort_of x ≡ first_of_three h → sort_of y ≡ second_of_three h → sort_of z ≡ third_of_three h → HasParts ns (length ns) (ThreeNode h a b c)
three_parts h p q r e f g = (part_is (first_of_three h) p e, part_is (second_of_three h) q f, part_is (third_of_three h) r g)

pub one_is : {ns ms : List Node} {a k : ℕ} {x : Item} (h : One) → IsItem ns a x → IsItem ms k (one_item h (item_at ns a)) → IsItem ms k (one_item h x)
one_is h p r = record { within = r.within; is = r.is ∙ ap (one_item h) p.is }

pub two_is : {ns ms : List Node} {a b k : ℕ} {x y : Item} (h : Two) → IsItem ns a x → IsItem ns b y → IsItem ms k (two_item h (item_at ns a) (item_at ns b)) → IsItem ms k (two_item h x y)
two_is h p q r = record { within = r.within; is = r.is ∙ (λ i. two_item h (p.is i) (q.is i)) }

pub three_is : {ns ms : List Node} {a b c k : ℕ} {x y z : Item} (h : Three) → IsItem ns a x → IsItem ns b y → IsItem ns c z → IsItem ms k (three_item h (item_at ns a) (item_at ns b) (item_at ns c)) → IsItem ms k (three_item h x y z)
three_is h p q s r = record { within = r.within; is = r.is ∙ (λ i. three_item h (p.is i) (q.is i) (s.is i)) }

-- ---- nodes that were added

within : (ns : List Node) (k : ℕ) (n : Node) → IsMade ns k n → k < length ns
within ns k n m = slice_get_within ns k n m.found

pub leaf_made : {ms : List Node} {k : ℕ} (h : Leaf) → IsMade ms k (LeafNode h) → IsItem ms k (leaf_item h)
leaf_made {ms} {k} h m = record { within = within ms k _ m; is = m.item }

pub one_made : {ns ms : List Node} {a k : ℕ} (h : One) → Extends ns ms → HasParts ns (length ns) (OneNode h a) → IsMade ms k (OneNode h a) → IsItem ms k (one_item h (item_at ns a))
one_made {ns} {ms} {a} {k} h e p m = record { within = within ms k _ m; is = m.item ∙ ap (one_item h) (item_kept ns ms e a p.earlier) }

pub two_made : {ns ms : List Node} {a b k : ℕ} (h : Two) → Extends ns ms → HasParts ns (length ns) (TwoNode h a b) → IsMade ms k (TwoNode h a b) → IsItem ms k (two_item h (item_at ns a) (item_at ns b))
two_made {ns} {ms} {a} {b} {k} h e p m = record { within = within ms k _ m; is = m.item ∙ (λ i. two_item h (item_kept ns ms e a p.0.earlier i) (item_kept ns ms e b p.1.earlier i)) }

pub three_made : {ns ms : List Node} {a b c k : ℕ} (h : Three) → Extends ns ms → HasParts ns (length ns) (ThreeNode h a b c) → IsMade ms k (ThreeNode h a b c) → IsItem ms k (three_item h (item_at ns a) (item_at ns b) (item_at ns c))
three_made {ns} {ms} {a} {b} {c} {k} h e p m = record { within = within ms k _ m; is = m.item ∙ (λ i. three_item h (item_kept ns ms e a p.0.earlier i) (item_kept ns ms e b p.1.earlier i) (item_kept ns ms e c p.2.earlier i)) }

-- a weaker property of the value of a result
pub if_ok : {E : Type 0} {P Q : ℕ → Type 0} (r : Result ℕ E) → ((k : ℕ) → P k → Q k) → IfOk r P → IfOk r Q
if_ok (Ok k) f h = f k h
if_ok (Err e) f h = h

-- ---- lists that are read from their ends

cons_drop : {X : Type 0} (xs : List X) (j : ℕ) (x : X) → j < length xs → x ≡ get_or xs j x → x ∷ drop (suc j) xs ≡ drop j xs
cons_drop [] j x h e = absurd (omega arith)
cons_drop (y ∷ ys) zero x h e = ap (λ z. z ∷ ys) e
cons_drop (y ∷ ys) (suc j) x h e = cons_drop ys j x (omega arith) e

pub drop_before : {X : Type 0} (xs : List X) (i : ℕ) (x : X) → 0 < i → i ≤ length xs → x ≡ get_or xs (i - 1) x → x ∷ drop i xs ≡ drop (i - 1) xs
drop_before xs i x h w e =
    let back : i ≡ suc (i - 1) = omega arith in
    ap (λ k. x ∷ drop k xs) back ∙ cons_drop xs (i - 1) x (omega arith) e
