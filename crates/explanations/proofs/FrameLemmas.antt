-- Head symbols with a hole: sorts, and items and nodes in a pool that is extended.
use Rattle.std.proofs.Common.{◌≡◌, ℕ, zero, suc, ◌<◌, ◌≤◌, ◌-◌, List, [], ◌∷◌, length, get_or, drop, refl, sym, ap, ◌∙◌, subst, arith, length-append}
use Rattle.std.proofs.Math.Seq.{drop-cons}
use Rattle.term_pool.specs.Items.{Item, NoItem, Sort, FormulaSort, sort_of, one_item, two_item, three_item, first_of_two, second_of_two, first_of_three, second_of_three, third_of_three}
use Rattle.term_pool.specs.Pools.{item_at, HasPart, HasParts, IsMade, IsItem, Extends}
use Rattle.term_pool.specs.declared.node.One.{One}
use Rattle.term_pool.specs.declared.node.One.TheVariants.{Unary}
use Rattle.term_pool.specs.declared.node.Two.{Two}
use Rattle.term_pool.specs.declared.node.Two.TheVariants.{Binary}
use Rattle.term_pool.specs.declared.node.Three.{Three}
use Rattle.term_pool.specs.declared.node.Three.TheVariants.{Ternary}
use Rattle.term_pool.specs.declared.node.Node.{Node}
use Rattle.term_pool.proofs.ItemLemmas.{item_kept}
use Rattle.term_pool.proofs.GrowthLemmas.{one_made, two_made, three_made}
use Rattle.explanations.specs.declared.frame.Frame.{Frame}
use Rattle.explanations.specs.declared.frame.Frame.TheVariants.{Only, FirstOfTwo, SecondOfTwo, FirstOfThree, SecondOfThree, ThirdOfThree}
use Rattle.explanations.specs.Frames.{node_with, frame_item, filled, open_sort, made_sort, HasOthers, Leads, IsWay}

-- ---- sorts

one_sorted : (h : One) (x : Item) → sort_of (one_item h x) ≡ sort_of (one_item h NoItem)
one_sorted (Unary o) x = refl
one_sorted h x = refl

two_sorted : (h : Two) (x y : Item) → sort_of (two_item h x y) ≡ sort_of (two_item h NoItem NoItem)
two_sorted (Binary o) x y = refl
two_sorted h x y = refl

three_sorted : (h : Three) (x y z : Item) → sort_of (three_item h x y z) ≡ sort_of (three_item h NoItem NoItem NoItem)
three_sorted (Ternary o) x y z = refl
three_sorted h x y z = refl

frame_sorted : (ns : List Node) (f : Frame) (x : Item) → sort_of (frame_item ns f x) ≡ made_sort f
frame_sorted ns (Only h) x = one_sorted h x
frame_sorted ns (FirstOfTwo h b) x = two_sorted h x (item_at ns b)
frame_sorted ns (SecondOfTwo h a) x = two_sorted h (item_at ns a) x
frame_sorted ns (FirstOfThree h b c) x = three_sorted h x (item_at ns b) (item_at ns c)
frame_sorted ns (SecondOfThree h a c) x = three_sorted h (item_at ns a) x (item_at ns c)
frame_sorted ns (ThirdOfThree h a b) x = three_sorted h (item_at ns a) (item_at ns b) x

pub filled_sorted : (ns : List Node) (top end : Sort) (fs : List Frame) → Leads ns top fs end → (x : Item) → sort_of x ≡ end → sort_of (filled ns fs x) ≡ top
filled_sorted ns top end [] l x e = e ∙ sym l
filled_sorted ns top end (f ∷ fs) l x e = frame_sorted ns f (filled ns fs x) ∙ l.0

-- ---- a pool that is extended

pub longer : {ns ms : List Node} → Extends ns ms → length ns ≤ length ms
longer {ns} {ms} e = (let l = ap length e.is in omega (arith, l, length-append ns e.more))

part_stays : (ns ms : List Node) → Extends ns ms → (a : ℕ) (s : Sort) → HasPart ns (length ns) a s → HasPart ms (length ms) a s
part_stays ns ms e a s p = record { earlier = omega (arith, p.earlier, longer e); sort = ap sort_of (item_kept ns ms e a p.earlier) ∙ p.sort }

others_stay : (ns ms : List Node) → Extends ns ms → (f : Frame) → HasOthers ns f → HasOthers ms f
others_stay ns ms e (Only h) p = tt
others_stay ns ms e (FirstOfTwo h b) p = part_stays ns ms e b (second_of_two h) p
others_stay ns ms e (SecondOfTwo h a) p = part_stays ns ms e a (first_of_two h) p
others_stay ns ms e (FirstOfThree h b c) p = (part_stays ns ms e b (second_of_three h) p.0, part_stays ns ms e c (third_of_three h) p.1)
others_stay ns ms e (SecondOfThree h a c) p = (part_stays ns ms e a (first_of_three h) p.0, part_stays ns ms e c (third_of_three h) p.1)
others_stay ns ms e (ThirdOfThree h a b) p = (part_stays ns ms e a (first_of_three h) p.0, part_stays ns ms e b (second_of_three h) p.1)

pub leads_stay : (ns ms : List Node) → Extends ns ms → (top end : Sort) (fs : List Frame) → Leads ns top fs end → Leads ms top fs end
leads_stay ns ms e top end [] l = l
leads_stay ns ms e top end (f ∷ fs) l = (l.0, others_stay ns ms e f l.1, leads_stay ns ms e (open_sort f) end fs l.2)

frame_kept : (ns ms : List Node) → Extends ns ms → (f : Frame) → HasOthers ns f → (x : Item) → frame_item ms f x ≡ frame_item ns f x
frame_kept ns ms e (Only h) p x = refl
frame_kept ns ms e (FirstOfTwo h b) p x = ap (two_item h x) (item_kept ns ms e b p.earlier)
frame_kept ns ms e (SecondOfTwo h a) p x = ap (λ y. two_item h y x) (item_kept ns ms e a p.earlier)
frame_kept ns ms e (FirstOfThree h b c) p x = λ i. three_item h x (item_kept ns ms e b p.0.earlier i) (item_kept ns ms e c p.1.earlier i)
frame_kept ns ms e (SecondOfThree h a c) p x = λ i. three_item h (item_kept ns ms e a p.0.earlier i) x (item_kept ns ms e c p.1.earlier i)
frame_kept ns ms e (ThirdOfThree h a b) p x = λ i. three_item h (item_kept ns ms e a p.0.earlier i) (item_kept ns ms e b p.1.earlier i) x

pub filled_kept : (ns ms : List Node) → Extends ns ms → (top end : Sort) (fs : List Frame) → Leads ns top fs end → (x : Item) → filled ms fs x ≡ filled ns fs x
filled_kept ns ms e top end [] l x = refl
filled_kept ns ms e top end (f ∷ fs) l x = ap (frame_item ms f) (filled_kept ns ms e (open_sort f) end fs l.2 x) ∙ frame_kept ns ms e f l.1 (filled ns fs x)

-- ---- a head symbol with its hole filled

frame_parts : (ns ms : List Node) → Extends ns ms → (f : Frame) → HasOthers ns f → (k : ℕ) → k < length ms → sort_of (item_at ms k) ≡ open_sort f → HasParts ms (length ms) (node_with f k)
frame_parts ns ms e (Only h) p k w s = record { earlier = w; sort = s }
frame_parts ns ms e (FirstOfTwo h b) p k w s = (record { earlier = w; sort = s }, part_stays ns ms e b (second_of_two h) p)
frame_parts ns ms e (SecondOfTwo h a) p k w s = (part_stays ns ms e a (first_of_two h) p, record { earlier = w; sort = s })
frame_parts ns ms e (FirstOfThree h b c) p k w s = (record { earlier = w; sort = s }, part_stays ns ms e b (second_of_three h) p.0, part_stays ns ms e c (third_of_three h) p.1)
frame_parts ns ms e (SecondOfThree h a c) p k w s = (part_stays ns ms e a (first_of_three h) p.0, record { earlier = w; sort = s }, part_stays ns ms e c (third_of_three h) p.1)
frame_parts ns ms e (ThirdOfThree h a b) p k w s = (part_stays ns ms e a (first_of_three h) p.0, part_stays ns ms e b (second_of_three h) p.1, record { earlier = w; sort = s })

frame_made : (ns ms ks : List Node) → Extends ns ms → Extends ms ks → (f : Frame) → HasOthers ns f → (k m : ℕ) (x : Item) → IsItem ms k x → HasParts ms (length ms) (node_with f k) → IsMade ks m (node_with f k) → IsItem ks m (frame_item ns f x)
frame_made ns ms ks e g (Only h) p k m x i q made =
    let it = one_made h g q made in
    record { within = it.within; is = it.is ∙ ap (one_item h) i.is }
frame_made ns ms ks e g (FirstOfTwo h b) p k m x i q made =
    let it = two_made h g q made in
    record { within = it.within; is = it.is ∙ (λ t. two_item h (i.is t) (item_kept ns ms e b p.earlier t)) }
frame_made ns ms ks e g (SecondOfTwo h a) p k m x i q made =
    let it = two_made h g q made in
    record { within = it.within; is = it.is ∙ (λ t. two_item h (item_kept ns ms e a p.earlier t) (i.is t)) }
frame_made ns ms ks e g (FirstOfThree h b c) p k m x i q made =
    let it = three_made h g q made in
    record { within = it.within; is = it.is ∙ (λ t. three_item h (i.is t) (item_kept ns ms e b p.0.earlier t) (item_kept ns ms e c p.1.earlier t)) }
frame_made ns ms ks e g (SecondOfThree h a c) p k m x i q made =
    let it = three_made h g q made in
    record { within = it.within; is = it.is ∙ (λ t. three_item h (item_kept ns ms e a p.0.earlier t) (i.is t) (item_kept ns ms e c p.1.earlier t)) }
frame_made ns ms ks e g (ThirdOfThree h a b) p k m x i q made =
    let it = three_made h g q made in
    record { within = it.within; is = it.is ∙ (λ t. three_item h (item_kept ns ms e a p.0.earlier t) (item_kept ns ms e b p.1.earlier t) (i.is t)) }

-- ---- filling, from the hole outwards

record LeadsFrom (ns : List Node) (fs : List Frame) (end : Sort) : Type 0 where
  top : Sort
  leads : Leads ns top fs end

dropped : (ns : List Node) (top end : Sort) (fs : List Frame) → Leads ns top fs end → (k : ℕ) → LeadsFrom ns (drop k fs) end
dropped ns top end [] l zero = record { top = top; leads = l }
dropped ns top end [] l (suc k) = record { top = top; leads = l }
dropped ns top end (f ∷ fs) l zero = record { top = top; leads = l }
dropped ns top end (f ∷ fs) l (suc k) = dropped ns (open_sort f) end fs l.2 k

-- the frame before the part that was filled so far
record IsBefore (ns : List Node) (f : Frame) (fs : List Frame) (end : Sort) : Type 0 where
  others : HasOthers ns f
  leads : Leads ns (open_sort f) fs end

before : (ns : List Node) (top end : Sort) (fs : List Frame) → Leads ns top fs end → (i j : ℕ) (f : Frame) → f ∷ drop i fs ≡ drop j fs → IsBefore ns f (drop i fs) end
before ns top end fs l i j f e =
    let from = dropped ns top end fs l j in
    let at : Leads ns from.top (f ∷ drop i fs) end = subst (λ gs. Leads ns from.top gs end) (sym e) from.leads in
    record { others = at.1; leads = at.2 }

pub step_parts : (ns ms : List Node) (top : Sort) (fs : List Frame) (x : Item) → Leads ns top fs (sort_of x) → Extends ns ms → (i j k : ℕ) (f : Frame) → f ∷ drop i fs ≡ drop j fs → IsItem ms k (filled ns (drop i fs) x) → HasParts ms (length ms) (node_with f k)
step_parts ns ms top fs x l e i j k f d it =
    let b = before ns top (sort_of x) fs l i j f d in
    frame_parts ns ms e f b.others k it.within (ap sort_of it.is ∙ filled_sorted ns (open_sort f) (sort_of x) (drop i fs) b.leads x refl)

pub step_made : (ns ms ks : List Node) (top : Sort) (fs : List Frame) (x : Item) → Leads ns top fs (sort_of x) → Extends ns ms → Extends ms ks → (i j k m : ℕ) (f : Frame) → f ∷ drop i fs ≡ drop j fs → IsItem ms k (filled ns (drop i fs) x) → IsMade ks m (node_with f k) → IsItem ks m (filled ns (drop j fs) x)
step_made ns ms ks top fs x l e g i j k m f d it made =
    let b = before ns top (sort_of x) fs l i j f d in
    subst (λ gs. IsItem ks m (filled ns gs x)) d (frame_made ns ms ks e g f b.others k m (filled ns (drop i fs) x) it (step_parts ns ms top fs x l e i j k f d it) made)

-- with the frames found by their indices

head_at : (way : List Frame) (i : ℕ) (d : Frame) → 0 < i → i ≤ length way → get_or way (i - 1) d ∷ drop i way ≡ drop (i - 1) way
head_at way i d h w =
    let back : suc (i - 1) ≡ i = omega arith in
    sym (drop-cons way (i - 1) d (omega arith) ∙ ap (λ k. get_or way (i - 1) d ∷ drop k way) back)

pub drop_none : {X : Type 0} (xs : List X) → drop 0 xs ≡ xs
drop_none [] = refl
drop_none (x ∷ xs) = refl

pub fill_parts : (ns ms : List Node) (way : List Frame) (x : Item) → IsWay ns way (sort_of x) → Extends ns ms → (i k : ℕ) (d : Frame) → 0 < i → i ≤ length way → (n : Node) → n ≡ node_with (get_or way (i - 1) d) k → IsItem ms k (filled ns (drop i way) x) → HasParts ms (length ms) n
fill_parts ns ms way x l e i k d h w n is it =
    subst (HasParts ms (length ms)) (sym is) (step_parts ns ms FormulaSort way x l.leads e i (i - 1) k (get_or way (i - 1) d) (head_at way i d h w) it)

pub fill_made : (ns ms ks : List Node) (way : List Frame) (x : Item) → IsWay ns way (sort_of x) → Extends ns ms → Extends ms ks → (i k m : ℕ) (d : Frame) → 0 < i → i ≤ length way → (n : Node) → n ≡ node_with (get_or way (i - 1) d) k → IsItem ms k (filled ns (drop i way) x) → IsMade ks m n → IsItem ks m (filled ns (drop (i - 1) way) x)
fill_made ns ms ks way x l e g i k m d h w n is it made =
    step_made ns ms ks FormulaSort way x l.leads e g i (i - 1) k m (get_or way (i - 1) d) (head_at way i d h w) it (subst (IsMade ks m) is made)
