-- The effect of a new parent pointer on the roots.
use Rattle.std.proofs.Common.{◌≡◌, ◌≢◌, ◌⊎◌, inl, inr, ℕ, zero, suc, ◌<◌, ◌≤◌, cond, nat_eq, List, [], ◌∷◌, length, take, Option, Some, None, refl, sym, ap, ◌∙◌, subst, arith}
use Rattle.std.specs.Prelude.{slice_get, slice_set}
use Rattle.std.proofs.lemmas.Bool.{cases_eq, cases_lt, eq-eqb, ne_eqb}
use Rattle.std.proofs.lemmas.List.{get_or-set_same, get_or-set_other, length-set}
use Rattle.congruence_closure.specs.Links.{Linked, ByLink, Itself, Turned, Chained}
use Rattle.congruence_closure.specs.declared.classes.link.Link.{Link}
use Rattle.congruence_closure.specs.Histories.{step_of, IsStill, IsRoot, Stays, Climbs, HasRoot, AreRising, IsHistory, AreApart}
use Rattle.congruence_closure.specs.declared.proof_forest.Step.{Step}
use Rattle.congruence_closure.proofs.RootLemmas.{same_step, still_none, root_unique, longer, root_still}

-- ---- edges

taken_more : (ls : List Link) (n k : ℕ) (l : Link) → slice_get (take n ls) k ≡ Some l → slice_get (take (suc n) ls) k ≡ Some l
taken_more [] zero k l e = e
taken_more [] (suc n) k l e = e
taken_more (m ∷ ls) zero k l e = absurd (cc)
taken_more (m ∷ ls) (suc n) zero l e = e
taken_more (m ∷ ls) (suc n) (suc k) l e = taken_more ls n k l e

taken_last : (ls : List Link) (n : ℕ) (l : Link) → slice_get ls n ≡ Some l → slice_get (take (suc n) ls) n ≡ Some l
taken_last [] n l e = absurd (cc)
taken_last (m ∷ ls) zero l e = e
taken_last (m ∷ ls) (suc n) l e = taken_last ls n l e

taken_cases : (ls : List Link) (n k : ℕ) (l : Link) → slice_get (take (suc n) ls) k ≡ Some l → (slice_get (take n ls) k ≡ Some l) ⊎ (slice_get ls n ≡ Some l)
taken_cases [] n k l e = absurd (cc)
taken_cases (m ∷ ls) zero zero l e = inr e
taken_cases (m ∷ []) zero (suc k) l e = absurd (cc)
taken_cases (m ∷ p ∷ ls) zero (suc k) l e = absurd (cc)
taken_cases (m ∷ ls) (suc n) zero l e = inl e
taken_cases (m ∷ ls) (suc n) (suc k) l e = taken_cases ls n k l e

pub linked_more : (ls : List Link) (n i j : ℕ) → Linked (take n ls) i j → Linked (take (suc n) ls) i j
linked_more ls n _ _ (ByLink k l e) = ByLink k l (taken_more ls n k l e)
linked_more ls n _ _ (Itself i) = Itself i
linked_more ls n _ _ (Turned i j h) = Turned i j (linked_more ls n i j h)
linked_more ls n _ _ (Chained i j k h g) = Chained i j k (linked_more ls n i j h) (linked_more ls n j k g)

-- a property of the ends of the edges so far and of the next one, which is closed under connection, holds of all
-- connected numbers
module _ (ls : List Link) (n : ℕ) (last : Link) (found : slice_get ls n ≡ Some last) (R : ℕ → ℕ → Type 0) (before : (i j : ℕ) → Linked (take n ls) i j → R i j) (by_last : R last.left last.right) (turned : (i j : ℕ) → R i j → R j i) (chained : (i j k : ℕ) → R i j → R j k → R i k) where
  pub goes_along : (i j : ℕ) → Linked (take (suc n) ls) i j → R i j
  goes_along _ _ (ByLink k l e) = go (taken_cases ls n k l e)
    where
      go : (slice_get (take n ls) k ≡ Some l) ⊎ (slice_get ls n ≡ Some l) → R l.left l.right
      go (inl f) = before l.left l.right (ByLink k l f)
      go (inr f) = (let both : Some last ≡ Some l = sym found ∙ f in let same : last ≡ l = cc in subst (λ (x : Link). R x.left x.right) same by_last)
  goes_along _ _ (Itself i) = before i i (Itself i)
  goes_along _ _ (Turned i j h) = turned i j (goes_along i j h)
  goes_along _ _ (Chained i j k h g) = chained i j k (goes_along i j h) (goes_along j k g)

-- ---- one more parent pointer

-- the root of a number with the new parent pointer, by its old root
abbrev led : ℕ → ℕ → ℕ → ℕ
led a p r = cond (nat_eq r a) p r

led_there : (a p : ℕ) → led a p a ≡ p
led_there a p = ap (λ b. cond b p a) (eq-eqb a a refl)

led_other : (a p r : ℕ) → r ≢ a → led a p r ≡ r
led_other a p r d = ap (λ b. cond b p r) (ne_eqb r a d)

module _ (ls : List Link) (n : ℕ) (steps : List (Option Step)) (h : IsHistory ls n steps) where
  -- all parent pointers were added by now
  none_left : (i r : ℕ) → IsRoot steps n i r → step_of steps r ≡ None
  none_left i r at = go (step_of steps r) refl
    where
      go : (o : Option Step) → step_of steps r ≡ o → step_of steps r ≡ None
      go None e = e
      go (Some s) e = (let late = (root_still steps n i r at).later s e in let early = h.brought r s e in absurd (omega (arith, late, early)))

  -- the history goes on without a new parent pointer
  module _ (last : Link) (found : slice_get ls n ≡ Some last) (r : ℕ) (left : IsRoot steps n last.left r) (right : IsRoot steps n last.right r) where
    back : (k i q : ℕ) → k ≤ suc n → IsRoot steps (suc n) i q → IsRoot steps n i q
    back k i q le at =
        let old = h.rooted n i in
        let new : IsRoot steps (suc n) i old.root = longer steps n (suc n) i old.root (omega arith) old.is_root (still_none steps (suc n) old.root (none_left i old.root old.is_root)) in
        subst (IsRoot steps n i) (root_unique steps (suc n) i old.root q new at) old.is_root

    still_linked : (i j : ℕ) → Linked (take (suc n) ls) i j → Linked (take n ls) i j
    still_linked = goes_along ls n last found (Linked (take n ls)) (λ i j g. g) (h.sound n last.left last.right r (omega arith) left right) (λ i j g. Turned i j g) (λ i j k g f. Chained i j k g f)

    pub goes_on : IsHistory ls (suc n) steps
    goes_on = record {
      rising = h.rising;
      brought = λ i s f. (let early = h.brought i s f in omega (arith, early));
      rooted = h.rooted;
      sound = λ k i j q le a b. sound_at k i j q le a b (cases_lt n k);
      whole = λ k i j q p le a b g. whole_at k i j q p le a b g (cases_lt n k);
    }
      where
        sound_at : (k i j q : ℕ) → k ≤ suc n → IsRoot steps k i q → IsRoot steps k j q → (n < k) ⊎ (k ≤ n) → Linked (take k ls) i j
        sound_at k i j q le a b (inr w) = h.sound k i j q w a b
        sound_at k i j q le a b (inl w) =
            let e : suc n ≡ k = omega (arith, le, w) in
            subst (λ m. Linked (take m ls) i j) e (linked_more ls n i j (h.sound n i j q (omega arith) (back k i q le (subst (λ m. IsRoot steps m i q) (sym e) a)) (back k j q le (subst (λ m. IsRoot steps m j q) (sym e) b))))

        whole_at : (k i j q p : ℕ) → k ≤ suc n → IsRoot steps k i q → IsRoot steps k j p → Linked (take k ls) i j → (n < k) ⊎ (k ≤ n) → q ≡ p
        whole_at k i j q p le a b g (inr w) = h.whole k i j q p w a b g
        whole_at k i j q p le a b g (inl w) =
            let e : suc n ≡ k = omega (arith, le, w) in
            h.whole n i j q p (omega arith) (back k i q le (subst (λ m. IsRoot steps m i q) (sym e) a)) (back k j p le (subst (λ m. IsRoot steps m j p) (sym e) b)) (still_linked i j (subst (λ m. Linked (take m ls) i j) (sym e) g))

  -- one of the roots of the ends of the next edge becomes the parent of the other
  module _ (last : Link) (found : slice_get ls n ≡ Some last) (one other : ℕ) (left : IsRoot steps n last.left one) (right : IsRoot steps n last.right other) (a p : ℕ) (apart : a ≢ p) (ends : ((one ≡ a) × (other ≡ p)) ⊎ ((one ≡ p) × (other ≡ a))) (within : a < length steps) (parent_within : p < length steps) where
    abbrev new : Step
    new = record { parent = p; link = n }

    abbrev more : List (Option Step)
    more = slice_set steps a (Some new)

    child_none : step_of steps a ≡ None
    child_none = go ends
      where
        go : ((one ≡ a) × (other ≡ p)) ⊎ ((one ≡ p) × (other ≡ a)) → step_of steps a ≡ None
        go (inl e) = none_left last.left a (subst (IsRoot steps n last.left) e.0 left)
        go (inr e) = none_left last.right a (subst (IsRoot steps n last.right) e.1 right)

    parent_none : step_of steps p ≡ None
    parent_none = go ends
      where
        go : ((one ≡ a) × (other ≡ p)) ⊎ ((one ≡ p) × (other ≡ a)) → step_of steps p ≡ None
        go (inl e) = none_left last.right p (subst (IsRoot steps n last.right) e.1 right)
        go (inr e) = none_left last.left p (subst (IsRoot steps n last.left) e.0 left)

    at_child : step_of more a ≡ Some new
    at_child = get_or-set_same steps a (Some new) None within

    elsewhere : (i : ℕ) → i ≢ a → step_of more i ≡ step_of steps i
    elsewhere i d = get_or-set_other steps a i (Some new) None d

    kept : (i : ℕ) (s : Step) → step_of steps i ≡ Some s → step_of more i ≡ Some s
    kept i s f = go (cases_eq i a)
      where
        go : (i ≡ a) ⊎ (i ≢ a) → step_of more i ≡ Some s
        go (inl e) = (let both : None ≡ Some s = sym child_none ∙ ap (step_of steps) (sym e) ∙ f in absurd (cc))
        go (inr d) = elsewhere i d ∙ f

    old_or_new : (i : ℕ) (s : Step) → step_of more i ≡ Some s → (step_of steps i ≡ Some s) ⊎ ((i ≡ a) × (s ≡ new))
    old_or_new i s f = go (cases_eq i a)
      where
        go : (i ≡ a) ⊎ (i ≢ a) → (step_of steps i ≡ Some s) ⊎ ((i ≡ a) × (s ≡ new))
        go (inl e) = inr (e, same_step (step_of more a) s new (ap (step_of more) (sym e) ∙ f) at_child)
        go (inr d) = inl (sym (elsewhere i d) ∙ f)

    -- ---- before the new parent pointer

    still_kept : (k i : ℕ) → k ≤ n → IsStill steps k i → IsStill more k i
    still_kept k i le still = record { later = λ s f. go s (old_or_new i s f) }
      where
        go : (s : Step) → (step_of steps i ≡ Some s) ⊎ ((i ≡ a) × (s ≡ new)) → k ≤ s.link
        go s (inl f) = still.later s f
        go s (inr e) = subst (λ (x : Step). k ≤ x.link) (sym e.1) le

    root_kept : (k i r : ℕ) → k ≤ n → IsRoot steps k i r → IsRoot more k i r
    root_kept k _ _ le (Stays i still) = Stays i (still_kept k i le still)
    root_kept k _ _ le (Climbs i r s f w g) = Climbs i r s (kept i s f) w (root_kept k s.parent r le g)

    root_old : (k i r : ℕ) → k ≤ n → IsRoot more k i r → IsRoot steps k i r
    root_old k i r le at =
        let old = h.rooted k i in
        subst (IsRoot steps k i) (root_unique more k i old.root r (root_kept k i old.root le old.is_root) at) old.is_root

    -- ---- with the new parent pointer

    climbs_to : (k i r q : ℕ) → n < k → IsRoot steps n i r → IsRoot more k r q → IsRoot more k i q
    climbs_to k _ _ q w (Stays i still) g = g
    climbs_to k _ _ q w (Climbs i r s f l up) g = Climbs i q s (kept i s f) (omega (arith, l, w)) (climbs_to k s.parent r q w up g)

    leads : (k r : ℕ) → n < k → step_of steps r ≡ None → IsRoot more k r (led a p r)
    leads k r w none = go (cases_eq r a)
      where
        parent_stays : IsRoot more k p p
        parent_stays = Stays p (still_none more k p (elsewhere p (λ e. apart (sym e)) ∙ parent_none))

        go : (r ≡ a) ⊎ (r ≢ a) → IsRoot more k r (led a p r)
        go (inl e) = subst (λ x. IsRoot more k x (led a p x)) (sym e) (subst (IsRoot more k a) (sym (led_there a p)) (Climbs a p new at_child w parent_stays))
        go (inr d) = subst (IsRoot more k r) (sym (led_other a p r d)) (Stays r (still_none more k r (elsewhere r d ∙ none)))

    root_new : (k i r : ℕ) → n < k → IsRoot steps n i r → IsRoot more k i (led a p r)
    root_new k i r w at = climbs_to k i r (led a p r) w at (leads k r w (none_left i r at))

    -- ---- two numbers

    ends_led : led a p one ≡ led a p other
    ends_led = go ends (cases_eq p a)
      where
        parent_led : (p ≡ a) ⊎ (p ≢ a) → led a p p ≡ p
        parent_led (inl e) = absurd (apart (sym e))
        parent_led (inr d) = led_other a p p d

        go : ((one ≡ a) × (other ≡ p)) ⊎ ((one ≡ p) × (other ≡ a)) → (p ≡ a) ⊎ (p ≢ a) → led a p one ≡ led a p other
        go (inl e) c = ap (led a p) e.0 ∙ led_there a p ∙ sym (parent_led c) ∙ ap (led a p) (sym e.1)
        go (inr e) c = ap (led a p) e.0 ∙ parent_led c ∙ sym (led_there a p) ∙ ap (led a p) (sym e.1)

    -- the old roots lead to one root
    record AreLed (i j : ℕ) : Type 0 where
      same : (r q : ℕ) → IsRoot steps n i r → IsRoot steps n j q → led a p r ≡ led a p q

    all_led : (i j : ℕ) → Linked (take (suc n) ls) i j → AreLed i j
    all_led = goes_along ls n last found AreLed
        (λ i j g. record { same = λ r q at there. ap (led a p) (h.whole n i j r q (omega arith) at there g) })
        (record { same = λ r q at there. ap (led a p) (root_unique steps n last.left r one at left) ∙ ends_led ∙ ap (led a p) (root_unique steps n last.right other q right there) })
        (λ i j g. record { same = λ r q at there. sym (g.same q r there at) })
        (λ i j k g f. record { same = λ r q at there. (let mid = h.rooted n j in g.same r mid.root at mid.is_root ∙ f.same mid.root q mid.is_root there) })

    across : Linked (take (suc n) ls) last.left last.right
    across = ByLink n last (taken_last ls n last found)

    by_roots : (i j r : ℕ) → IsRoot steps n i r → IsRoot steps n j r → Linked (take (suc n) ls) i j
    by_roots i j r at there = linked_more ls n i j (h.sound n i j r (omega arith) at there)

    -- from a number with the child as its root to one with the parent
    over : (i j : ℕ) → IsRoot steps n i a → IsRoot steps n j p → Linked (take (suc n) ls) i j
    over i j at there = go ends
      where
        go : ((one ≡ a) × (other ≡ p)) ⊎ ((one ≡ p) × (other ≡ a)) → Linked (take (suc n) ls) i j
        go (inl e) =
            Chained i last.left j (by_roots i last.left a at (subst (IsRoot steps n last.left) e.0 left))
            (Chained last.left last.right j across (by_roots last.right j p (subst (IsRoot steps n last.right) e.1 right) there))
        go (inr e) =
            Chained i last.right j (by_roots i last.right a at (subst (IsRoot steps n last.right) e.1 right))
            (Chained last.right last.left j (Turned last.left last.right across) (by_roots last.left j p (subst (IsRoot steps n last.left) e.0 left) there))

    led_sound : (i j r q : ℕ) → IsRoot steps n i r → IsRoot steps n j q → led a p r ≡ led a p q → Linked (take (suc n) ls) i j
    led_sound i j r q at there e = go (cases_eq r a) (cases_eq q a)
      where
        go : (r ≡ a) ⊎ (r ≢ a) → (q ≡ a) ⊎ (q ≢ a) → Linked (take (suc n) ls) i j
        go (inl c) (inl d) = by_roots i j a (subst (IsRoot steps n i) c at) (subst (IsRoot steps n j) d there)
        go (inl c) (inr d) =
            let to : q ≡ p = sym (led_other a p q d) ∙ sym e ∙ ap (led a p) c ∙ led_there a p in
            over i j (subst (IsRoot steps n i) c at) (subst (IsRoot steps n j) to there)
        go (inr c) (inl d) =
            let to : r ≡ p = sym (led_other a p r c) ∙ e ∙ ap (led a p) d ∙ led_there a p in
            Turned j i (over j i (subst (IsRoot steps n j) d there) (subst (IsRoot steps n i) to at))
        go (inr c) (inr d) =
            let to : q ≡ r = sym (led_other a p q d) ∙ sym e ∙ led_other a p r c in
            by_roots i j r at (subst (IsRoot steps n j) to there)

    -- ---- the history

    rising : AreRising more
    rising = record {
      rising = λ i s t f g. rise i s t (old_or_new i s f) (old_or_new s.parent t g);
      within = λ i s f. (let long : length more ≡ length steps = length-set steps a (Some new) in within_at i s long (old_or_new i s f));
    }
      where
        rise : (i : ℕ) (s t : Step) → (step_of steps i ≡ Some s) ⊎ ((i ≡ a) × (s ≡ new)) → (step_of steps s.parent ≡ Some t) ⊎ ((s.parent ≡ a) × (t ≡ new)) → s.link < t.link
        rise i s t (inl f) (inl g) = h.rising.rising i s t f g
        rise i s t (inl f) (inr e) = subst (λ (x : Step). s.link < x.link) (sym e.1) (h.brought i s f)
        rise i s t (inr e) (inl g) = (let here : step_of steps p ≡ Some t = ap (λ (x : Step). step_of steps x.parent) (sym e.1) ∙ g in let both : None ≡ Some t = sym parent_none ∙ here in absurd (cc))
        rise i s t (inr e) (inr f) = (let same : p ≡ a = ap (λ (x : Step). x.parent) (sym e.1) ∙ f.0 in absurd (apart (sym same)))

        within_at : (i : ℕ) (s : Step) → length more ≡ length steps → (step_of steps i ≡ Some s) ⊎ ((i ≡ a) × (s ≡ new)) → s.parent < length more
        within_at i s long (inl f) = subst (λ x. s.parent < x) (sym long) (h.rising.within i s f)
        within_at i s long (inr e) = subst (λ (x : Step). x.parent < length more) (sym e.1) (subst (λ x. p < x) (sym long) parent_within)

    pub goes_on_with : IsHistory ls (suc n) more
    goes_on_with = record {
      rising = rising;
      brought = λ i s f. brought_at i s (old_or_new i s f);
      rooted = λ k i. rooted_at k i (cases_lt n k);
      sound = λ k i j q le c d. sound_at k i j q le c d (cases_lt n k);
      whole = λ k i j q r le c d g. whole_at k i j q r le c d g (cases_lt n k);
    }
      where
        brought_at : (i : ℕ) (s : Step) → (step_of steps i ≡ Some s) ⊎ ((i ≡ a) × (s ≡ new)) → s.link < suc n
        brought_at i s (inl f) = (let early = h.brought i s f in omega (arith, early))
        brought_at i s (inr e) = subst (λ (x : Step). x.link < suc n) (sym e.1) (omega arith)

        rooted_at : (k i : ℕ) → (n < k) ⊎ (k ≤ n) → HasRoot more k i
        rooted_at k i (inl w) = (let old = h.rooted n i in record { root = led a p old.root; is_root = root_new k i old.root w old.is_root })
        rooted_at k i (inr le) = (let old = h.rooted k i in record { root = old.root; is_root = root_kept k i old.root le old.is_root })

        sound_at : (k i j q : ℕ) → k ≤ suc n → IsRoot more k i q → IsRoot more k j q → (n < k) ⊎ (k ≤ n) → Linked (take k ls) i j
        sound_at k i j q le c d (inr w) = h.sound k i j q w (root_old k i q w c) (root_old k j q w d)
        sound_at k i j q le c d (inl w) =
            let e : suc n ≡ k = omega (arith, le, w) in
            let one = h.rooted n i in
            let two = h.rooted n j in
            subst (λ m. Linked (take m ls) i j) e
            (led_sound i j one.root two.root one.is_root two.is_root
            (root_unique more k i (led a p one.root) q (root_new k i one.root w one.is_root) c ∙ root_unique more k j q (led a p two.root) d (root_new k j two.root w two.is_root)))

        whole_at : (k i j q r : ℕ) → k ≤ suc n → IsRoot more k i q → IsRoot more k j r → Linked (take k ls) i j → (n < k) ⊎ (k ≤ n) → q ≡ r
        whole_at k i j q r le c d g (inr w) = h.whole k i j q r w (root_old k i q w c) (root_old k j r w d) g
        whole_at k i j q r le c d g (inl w) =
            let e : suc n ≡ k = omega (arith, le, w) in
            let one = h.rooted n i in
            let two = h.rooted n j in
            root_unique more k i q (led a p one.root) c (root_new k i one.root w one.is_root)
            ∙ (all_led i j (subst (λ m. Linked (take m ls) i j) (sym e) g)).same one.root two.root one.is_root two.is_root
            ∙ root_unique more k j (led a p two.root) r (root_new k j two.root w two.is_root) d

-- ---- without edges

pub begun : (ls : List Link) (count : ℕ) (steps : List (Option Step)) → AreApart count steps → IsHistory ls 0 steps
begun ls count steps e = record {
  rising = record { rising = λ i s t f g. no (i) s f; within = λ i s f. no i s f };
  brought = λ i s f. no i s f;
  rooted = λ k i. record { root = i; is_root = Stays i (still_none steps k i (e.none i)) };
  sound = λ k i j r le a b. subst (Linked (take k ls) i) (root_unique steps k i i r (alone k i) a ∙ root_unique steps k j r j b (alone k j)) (Itself i);
  whole = λ k i j r q le a b g. root_unique steps k i r i a (alone k i) ∙ none_linked k i j (omega (arith, le)) g ∙ root_unique steps k j j q (alone k j) b;
}
  where
    no : {X : Type 0} (i : ℕ) (s : Step) → step_of steps i ≡ Some s → X
    no i s f = (let both : None ≡ Some s = sym (e.none i) ∙ f in absurd (cc))

    alone : (k i : ℕ) → IsRoot steps k i i
    alone k i = Stays i (still_none steps k i (e.none i))

    of_none : (ms : List Link) (i j : ℕ) → ms ≡ [] → Linked ms i j → i ≡ j
    of_none ms _ _ f (ByLink k l g) = (let both : slice_get [] k ≡ Some l = ap (λ xs. slice_get xs k) (sym f) ∙ g in absurd (cc))
    of_none ms _ _ f (Itself i) = refl
    of_none ms _ _ f (Turned i j g) = sym (of_none ms i j f g)
    of_none ms _ _ f (Chained i j k g d) = of_none ms i j f g ∙ of_none ms j k f d

    take_none : (k : ℕ) → k ≡ 0 → take k ls ≡ []
    take_none k f = subst (λ m. take m ls ≡ []) (sym f) (at_zero ls)
      where
        at_zero : (xs : List Link) → take 0 xs ≡ []
        at_zero [] = refl
        at_zero (x ∷ xs) = refl

    none_linked : (k i j : ℕ) → k ≡ 0 → Linked (take k ls) i j → i ≡ j
    none_linked k i j f g = of_none (take k ls) i j (take_none k f) g
