-- Steps of the depth-first traversal of type variables.
use Rattle.std.proofs.Common.{◌≡◌, ◌≢◌, ℕ, zero, suc, ◌+◌, ◌-◌, ◌*◌, ◌<◌, ◌≤◌, Bool, true, false, List, [], ◌∷◌, ◌++◌, length, reverse, replicate, refl, sym, ap, subst, ◌∙◌, inl, inr, arith, get_or-set_other, get_or-set_same}
use Rattle.std.specs.Prelude.{eqb, ◌||◌, slice_index}
use Rattle.std.specs.List.{list_any, IsDistinct, AllByRecursion}
use Rattle.std.proofs.lemmas.List.{reverse-append}
use Rattle.std.proofs.lemmas.Map.Steps.{length-le_from_distinct_below}
use Rattle.std.proofs.lemmas.Bool.Decides.{eqb_tells, leb_tells}
use Rattle.std.proofs.Math.Nat.{mul-le-mul_right}
use Rattle.std.proofs.Math.ListN.{set, length-set}
use Rattle.unification.specs.Slots.{Typing, Meets, Fits, SlotFits, slot_at}
use Rattle.unification.specs.Ranks.{EachLed, Lower, IsRank, rank_by}
use Rattle.unification.specs.declared.type_variables.slots.Term.TheVariants.{Variable, Closed, Made, Grouped}
use Rattle.unification.specs.declared.type_variables.slots.Slot.{Slot}
use Rattle.unification.specs.declared.type_variables.slots.Slot.TheVariants.{Open, Bound}
use Rattle.unification.proofs.Refill.{ranked}
use Rattle.unification.specs.Ranked.{rank_at, unranked}
use Rattle.unification.specs.Walking.{first_part, part_count, IsPart, IsWalk, LedTo, IsWay, BeginsAt, IsOnWay, KeepsRanks, steps_left, Goes}
use Rattle.unification.specs.declared.walk.Walk.{Walk}
use Rattle.unification.proofs.Ranking.{other, here, zeros, none_ranked, settled_one, settled_less}

-- ---- parts

pub part_led : (P : ℕ → Type 0) (x : Slot) (q : ℕ) → EachLed P x → IsPart x q → P q
part_led P (Open s) q h is = absurd (let a = is.1 in omega (arith, a))
part_led P (Bound (Variable p)) q h is = subst P (let a = is.0 in let b = is.1 in let e : p ≡ q = omega (arith, a, b) in e) h
part_led P (Bound (Closed of)) q h is = absurd (let a = is.1 in omega (arith, a))
part_led P (Bound (Made w p)) q h is = subst P (let a = is.0 in let b = is.1 in let e : p ≡ q = omega (arith, a, b) in e) h
part_led P (Bound (Grouped g first count)) q h is = h q is.0 is.1

led_part : (P : ℕ → Type 0) (x : Slot) → ((q : ℕ) → IsPart x q → P q) → EachLed P x
led_part P (Open s) h = tt
led_part P (Bound (Variable p)) h = h p (omega arith, omega arith)
led_part P (Bound (Closed of)) h = tt
led_part P (Bound (Made w p)) h = h p (omega arith, omega arith)
led_part P (Bound (Grouped g first count)) h = λ q a b. h q (a, b)

-- the variables of a slot that fits exist
pub parts_within : (slots : List Slot) (p : ℕ) → Fits slots → p < length slots → first_part (slot_at slots p) + part_count (slot_at slots p) ≤ length slots
parts_within slots p fits lt = go (slot_at slots p) (fits.each p lt)
  where
    go : (x : Slot) → SlotFits (length slots) p x → first_part x + part_count x ≤ length slots
    go (Open s) h = omega arith
    go (Bound (Variable q)) h = omega (arith, lt, h)
    go (Bound (Closed of)) h = omega arith
    go (Bound (Made w q)) h = omega (arith, h)
    go (Bound (Grouped g first count)) h = h

-- all parts have ranks
all_ranked : (slots : List Slot) (ranks : List ℕ) (p : ℕ) → ((i : ℕ) → i < part_count (slot_at slots p) → 0 < rank_at ranks (first_part (slot_at slots p) + i)) → (q : ℕ) → IsPart (slot_at slots p) q → 0 < rank_at ranks q
all_ranked slots ranks p h q is =
    let first : ℕ = first_part (slot_at slots p) in
    let e : first + (q - first) ≡ q = (let a = is.0 in omega (arith, a)) in
    subst (λ (x : ℕ). 0 < rank_at ranks x) e (h (q - first) (let a = is.0 in let b = is.1 in omega (arith, a, b)))

-- ---- a variable gets a rank

-- a variable that refers to one without a rank is not this one, all of whose parts have ranks
leads_on : (slots : List Slot) (ranks : List ℕ) (at p q : ℕ) → ((x : ℕ) → IsPart (slot_at slots at) x → 0 < rank_at ranks x) → rank_at ranks q ≡ 0 → IsPart (slot_at slots p) q → p ≢ at
leads_on slots ranks at p q all none is e =
    let h = all q (subst (λ (x : ℕ). IsPart (slot_at slots x) q) e is) in absurd (omega (arith, h, none))

way_settled : (slots : List Slot) (ranks : List ℕ) (at r q : ℕ) (way : List ℕ) → ((x : ℕ) → IsPart (slot_at slots at) x → 0 < rank_at ranks x) → rank_at ranks q ≡ 0 → LedTo slots q way → IsWay slots ranks way →
    IsWay slots (set ranks at r) way
way_settled slots ranks at r q [] all none led is = tt
way_settled slots ranks at r q (p ∷ way) all none led is =
    let ne : p ≢ at = leads_on slots ranks at p q all none led in
    (is.0, other ranks at p r ne ∙ is.1, is.2, way_settled slots ranks at r p way all is.1 is.2 is.3)

begins_kept : (start : ℕ) (old new : List ℕ) (p : ℕ) (way : List ℕ) → BeginsAt start old (p ∷ way) → BeginsAt start new (p ∷ way)
begins_kept start old new p [] h = h
begins_kept start old new p (q ∷ way) h = begins_kept start old new q way h

begins_settled : (start : ℕ) (ranks : List ℕ) (at r : ℕ) (way : List ℕ) → at < length ranks → 0 < r → BeginsAt start ranks (at ∷ way) → BeginsAt start (set ranks at r) way
begins_settled start ranks at r [] lt pos h =
    let e : rank_at (set ranks at r) start ≡ r = ap (rank_at (set ranks at r)) (sym h) ∙ here ranks at r lt in omega (arith, e, pos)
begins_settled start ranks at r (p ∷ way) lt pos h = begins_kept start ranks (set ranks at r) p way h

keeps_set : (ranks : List ℕ) (at r : ℕ) → at < length ranks → 0 < r → KeepsRanks ranks (set ranks at r)
keeps_set ranks at r lt pos p h = elim (eqb_tells p at) [
  | inl e ↦ (let same : rank_at (set ranks at r) p ≡ r = ap (rank_at (set ranks at r)) e.1 ∙ here ranks at r lt in omega (arith, same, pos))
  | inr e ↦ (let same = other ranks at p r e.1 in omega (arith, same, h))
]

-- the termination measure
less_by : (a b m x y : ℕ) → a + 1 ≤ b → x < m → a * m + x < b * m + y
less_by a b m x y h lt = let le : (1 + a) * m ≤ b * m = mul-le-mul_right m (omega (arith, h)) in omega (arith, le, lt)

less_ranks : (n : ℕ) (old new way rest : List ℕ) → unranked new + 1 ≤ unranked old → steps_left n new rest < steps_left n old way
less_ranks n old new way rest h = less_by (unranked new) (unranked old) (n + 3) ((n + 2) - length rest) ((n + 2) - length way) h (omega arith)

less_way : (n : ℕ) (ranks way more : List ℕ) → length more ≡ length way + 1 → length way ≤ n → steps_left n ranks more < steps_left n ranks way
less_way n ranks way more e le = less_end (unranked ranks * (n + 3)) ((n + 2) - length more) ((n + 2) - length way) (omega (arith, e, le))
  where
    less_end : (a x y : ℕ) → x < y → a + x < a + y
    less_end a x y h = omega (arith, h)

seen_more : (slots : List Slot) (ranks seen : List ℕ) (at k : ℕ) → ((p i : ℕ) → p < length slots → i < slice_index seen p → 0 < rank_at ranks (first_part (slot_at slots p) + i)) →
    at < length seen → ((i : ℕ) → slice_index seen at ≤ i → i < k → 0 < rank_at ranks (first_part (slot_at slots at) + i)) →
    (p i : ℕ) → p < length slots → i < slice_index (set seen at k) p → 0 < rank_at ranks (first_part (slot_at slots p) + i)
seen_more slots ranks seen at k h lt more p i lp li = elim (eqb_tells p at) [
  | inl e ↦ subst (λ (x : ℕ). 0 < rank_at ranks (first_part (slot_at slots x) + i)) (sym e.1)
      (let same : slice_index (set seen at k) p ≡ k = ap (slice_index (set seen at k)) e.1 ∙ get_or-set_same seen at k 0 lt in
      elim (leb_tells (suc i) (slice_index seen at)) [
        | inl b ↦ h at i (subst (λ (x : ℕ). x < length slots) e.1 lp) b.1
        | inr b ↦ more i (omega (arith, b.1)) (omega (arith, li, same))
      ])
  | inr e ↦ h p i lp (let same : slice_index (set seen at k) p ≡ slice_index seen p = get_or-set_other seen at p k 0 e.1 in omega (arith, li, same))
]

-- the invariant, where more parts of a variable are known to have ranks
pub walk_seen : (slots : List Slot) (ranks order seen : List ℕ) (at k : ℕ) → IsWalk slots ranks order seen → at < length slots → k ≤ part_count (slot_at slots at) →
    ((i : ℕ) → slice_index seen at ≤ i → i < k → 0 < rank_at ranks (first_part (slot_at slots at) + i)) → IsWalk slots ranks order (set seen at k)
walk_seen slots ranks order seen at k w lt most more =
    let inside : at < length seen = subst (λ (n : ℕ). at < n) (sym w.long) lt in
    record {
      ranked = w.ranked;
      long = length-set seen at k ∙ w.long;
      most = λ p lp. elim (eqb_tells p at) [
        | inl e ↦ subst (λ (x : ℕ). slice_index (set seen at k) x ≤ part_count (slot_at slots x)) (sym e.1) (let same : slice_index (set seen at k) at ≡ k = get_or-set_same seen at k 0 inside in omega (arith, same, most))
        | inr e ↦ (let same : slice_index (set seen at k) p ≡ slice_index seen p = get_or-set_other seen at p k 0 e.1 in let m = w.most p lp in omega (arith, same, m))
      ];
      seen_ranked = seen_more slots ranks seen at k w.seen_ranked inside more;
    }

-- the invariant, where a variable gets a rank
walk_settled : (slots : List Slot) (ranks order seen : List ℕ) (at r : ℕ) → Fits slots → IsWalk slots ranks order seen → at < length slots → rank_at ranks at ≡ 0 → r ≡ length order + 1 →
    ((q : ℕ) → IsPart (slot_at slots at) q → 0 < rank_at ranks q) → IsWalk slots (set ranks at r) (order ++ at ∷ []) seen
walk_settled slots ranks order seen at r fits w lt none is all = record {
  ranked = settled_one slots ranks order at r fits w.ranked lt none is (led_part (λ q. 0 < rank_at ranks q) (slot_at slots at) all);
  long = w.long;
  most = w.most;
  seen_ranked = λ p i lp li. keeps_set ranks at r (subst (λ (n : ℕ). at < n) (sym w.ranked.same_length) lt) (omega (arith, is)) (first_part (slot_at slots p) + i) (w.seen_ranked p i lp li);
}

-- ---- a path that is too long

above : (slots : List Slot) (ranks : List ℕ) (r : ℕ → ℕ) → IsRank slots r → (k q : ℕ) (way : List ℕ) → r k ≤ r q → LedTo slots q way → IsWay slots ranks way → AllByRecursion (λ y. eqb k y ≡ false) way
above slots ranks r rank k q [] le led is = tt
above slots ranks r rank k q (p ∷ way) le led is =
    let low = part_led (Lower (length slots) r (r p)) (slot_at slots p) q (rank.each p is.0) led in
    let less : r k < r p = (let a = low.1 in omega (arith, a, le)) in
    (apart k p less, above slots ranks r rank k p way (omega (arith, less)) is.2 is.3)
  where
    apart : (a b : ℕ) → r a < r b → eqb a b ≡ false
    apart a b h = elim (eqb_tells a b) [
      | inl e ↦ absurd (let g : r b < r b = subst (λ (x : ℕ). r x < r b) e.1 h in omega (arith, g))
      | inr e ↦ e.0
    ]

distinct : (slots : List Slot) (ranks : List ℕ) (r : ℕ → ℕ) → IsRank slots r → (way : List ℕ) → IsWay slots ranks way → IsDistinct eqb way
unfolding IsDistinct
distinct slots ranks r rank [] is = tt
distinct slots ranks r rank (p ∷ way) is = (above slots ranks r rank p p way (omega arith) is.2 is.3, distinct slots ranks r rank way is.3)

below : (slots : List Slot) (ranks way : List ℕ) → IsWay slots ranks way → (q : ℕ) → list_any (eqb q) way ≡ true → q < length slots
below slots ranks [] is q h = cc
below slots ranks (p ∷ way) is q h = elim (eqb_tells q p) [
  | inl e ↦ subst (λ (x : ℕ). x < length slots) (sym e.1) is.0
  | inr e ↦ below slots ranks way is.3 q (subst (λ (b : Bool). (b || list_any (eqb q) way) ≡ true) e.0 h)
]

pub too_long : (slots : List Slot) (ranks way : List ℕ) → Fits slots → IsWay slots ranks way → length slots < length way → (t : Typing) → Meets slots t → ⊥
too_long slots ranks way fits is long t m =
    let h = length-le_from_distinct_below way (length slots) (distinct slots ranks (rank_by slots t) (ranked slots t fits m) way is) (below slots ranks way is) in
    omega (arith, h, long)

-- the ranks that were read of the parts of a variable
pub parts_read : (slots : List Slot) (at first k known : ℕ) (ranks seen read : List ℕ) → read ≡ ranks → first ≡ first_part (slot_at slots at) → known ≡ slice_index seen at →
    ((i : ℕ) → known ≤ i → i < k → 0 < rank_at read (first + i)) → (i : ℕ) → slice_index seen at ≤ i → i < k → 0 < rank_at ranks (first_part (slot_at slots at) + i)
parts_read slots at first k known ranks seen read er ef ek h i a b =
    subst (λ (x : ℕ). 0 < rank_at ranks (x + i)) ef (subst (λ (rs : List ℕ). 0 < rank_at rs (first + i)) er (h i (subst (λ (x : ℕ). x ≤ i) (sym ek) a) b))

pub next_read : (slots : List Slot) (at first k : ℕ) (ranks read : List ℕ) → read ≡ ranks → first ≡ first_part (slot_at slots at) → rank_at read (first + k) ≡ 0 → rank_at ranks (first_part (slot_at slots at) + k) ≡ 0
next_read slots at first k ranks read er ef h = subst (λ (x : ℕ). rank_at ranks (x + k) ≡ 0) ef (subst (λ (rs : List ℕ). rank_at rs (first + k) ≡ 0) er h)

-- ---- steps

walk_is : (slots : List Slot) (r s o p e f : List ℕ) → s ≡ r → p ≡ o → f ≡ e → IsWalk slots r o e → IsWalk slots s p f
walk_is slots r s o p e f a b c w = subst (λ (x : List ℕ). IsWalk slots x p f) (sym a) (subst (λ (x : List ℕ). IsWalk slots r x f) (sym b) (subst (λ (x : List ℕ). IsWalk slots r o x) (sym c) w))

on_way_is : (slots : List Slot) (start : ℕ) (r s v w : List ℕ) → s ≡ r → w ≡ v → IsOnWay slots start r v → IsOnWay slots start s w
on_way_is slots start r s v w a b h = subst (λ (x : List ℕ). IsOnWay slots start x w) (sym a) (subst (λ (x : List ℕ). IsOnWay slots start r x) (sym b) h)

-- the last variable of the path gets a rank
pub goes_settled : (slots : List Slot) (start at k : ℕ) (ranks order seen way : List ℕ) (new : Walk) → Fits slots → IsWalk slots ranks order seen → IsOnWay slots start ranks (at ∷ way) →
    k ≡ part_count (slot_at slots at) → ((i : ℕ) → slice_index seen at ≤ i → i < k → 0 < rank_at ranks (first_part (slot_at slots at) + i)) →
    new.ranks.items ≡ set ranks at (length order + 1) → new.order.items ≡ order ++ at ∷ [] → new.seen.items ≡ set seen at k → reverse new.way.items ≡ way →
    Goes slots start ranks (at ∷ way) new
goes_settled slots start at k ranks order seen way new fits w on all more er eo es ew =
    let lt : at < length slots = on.variables.0 in
    let none : rank_at ranks at ≡ 0 = on.variables.1 in
    let r : ℕ = length order + 1 in
    let pos : 0 < r = omega arith in
    let inside : at < length ranks = subst (λ (n : ℕ). at < n) (sym w.ranked.same_length) lt in
    let known : at < length seen = subst (λ (n : ℕ). at < n) (sym w.long) lt in
    let v : IsWalk slots ranks order (set seen at k) = walk_seen slots ranks order seen at k w lt (omega (arith, all)) more in
    let full : slice_index (set seen at k) at ≡ k = get_or-set_same seen at k 0 known in
    let ranked : (q : ℕ) → IsPart (slot_at slots at) q → 0 < rank_at ranks q = all_ranked slots ranks at (λ i li. v.seen_ranked at i lt (omega (arith, li, full, all))) in
    record {
      walk = walk_is slots (set ranks at r) new.ranks.items (order ++ at ∷ []) new.order.items (set seen at k) new.seen.items er eo es
          (walk_settled slots ranks order (set seen at k) at r fits v lt none refl ranked);
      on_way = on_way_is slots start (set ranks at r) new.ranks.items way (reverse new.way.items) er ew (record {
        variables = way_settled slots ranks at r at way ranked none on.variables.2 on.variables.3;
        begins = begins_settled start ranks at r way inside pos on.begins;
      });
      keeps = subst (λ (x : List ℕ). KeepsRanks ranks x) (sym er) (keeps_set ranks at r inside pos);
      less = subst (λ (x : List ℕ). steps_left (length slots) x (reverse new.way.items) < steps_left (length slots) ranks (at ∷ way)) (sym er)
          (subst (λ (x : List ℕ). steps_left (length slots) (set ranks at r) x < steps_left (length slots) ranks (at ∷ way)) (sym ew)
          (less_ranks (length slots) ranks (set ranks at r) (at ∷ way) way (settled_less ranks at r inside none pos)));
    }

-- the traversal goes on to a part without a rank
pub goes_further : (slots : List Slot) (start at k : ℕ) (ranks order seen way : List ℕ) (new : Walk) → Fits slots → IsWalk slots ranks order seen → IsOnWay slots start ranks (at ∷ way) →
    k < part_count (slot_at slots at) → ((i : ℕ) → slice_index seen at ≤ i → i < k → 0 < rank_at ranks (first_part (slot_at slots at) + i)) →
    rank_at ranks (first_part (slot_at slots at) + k) ≡ 0 → length way < length slots →
    new.ranks.items ≡ ranks → new.order.items ≡ order → new.seen.items ≡ set seen at k → reverse new.way.items ≡ (first_part (slot_at slots at) + k) ∷ at ∷ way →
    Goes slots start ranks (at ∷ way) new
goes_further slots start at k ranks order seen way new fits w on less more none short er eo es ew =
    let lt : at < length slots = on.variables.0 in
    let part : ℕ = first_part (slot_at slots at) + k in
    let inside : part < length slots = (let h = parts_within slots at fits lt in omega (arith, h, less)) in
    record {
      walk = walk_is slots ranks new.ranks.items order new.order.items (set seen at k) new.seen.items er eo es
          (walk_seen slots ranks order seen at k w lt (omega (arith, less)) more);
      on_way = on_way_is slots start ranks new.ranks.items (part ∷ at ∷ way) (reverse new.way.items) er ew (record {
        variables = (inside, none, (omega arith, omega (arith, less)), on.variables);
        begins = on.begins;
      });
      keeps = subst (λ (x : List ℕ). KeepsRanks ranks x) (sym er) (λ p h. h);
      less = subst (λ (x : List ℕ). steps_left (length slots) x (reverse new.way.items) < steps_left (length slots) ranks (at ∷ way)) (sym er)
          (subst (λ (x : List ℕ). steps_left (length slots) ranks x < steps_left (length slots) ranks (at ∷ way)) (sym ew)
          (less_way (length slots) ranks (at ∷ way) (part ∷ at ∷ way) (omega arith) (omega (arith, short))));
    }

-- the path is longer than the number of type variables
pub goes_round : (slots : List Slot) (start at : ℕ) (ranks way : List ℕ) → Fits slots → IsOnWay slots start ranks (at ∷ way) → length slots ≤ length way → (t : Typing) → Meets slots t → ⊥
goes_round slots start at ranks way fits on long = too_long slots ranks (at ∷ way) fits on.variables (omega (arith, long))

-- ---- the whole traversal

pub reverse_push : (xs more : List ℕ) (x : ℕ) → more ≡ xs ++ x ∷ [] → reverse more ≡ x ∷ reverse xs
reverse_push xs more x e = ap reverse e ∙ reverse-append xs (x ∷ [])

-- no variable has a rank yet
pub walk_start : (slots : List Slot) (ranks seen : List ℕ) (n m : ℕ) → ranks ≡ replicate n zero → seen ≡ replicate m zero → length ranks ≡ length slots → length seen ≡ length slots → IsWalk slots ranks [] seen
walk_start slots ranks seen n m er es lr ls =
    let none : (p : ℕ) → slice_index seen p ≡ 0 = λ p. ap (λ (xs : List ℕ). slice_index xs p) es ∙ zeros m p in
    record {
      ranked = none_ranked slots ranks n er lr;
      long = ls;
      most = λ p lt. (let e = none p in omega (arith, e));
      seen_ranked = λ p i lt li. absurd (let e = none p in omega (arith, li, e));
    }

-- the path before the first step
pub way_start : (slots : List Slot) (start : ℕ) (ranks way : List ℕ) → way ≡ start ∷ [] → start < length slots → rank_at ranks start ≡ 0 → IsOnWay slots start ranks way
way_start slots start ranks way e lt none = subst (λ (w : List ℕ). IsOnWay slots start ranks w) (sym e) (record {
  variables = (lt, none, tt, tt);
  begins = refl;
})

pub keeps_then : (a b c : List ℕ) → KeepsRanks a b → KeepsRanks b c → KeepsRanks a c
keeps_then a b c f g p h = g p (f p h)

-- one more variable has a rank
pub ranked_more : (old new : List ℕ) (start : ℕ) → ((p : ℕ) → p < start → 0 < rank_at old p) → KeepsRanks old new → 0 < rank_at new start → (p : ℕ) → p < start + 1 → 0 < rank_at new p
ranked_more old new start all keeps here p lt = elim (eqb_tells p start) [
  | inl e ↦ subst (λ (x : ℕ). 0 < rank_at new x) (sym e.1) here
  | inr e ↦ keeps p (all p (omega (arith, lt, e.1)))
]
