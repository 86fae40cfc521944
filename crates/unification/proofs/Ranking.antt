-- Ranks that are given, and variables without one.
use Rattle.std.proofs.Common.{◌≡◌, ◌≢◌, ℕ, zero, suc, ◌+◌, ◌<◌, ◌≤◌, List, [], ◌∷◌, length, length-append, replicate, ◌++◌, refl, sym, ap, subst, ◌∙◌, inl, inr, arith, get_or-set_other, get_or-set_same}
use Rattle.std.proofs.lemmas.Bool.Decides.{eqb_tells}
use Rattle.std.proofs.lemmas.List.Sums.{sum_by-set}
use Rattle.std.proofs.lemmas.List.{get_or_push, get_or_append_left}
use Rattle.std.proofs.Math.ListN.{set, length-set}
use Rattle.std.specs.Prelude.{slice_index}
use Rattle.unification.specs.Slots.{Fits, SlotFits, slot_at}
use Rattle.unification.specs.Ranks.{EachIn, EachLed, Lower, IsRank}
use Rattle.unification.specs.declared.type_variables.slots.Term.{Term}
use Rattle.unification.specs.declared.type_variables.slots.Term.TheVariants.{Variable, Closed, Made, Grouped}
use Rattle.unification.specs.declared.type_variables.slots.Slot.{Slot}
use Rattle.unification.specs.declared.type_variables.slots.Slot.TheVariants.{Open, Bound}
use Rattle.unification.specs.Ranked.{rank_at, HasLower, IsRanked, IsRanking, left, unranked}

pub zeros : (n p : ℕ) → rank_at (replicate n zero) p ≡ zero
zeros zero p = refl
zeros (suc n) zero = refl
zeros (suc n) (suc p) = zeros n p

pub none_ranked : (slots : List Slot) (ranks : List ℕ) (n : ℕ) → ranks ≡ replicate n zero → length ranks ≡ length slots → IsRanked slots ranks []
none_ranked slots ranks n e len =
    let zero_at : (p : ℕ) → rank_at ranks p ≡ 0 = λ p. ap (λ (r : List ℕ). rank_at r p) e ∙ zeros n p in
    record {
      same_length = len;
      each = λ p lt h. absurd (let z = zero_at p in omega (arith, z, h));
      most = λ p lt. let z = zero_at p in omega (arith, z);
      listed = λ k lt. absurd (omega (arith, lt));
      placed = λ p k lt e. absurd (let z = zero_at p in omega (arith, z, e));
    }

each_in : (P Q : ℕ → Type 0) (x : Term) → ((q : ℕ) → P q → Q q) → EachIn P x → EachIn Q x
each_in P Q (Variable q) f h = f q h
each_in P Q (Closed of) f h = tt
each_in P Q (Made w q) f h = f q h
each_in P Q (Grouped g first count) f h = λ q a b. f q (h q a b)

pub each_led : (P Q : ℕ → Type 0) (s : Slot) → ((q : ℕ) → P q → Q q) → EachLed P s → EachLed Q s
each_led P Q (Open s) f h = tt
each_led P Q (Bound x) f h = each_in P Q x f h

-- both hold of the variables of a slot
both_in : (P Q : ℕ → Type 0) (x : Term) → EachIn P x → EachIn Q x → EachIn (λ q. P q × Q q) x
both_in P Q (Variable q) h g = (h, g)
both_in P Q (Closed of) h g = tt
both_in P Q (Made w q) h g = (h, g)
both_in P Q (Grouped c first count) h g = λ q a b. (h q a b, g q a b)

both_led : (P Q : ℕ → Type 0) (s : Slot) → EachLed P s → EachLed Q s → EachLed (λ q. P q × Q q) s
both_led P Q (Open s) h g = tt
both_led P Q (Bound x) h g = both_in P Q x h g

-- the variables of a slot that fits exist
fits_in : (n p : ℕ) (s : Slot) → p < n → SlotFits n p s → EachLed (λ q. q < n) s
fits_in n p (Open s) lt h = tt
fits_in n p (Bound (Variable q)) lt h = omega (arith, lt, h)
fits_in n p (Bound (Closed of)) lt h = tt
fits_in n p (Bound (Made w q)) lt h = h
fits_in n p (Bound (Grouped g first k)) lt h = λ q a b. omega (arith, b, h)

pub other : (ranks : List ℕ) (i p r : ℕ) → p ≢ i → rank_at (set ranks i r) p ≡ rank_at ranks p
other ranks i p r ne = get_or-set_other ranks i p r _ ne

pub here : (ranks : List ℕ) (i r : ℕ) → i < length ranks → rank_at (set ranks i r) i ≡ r
here ranks i r h = get_or-set_same ranks i r _ h

-- a variable with a rank keeps it where another gets one
kept_lower : (ranks : List ℕ) (i r k q : ℕ) → rank_at ranks i ≡ 0 → HasLower ranks k q → HasLower (set ranks i r) k q
kept_lower ranks i r k q none h =
    let ne : q ≢ i = λ e. (let z : rank_at ranks q ≡ 0 = ap (rank_at ranks) e ∙ none in absurd (let a = h.1 in omega (arith, z, a))) in
    let same = other ranks i q r ne in
    (subst (λ (n : ℕ). q < n) (sym (length-set ranks i r)) h.0, subst (λ (n : ℕ). 0 < n) (sym same) h.1, subst (λ (n : ℕ). n < k) (sym same) h.2)

pub settled_one : (slots : List Slot) (ranks order : List ℕ) (i r : ℕ) → Fits slots → IsRanked slots ranks order → i < length slots → rank_at ranks i ≡ 0 → r ≡ length order + 1 →
    EachLed (λ q. 0 < rank_at ranks q) (slot_at slots i) → IsRanked slots (set ranks i r) (order ++ i ∷ [])
settled_one slots ranks order i r fits is lt none more links =
    let inside : i < length ranks = subst (λ (n : ℕ). i < n) (sym is.same_length) lt in
    let long : length (order ++ i ∷ []) ≡ length order + 1 = length-append order (i ∷ []) in
    record {
      same_length = length-set ranks i r ∙ is.same_length;
      each = λ p lp h. elim (eqb_tells p i) [
        | inl e ↦ subst (λ (x : ℕ). EachLed (HasLower (set ranks i r) (rank_at (set ranks i r) x)) (slot_at slots x)) (sym e.1)
            (subst (λ (k : ℕ). EachLed (HasLower (set ranks i r) k) (slot_at slots i)) (sym (here ranks i r inside))
            (each_led (λ q. (q < length slots) × (0 < rank_at ranks q)) (HasLower (set ranks i r) r) (slot_at slots i)
            (λ q g. kept_lower ranks i r r q none (subst (λ (n : ℕ). q < n) (sym is.same_length) g.0, g.1, (let m = is.most q g.0 in omega (arith, m, more))))
            (both_led (λ q. q < length slots) (λ q. 0 < rank_at ranks q) (slot_at slots i) (fits_in (length slots) i (slot_at slots i) lt (fits.each i lt)) links)))
        | inr e ↦ (let same = other ranks i p r e.1 in
            subst (λ (k : ℕ). EachLed (HasLower (set ranks i r) k) (slot_at slots p)) (sym same)
            (each_led (HasLower ranks (rank_at ranks p)) (HasLower (set ranks i r) (rank_at ranks p)) (slot_at slots p) (λ q g. kept_lower ranks i r (rank_at ranks p) q none g)
            (is.each p lp (subst (λ (n : ℕ). 0 < n) same h))))
      ];
      most = λ p lp. elim (eqb_tells p i) [
        | inl e ↦ subst (λ (x : ℕ). rank_at (set ranks i r) x ≤ length (order ++ i ∷ [])) (sym e.1) (let m = here ranks i r inside in omega (arith, m, long, more))
        | inr e ↦ (let same = other ranks i p r e.1 in let m = is.most p lp in omega (arith, same, m, long))
      ];
      listed = λ k lk. elim (eqb_tells k (length order)) [
        | inl e ↦ (let at : slice_index (order ++ i ∷ []) k ≡ i = get_or_push order i 0 k (sym e.1) in
            (subst (λ (x : ℕ). x < length slots) (sym at) lt, ap (rank_at (set ranks i r)) at ∙ here ranks i r inside ∙ more ∙ ap (λ (x : ℕ). x + 1) (sym e.1)))
        | inr e ↦ (let less : k < length order = omega (arith, lk, long, e.1) in
            let at : slice_index (order ++ i ∷ []) k ≡ slice_index order k = get_or_append_left order (i ∷ []) 0 k less in
            let old = is.listed k less in
            let ne : slice_index order k ≢ i = λ x. (let z : rank_at ranks (slice_index order k) ≡ 0 = ap (rank_at ranks) x ∙ none in absurd (let o = old.1 in omega (arith, z, o))) in
            (subst (λ (x : ℕ). x < length slots) (sym at) old.0, ap (rank_at (set ranks i r)) at ∙ other ranks i (slice_index order k) r ne ∙ old.1))
      ];
      placed = λ p k lp h. elim (eqb_tells p i) [
        | inl e ↦ (let top : rank_at (set ranks i r) p ≡ r = ap (rank_at (set ranks i r)) e.1 ∙ here ranks i r inside in
            get_or_push order i 0 k (omega (arith, top, h, more)) ∙ sym e.1)
        | inr e ↦ (let old : rank_at ranks p ≡ k + 1 = sym (other ranks i p r e.1) ∙ h in
            get_or_append_left order (i ∷ []) 0 k (let m = is.most p lp in omega (arith, old, m)) ∙ is.placed p k lp old)
      ];
    }

pub settled_less : (ranks : List ℕ) (i r : ℕ) → i < length ranks → rank_at ranks i ≡ 0 → 0 < r → unranked (set ranks i r) + 1 ≤ unranked ranks
settled_less ranks i r lt none pos =
    let e : unranked (set ranks i r) + left (rank_at ranks i) ≡ unranked ranks + left r = sum_by-set left ranks i r 0 lt in
    let a : left (rank_at ranks i) ≡ 1 = ap left none in
    let b : left r ≡ 0 = left_none r pos in
    omega (arith, e, a, b)
  where
    left_none : (n : ℕ) → 0 < n → left n ≡ 0
    left_none zero h = absurd (omega (arith, h))
    left_none (suc n) h = refl

-- if each variable has a rank, the ranks are ranks
is_rank : (slots : List Slot) (ranks order : List ℕ) → IsRanked slots ranks order → ((p : ℕ) → p < length ranks → 0 < rank_at ranks p) → IsRank slots (rank_at ranks)
is_rank slots ranks order is all = record {
  each = λ p lt.
      each_led (HasLower ranks (rank_at ranks p)) (Lower (length slots) (rank_at ranks) (rank_at ranks p)) (slot_at slots p)
      (λ q g. (subst (λ (n : ℕ). q < n) is.same_length g.0, g.2))
      (is.each p lt (all p (subst (λ (n : ℕ). p < n) (sym is.same_length) lt)));
}

pub all_are : (slots : List Slot) (ranks order : List ℕ) → IsRanked slots ranks order → ((p : ℕ) → p < length ranks → 0 < rank_at ranks p) → IsRanking slots ranks order
all_are slots ranks order is all = record {
  ranked = is;
  all = λ p lt. all p (subst (λ (n : ℕ). p < n) (sym is.same_length) lt);
  is_rank = is_rank slots ranks order is all;
}
