-- Slots that describe the unifiers of pairs.
use Rattle.std.proofs.Common.{◌≡◌, ℕ, zero, suc, ◌+◌, ◌<◌, ◌≤◌, ◌++◌, true, false, IsTrue, List, [], ◌∷◌, length, take, get_or, refl, sym, ap, subst, ◌∙◌, arith}
use Rattle.base.specs.TypeData.{TypeData, BoolType, IntType, ParamType}
use Rattle.base.specs.declared.types.Width.TheVariants.{U8, U16}
use Rattle.unification.specs.Sorts.{is_of}
use Rattle.unification.specs.Slots.{Typing, Meets, Fits, IsOpen, SlotMeets, slot_at}
use Rattle.unification.specs.Grown.{Grows}
use Rattle.unification.specs.Ranks.{EachLed, Lower, IsRank, refill_by}
use Rattle.unification.specs.declared.type_variables.slots.Sort.{Sort}
use Rattle.unification.specs.declared.type_variables.slots.Sort.TheVariants.{Any, Single, Value, Integer}
use Rattle.unification.specs.declared.type_variables.slots.Slot.{Slot}
use Rattle.unification.specs.declared.type_variables.slots.Slot.TheVariants.{Open, Bound}
use Rattle.unification.proofs.Growing.{instance_kept}
use Rattle.unification.proofs.Becoming.{open_says}
use Rattle.unification.proofs.Refill.{value-same, refill_by-meets, refill_by-open}
use Rattle.unification.specs.declared.pairs.TypePair.{TypePair}
use Rattle.unification.specs.Unifiers.{apply, Joins, Unifies, IsMostGeneral, HasNoUnifier, HasUnifier}
use Rattle.unification.specs.Solved.{Solves, own, unifier}
use Rattle.unification.specs.Ranked.{rank_at}
use Rattle.unification.proofs.Composing.{variable, after, after_unifies, mix, mixed, mixed_unifies}
use Rattle.std.proofs.lemmas.List.{take_more}

unifies_more : (n : ℕ) (t : Typing) (ps : List TypePair) (p : TypePair) → Unifies n t ps → Joins n t p → Unifies n t (ps ++ p ∷ [])
unifies_more n t [] p h g = (g, tt)
unifies_more n t (q ∷ ps) p h g = (h.0, unifies_more n t ps p h.1 g)

unifies_less : (n : ℕ) (t : Typing) (ps : List TypePair) (p : TypePair) → Unifies n t (ps ++ p ∷ []) → Unifies n t ps × Joins n t p
unifies_less n t [] p h = (tt, h.0)
unifies_less n t (q ∷ ps) p h = let r = unifies_less n t ps p h.1 in ((h.0, r.0), r.1)

pub start : (n : ℕ) (slots : List Slot) → length slots ≡ n → Fits slots → ((t : Typing) → Meets slots t) → Solves n [] slots
start n slots len fits meets = record {
  fits = fits;
  longer = omega (arith, len);
  opens = λ p lt o. omega (arith, lt, len);
  forth = λ t h. (t, ((λ p lt. refl), meets t));
  back = λ t m. tt;
}

more : (n : ℕ) (ps : List TypePair) (p : TypePair) (slots new : List Slot) → Solves n ps slots → Grows slots (λ t. Joins n t p) new (λ t. IsTrue true) → Solves n (ps ++ p ∷ []) new
more n ps p slots new s g = record {
  fits = g.fits;
  longer = (let a = s.longer in let b = g.longer in omega (arith, a, b));
  opens = λ q lt o. let r = g.opens q lt o in s.opens q r.0 r.1;
  forth = λ t h. let both = unifies_less n t ps p h in let r = s.forth t both.0 in
      let j : Joins n r.0 p = instance_kept n t r.0 0 n p.left (omega arith) r.1.0 ∙ both.1 ∙ sym (instance_kept n t r.0 0 n p.right (omega arith) r.1.0) in
      let w = g.forth r.0 r.1.1 j in
      (w.0, ((λ q lt. w.1.0 q (let a = s.longer in omega (arith, lt, a)) ∙ r.1.0 q lt), w.1.1));
  back = λ t m. let r = g.back t m refl in unifies_more n t ps p (s.back t r.0) r.1;
}

clashes : (n : ℕ) (ps : List TypePair) (p : TypePair) (slots new : List Slot) → Solves n ps slots → Grows slots (λ t. Joins n t p) new (λ t. IsTrue false) → HasNoUnifier n (ps ++ p ∷ [])
clashes n ps p slots new s g t h = let both = unifies_less n t ps p h in let r = s.forth t both.0 in
    let j : Joins n r.0 p = instance_kept n t r.0 0 n p.left (omega arith) r.1.0 ∙ both.1 ∙ sym (instance_kept n t r.0 0 n p.right (omega arith) r.1.0) in
    let w = g.forth r.0 r.1.1 j in absurd (let e : false ≡ true = w.1.2 in cc)

pub more_at : (n : ℕ) (pairs : List TypePair) (i : ℕ) (p : TypePair) (slots new : List Slot) → i < length pairs → p ≡ get_or pairs i p → Solves n (take i pairs) slots →
    Grows slots (λ t. Joins n t p) new (λ t. IsTrue true) → Solves n (take (i + 1) pairs) new
more_at n pairs i p slots new lt e s g = subst (λ (ps : List TypePair). Solves n ps new) (ap (λ (q : TypePair). take i pairs ++ q ∷ []) e ∙ sym (take_more pairs i p lt)) (more n (take i pairs) p slots new s g)

-- fewer pairs have a unifier where more have one
fewer : (n : ℕ) (t : Typing) (ps : List TypePair) (i j : ℕ) → i ≤ j → Unifies n t (take j ps) → Unifies n t (take i ps)
fewer n t ps zero j le h = tt
fewer n t [] (suc i) j le h = tt
fewer n t (p ∷ ps) (suc i) zero le h = absurd (omega (arith, le))
fewer n t (p ∷ ps) (suc i) (suc j) le h = (h.0, fewer n t ps i j (omega (arith, le)) h.1)

pub clash_at : (n : ℕ) (pairs : List TypePair) (i j : ℕ) (p : TypePair) (slots new : List Slot) → i < length pairs → i + 1 ≤ j → p ≡ get_or pairs i p → Solves n (take i pairs) slots →
    Grows slots (λ t. Joins n t p) new (λ t. IsTrue false) → HasNoUnifier n (take j pairs)
clash_at n pairs i j p slots new lt le e s g t h = clashes n (take i pairs) p slots new s g t
    (subst (λ (ps : List TypePair). Unifies n t ps) (take_more pairs i p lt ∙ ap (λ (q : TypePair). take i pairs ++ q ∷ []) (sym e)) (fewer n t pairs (i + 1) j le h))

-- ---- an open variable is of no integer sort

small_is : (s : Sort) → IsTrue (is_of s (IntType U8))
small_is Any = refl
small_is Single = refl
small_is Value = refl
small_is Integer = refl

wide_is : (s : Sort) → IsTrue (is_of s (IntType U16))
wide_is Any = refl
wide_is Single = refl
wide_is Value = refl
wide_is Integer = refl

no_integer : (a : TypeData) → a ≡ BoolType → IsTrue (is_of Integer a) → ⊥
no_integer a e h = let g : false ≡ true = sym (ap (is_of Integer) e) ∙ h in cc

-- with `u8` and with `u16` for it there would be a unifier with `bool`
no_open_integer : (n : ℕ) (pairs : List TypePair) (slots : List Slot) (r : ℕ → ℕ) → Solves n pairs slots → IsRank slots r → (p : ℕ) → p < length slots → slot_at slots p ≡ Open Integer → ⊥
no_open_integer n pairs slots r solves rank p lt e =
    let inside : p < n = solves.opens p lt (subst (λ (x : Slot). IsOpen x) (sym e) tt) in
    let t : Typing = refill_by slots (λ q s. IntType U8) r in
    let u : Typing = refill_by slots (λ q s. IntType U16) r in
    let g = solves.back t (refill_by-meets slots (λ q s. IntType U8) r rank (λ q. small_is)) in
    let h = solves.back u (refill_by-meets slots (λ q s. IntType U16) r rank (λ q. wide_is)) in
    let w = solves.forth (mixed t u) (mixed_unifies n t u pairs g h) in
    let et : t p ≡ IntType U8 = refill_by-open slots (λ q s. IntType U8) r p Integer e in
    let eu : u p ≡ IntType U16 = refill_by-open slots (λ q s. IntType U16) r p Integer e in
    let is : w.0 p ≡ BoolType = w.1.0 p inside ∙ (λ i. mix (et i) (eu i)) in
    no_integer (w.0 p) is (open_says slots p Integer w.0 lt e w.1.1)

-- ---- the unifier is most general

-- typings that give the open variables the same types are equal
same_slot : (t u : Typing) (P : ℕ → Type 0) (p : ℕ) (x : Slot) → SlotMeets t p x → SlotMeets u p x → EachLed P x → (IsOpen x → t p ≡ u p) → ((q : ℕ) → P q → t q ≡ u q) → t p ≡ u p
same_slot t u P p (Open s) mt mu led free e = free tt
same_slot t u P p (Bound x) mt mu led free e = mt ∙ value-same P t u x led e ∙ sym mu

same_typing : (slots : List Slot) (r : ℕ → ℕ) → IsRank slots r → (t u : Typing) → Meets slots t → Meets slots u → ((p : ℕ) → p < length slots → IsOpen (slot_at slots p) → t p ≡ u p) →
    (k p : ℕ) → p < length slots → r p < k → t p ≡ u p
same_typing slots r rank t u mt mu free zero p lt h = absurd (omega (arith, h))
same_typing slots r rank t u mt mu free (suc k) p lt h =
    same_slot t u (Lower (length slots) r (r p)) p (slot_at slots p) (mt.each p lt) (mu.each p lt) (rank.each p lt) (free p lt)
    (λ q lower. same_typing slots r rank t u mt mu free k q lower.0 (let a = lower.1 in omega (arith, a, h)))

own_is : (p : ℕ) (s : Sort) → IsTrue (is_of s (own p s))
own_is p Any = refl
own_is p Single = refl
own_is p Value = refl
own_is p Integer = refl

own_instance : (n : ℕ) (s : Typing) (p : ℕ) (sort : Sort) → (sort ≡ Integer → ⊥) → p < n → apply n s (own p sort) ≡ s p
own_instance n s p Any free lt = variable n s p lt
own_instance n s p Single free lt = variable n s p lt
own_instance n s p Value free lt = variable n s p lt
own_instance n s p Integer free lt = absurd (free refl)

open_sort : (x : Slot) → IsOpen x → (s : Sort) × (x ≡ Open s)
open_sort (Open s) h = (s, refl)
open_sort (Bound y) h = absurd h

-- the unifier followed by another unifier is the latter
own_after : (n : ℕ) (pairs : List TypePair) (slots : List Slot) (r : ℕ → ℕ) → Solves n pairs slots → IsRank slots r → (s : Typing) (p : ℕ) → p < length slots → IsOpen (slot_at slots p) →
    apply n s (refill_by slots own r p) ≡ s p
own_after n pairs slots r solves rank s p lt o =
    let free = open_sort (slot_at slots p) o in
    ap (apply n s) (refill_by-open slots own r p free.0 free.1)
    ∙ own_instance n s p free.0 (λ e. no_open_integer n pairs slots r solves rank p lt (free.1 ∙ ap (λ (x : Sort). Open x) e)) (solves.opens p lt o)

general : (n : ℕ) (pairs : List TypePair) (slots : List Slot) (r : ℕ → ℕ) → Solves n pairs slots → IsRank slots r → Unifies n (refill_by slots own r) pairs →
    (s : Typing) → Unifies n s pairs → (v : ℕ) → v < n → apply n s (refill_by slots own r v) ≡ s v
general n pairs slots r solves rank is s h v lt =
    let m : Typing = refill_by slots own r in
    let u = solves.forth s h in
    let w = solves.forth (after n s m) (after_unifies n s m pairs is) in
    let same : w.0 v ≡ u.0 v = same_typing slots r rank w.0 u.0 w.1.1 u.1.1
    (λ p lp o. (let inside : p < n = solves.opens p lp o in w.1.0 p inside ∙ own_after n pairs slots r solves rank s p lp o ∙ sym (u.1.0 p inside)))
    (suc (r v)) v (let a = solves.longer in omega (arith, a, lt)) (omega arith) in
    sym (w.1.0 v lt) ∙ same ∙ u.1.0 v lt

pub most_general : (n : ℕ) (pairs : List TypePair) (slots : List Slot) (ranks : List ℕ) → Solves n pairs slots → IsRank slots (rank_at ranks) → IsMostGeneral n (unifier slots ranks) pairs
most_general n pairs slots ranks solves rank =
    let is : Unifies n (unifier slots ranks) pairs = solves.back (unifier slots ranks) (refill_by-meets slots own (rank_at ranks) rank own_is) in
    record {
      unifies = is;
      general = λ s h v lt. general n pairs slots (rank_at ranks) solves rank is s h v lt;
    }

pub has_unifier : (n : ℕ) (pairs : List TypePair) (slots : List Slot) (r : ℕ → ℕ) → Solves n pairs slots → IsRank slots r → HasUnifier n pairs
has_unifier n pairs slots r solves rank = (refill_by slots own r, solves.back (refill_by slots own r) (refill_by-meets slots own r rank own_is))

pub no_unifier : (n : ℕ) (pairs : List TypePair) (slots : List Slot) → Solves n pairs slots → ((t : Typing) → Meets slots t → ⊥) → HasNoUnifier n pairs
no_unifier n pairs slots solves none t h = let r = solves.forth t h in none r.0 r.1.1

pub some_pairs : (n k : ℕ) (pairs : List TypePair) → HasNoUnifier n (take k pairs) → 0 < k
some_pairs n zero pairs none = absurd (none (λ p. ParamType p) tt)
some_pairs n (suc k) pairs none = omega arith
