-- How slots, and a property of a typing, become other slots with the same typings.
use Rattle.std.proofs.Common.{◌+◌, ◌≡◌, ◌≢◌, ℕ, ◌<◌, Bool, true, false, IsTrue, List, length, get_or, refl, sym, ap, subst, ◌∙◌, inl, inr, arith, get_or-set_other, get_or-set_same}
use Rattle.std.proofs.lemmas.Bool.Decides.{eqb_tells}
use Rattle.std.proofs.lemmas.List.{get_or_default}
use Rattle.std.proofs.lemmas.List.Sums.{sum_by-set}
use Rattle.std.proofs.Math.ListN.{set, length-set}
use Rattle.base.specs.TypeData.{TypeData}
use Rattle.unification.specs.Sorts.{is_of}
use Rattle.unification.specs.Slots.{Typing, value, TermFits, TermWithin, SlotMeets, SlotFits, Meets, Fits, Becomes, slot_at, IsMade, IsOpen, IsRoot, slot_work, work}
use Rattle.unification.specs.declared.type_variables.slots.Sort.{Sort}
use Rattle.unification.specs.declared.type_variables.slots.Sort.TheVariants.{Any}
use Rattle.unification.specs.declared.type_variables.slots.Term.{Term}
use Rattle.unification.specs.declared.type_variables.slots.Term.TheVariants.{Variable, Closed, Made, Grouped}
use Rattle.unification.specs.declared.type_variables.slots.Slot.{Slot}
use Rattle.unification.specs.declared.type_variables.slots.Slot.TheVariants.{Open, Bound}

pub then : {a b c : List Slot} {F G H : Typing → Type 0} → Becomes a F b G → Becomes b G c H → Becomes a F c H
then p q = record {
  fits = q.fits;
  same_length = q.same_length ∙ p.same_length;
  opens = λ n lt o. p.opens n (subst (λ (k : ℕ). n < k) q.same_length lt) (q.opens n lt o);
  forth = λ t m f. let r = p.forth t m f in q.forth t r.0 r.1;
  back = λ t m h. let r = q.back t m h in p.back t r.0 r.1;
}

-- the property is stated in another way
pub said : (a : List Slot) (F G : Typing → Type 0) → Fits a →
    ((t : Typing) → Meets a t → F t → G t) → ((t : Typing) → Meets a t → G t → F t) → Becomes a F a G
said a F G fits to from = record {
  fits = fits;
  same_length = refl;
  opens = λ n lt o. o;
  forth = λ t m f. (m, to t m f);
  back = λ t m g. (m, from t m g);
}

-- after a change that leaves the typings the same
pub after : {a b c : List Slot} {F G : Typing → Type 0} → Becomes a (λ t. Unit {0}) b (λ t. Unit {0}) → Becomes b F c G → Becomes a F c G
after p q = record {
  fits = q.fits;
  same_length = q.same_length ∙ p.same_length;
  opens = λ n lt o. p.opens n (subst (λ (k : ℕ). n < k) q.same_length lt) (q.opens n lt o);
  forth = λ t m f. q.forth t (p.forth t m tt).0 f;
  back = λ t m g. let r = q.back t m g in ((p.back t r.0 tt).0, r.1);
}

-- with a further property
pub beside : {a b : List Slot} {F G : Typing → Type 0} → (H : Typing → Type 0) → Becomes a F b G → Becomes a (λ t. F t × H t) b (λ t. G t × H t)
beside H p = record {
  fits = p.fits;
  same_length = p.same_length;
  opens = p.opens;
  forth = λ t m f. let r = p.forth t m f.0 in (r.0, (r.1, f.1));
  back = λ t m g. let r = p.back t m g.0 in (r.0, (r.1, g.1));
}

-- an assignment to a slot leaves the other slots unchanged
pub other : (slots : List Slot) (i p : ℕ) (s : Slot) → p ≢ i → slot_at (set slots i s) p ≡ slot_at slots p
other slots i p s ne = get_or-set_other slots i p s _ ne

pub here : (slots : List Slot) (i : ℕ) (s : Slot) → i < length slots → slot_at (set slots i s) i ≡ s
here slots i s h = get_or-set_same slots i s _ h

-- a property of each slot holds after an assignment if it holds of the assigned slot, and of the others as they were
each_written : (P : ℕ → Slot → Type 0) (slots : List Slot) (i : ℕ) (s : Slot) → i < length slots → P i s →
    ((p : ℕ) → p < length slots → P p (slot_at slots p)) → (p : ℕ) → p < length (set slots i s) → P p (slot_at (set slots i s) p)
each_written P slots i s h new old p lt =
    elim (eqb_tells p i) [
      | inl e ↦ subst (λ (q : ℕ). P q (slot_at (set slots i s) q)) (sym e.1) (subst (λ (x : Slot). P i x) (sym (here slots i s h)) new)
      | inr e ↦ subst (λ (x : Slot). P p x) (sym (other slots i p s e.1)) (old p (subst (λ (n : ℕ). p < n) (length-set slots i s) lt))
    ]

-- and before it if it holds of the old slot
each_before : (P : ℕ → Slot → Type 0) (slots : List Slot) (i : ℕ) (s : Slot) → P i (slot_at slots i) →
    ((p : ℕ) → p < length (set slots i s) → P p (slot_at (set slots i s) p)) → (p : ℕ) → p < length slots → P p (slot_at slots p)
each_before P slots i s old new p lt =
    elim (eqb_tells p i) [
      | inl e ↦ subst (λ (q : ℕ). P q (slot_at slots q)) (sym e.1) old
      | inr e ↦ subst (λ (x : Slot). P p x) (other slots i p s e.1) (new p (subst (λ (n : ℕ). p < n) (sym (length-set slots i s)) lt))
    ]

-- what a typing meets at the assigned variable
at_written : (slots : List Slot) (i : ℕ) (s : Slot) (t : Typing) → i < length slots → Meets (set slots i s) t → SlotMeets t i s
at_written slots i s t h m =
    subst (λ (x : Slot). SlotMeets t i x) (here slots i s h) (m.each i (subst (λ (n : ℕ). i < n) (sym (length-set slots i s)) h))

-- what it meets at another variable
at_other : (slots : List Slot) (i p : ℕ) (s : Slot) (t : Typing) → p < length slots → p ≢ i → Meets (set slots i s) t → SlotMeets t p (slot_at slots p)
at_other slots i p s t h ne m =
    subst (λ (x : Slot). SlotMeets t p x) (other slots i p s ne) (m.each p (subst (λ (n : ℕ). p < n) (sym (length-set slots i s)) h))

fits_written : (slots : List Slot) (i : ℕ) (s : Slot) → Fits slots → i < length slots → SlotFits (length slots) i s → Fits (set slots i s)
fits_written slots i s fits h ok =
    record {
      each = subst (λ (n : ℕ). (p : ℕ) → p < length (set slots i s) → SlotFits n p (slot_at (set slots i s) p)) (sym (length-set slots i s))
          (each_written (λ p x. SlotFits (length slots) p x) slots i s h ok fits.each);
    }

-- one slot is assigned, and says what it said and a part of the property
pub written : (slots : List Slot) (i : ℕ) (s : Slot) (F G : Typing → Type 0) → Fits slots → i < length slots → SlotFits (length slots) i s →
    (IsOpen s → IsOpen (slot_at slots i)) →
    ((t : Typing) → Meets slots t → F t → SlotMeets t i s × G t) →
    ((t : Typing) → Meets (set slots i s) t → SlotMeets t i s → G t → SlotMeets t i (slot_at slots i) × F t) → Becomes slots F (set slots i s) G
written slots i s F G fits h ok opens to from = record {
  fits = fits_written slots i s fits h ok;
  same_length = length-set slots i s;
  opens = each_written (λ p x. IsOpen x → IsOpen (slot_at slots p)) slots i s h opens (λ p lt o. o);
  forth = λ t m f. let r = to t m f in (record { each = each_written (λ p x. SlotMeets t p x) slots i s h r.0 m.each }, r.1);
  back = λ t m g. let r = from t m (at_written slots i s t h m) g in (record { each = each_before (λ p x. SlotMeets t p x) slots i s r.0 m.each }, r.1);
}

-- what a bound slot says, and an open one
pub bound_says : (slots : List Slot) (i : ℕ) (x : Term) (t : Typing) → i < length slots → slot_at slots i ≡ Bound x → Meets slots t → t i ≡ value t x
bound_says slots i x t h e m = let r : t i ≡ value t x = subst (λ (y : Slot). SlotMeets t i y) e (m.each i h) in r

pub open_says : (slots : List Slot) (i : ℕ) (s : Sort) (t : Typing) → i < length slots → slot_at slots i ≡ Open s → Meets slots t → IsTrue (is_of s (t i))
open_says slots i s t h e m = let r : IsTrue (is_of s (t i)) = subst (λ (y : Slot). SlotMeets t i y) e (m.each i h) in r

-- an open slot is bound to a term of its sort
pub put_in : (slots : List Slot) (i : ℕ) (sort : Sort) (x : Term) (b : Bool) → Fits slots → i < length slots → slot_at slots i ≡ Open sort →
    TermFits (length slots) i x → ((t : Typing) → b ≡ is_of sort (value t x)) → b ≡ true →
    Becomes slots (λ t. t i ≡ value t x) (set slots i (Bound x)) (λ t. IsTrue true)
put_in slots i sort x b fits h free ok is e = written slots i (Bound x) _ _ fits h ok (λ o. absurd o)
    (λ t m f. (f, refl))
    (λ t m s g. (subst (λ (y : Slot). SlotMeets t i y) (sym free) (subst (λ (y : TypeData). IsTrue (is_of sort y)) (sym s) (sym (is t) ∙ e)), s))

-- an open slot is to be bound to a term that is not of its sort
pub put_out : (slots : List Slot) (i : ℕ) (sort : Sort) (x : Term) (b : Bool) → Fits slots → i < length slots → slot_at slots i ≡ Open sort →
    ((t : Typing) → b ≡ is_of sort (value t x)) → b ≡ false →
    Becomes slots (λ t. t i ≡ value t x) slots (λ t. IsTrue false)
put_out slots i sort x b fits h free is e = said slots _ _ fits
    (λ t m f. sym e ∙ is t ∙ (let r : IsTrue (is_of sort (value t x)) = subst (λ (y : TypeData). IsTrue (is_of sort y)) f (open_says slots i sort t h free m) in r))
    (λ t m g. cc)

-- an open slot is restricted to one more sort
pub narrow_in : (slots : List Slot) (i : ℕ) (old sort new : Sort) → Fits slots → i < length slots → slot_at slots i ≡ Open old →
    ((t : TypeData) → IsTrue (is_of new t) → IsTrue (is_of old t) × IsTrue (is_of sort t)) →
    ((t : TypeData) → IsTrue (is_of old t) → IsTrue (is_of sort t) → IsTrue (is_of new t)) →
    Becomes slots (λ t. IsTrue (is_of sort (t i))) (set slots i (Open new)) (λ t. IsTrue true)
narrow_in slots i old sort new fits h free both only = written slots i (Open new) _ _ fits h tt
    (λ o. subst (λ (y : Slot). IsOpen y) (sym free) tt)
    (λ t m f. (only (t i) (open_says slots i old t h free m) f, refl))
    (λ t m s g. let r = both (t i) s in (subst (λ (y : Slot). SlotMeets t i y) (sym free) r.0, r.1))

-- a bound slot is of a sort or not
pub narrow_bound : (slots : List Slot) (i : ℕ) (sort : Sort) (x : Term) (b : Bool) → Fits slots → i < length slots → slot_at slots i ≡ Bound x →
    ((t : Typing) → b ≡ is_of sort (value t x)) → Becomes slots (λ t. IsTrue (is_of sort (t i))) slots (λ t. IsTrue b)
narrow_bound slots i sort x b fits h bound is = said slots _ _ fits
    (λ t m f. is t ∙ subst (λ (y : TypeData). IsTrue (is_of sort y)) (bound_says slots i x t h bound m) f)
    (λ t m g. subst (λ (y : TypeData). IsTrue (is_of sort y)) (sym (bound_says slots i x t h bound m)) (sym (is t) ∙ g))

-- an open slot is linked to a lower one, which is then restricted to its sort
pub link_in : (slots : List Slot) (low high : ℕ) (sort : Sort) → Fits slots → low < high → high < length slots → slot_at slots high ≡ Open sort →
    Becomes slots (λ t. t low ≡ t high) (set slots high (Bound (Variable low))) (λ t. IsTrue (is_of sort (t low)))
link_in slots low high sort fits below h free = written slots high (Bound (Variable low)) _ _ fits h below (λ o. absurd o)
    (λ t m f. (sym f, subst (λ (y : TypeData). IsTrue (is_of sort y)) (sym f) (open_says slots high sort t h free m)))
    (λ t m s g. (subst (λ (y : Slot). SlotMeets t high y) (sym free) (subst (λ (y : TypeData). IsTrue (is_of sort y)) (sym s) g), sym s))

-- a bound slot is linked to a lower one, which is then to have its term
pub bound_in : (slots : List Slot) (low high : ℕ) (x : Term) → Fits slots → low < high → high < length slots → slot_at slots high ≡ Bound x →
    Becomes slots (λ t. t low ≡ t high) (set slots high (Bound (Variable low))) (λ t. t low ≡ value t x)
bound_in slots low high x fits below h bound = written slots high (Bound (Variable low)) _ _ fits h below (λ o. absurd o)
    (λ t m f. (sym f, f ∙ bound_says slots high x t h bound m))
    (λ t m s g. (subst (λ (y : Slot). SlotMeets t high y) (sym bound) (let e : t high ≡ t low = s in e ∙ g), sym s))

-- an assignment leaves another representative a representative
pub root_kept : (slots : List Slot) (i p : ℕ) (s : Slot) → p < i → IsRoot (slot_at slots p) → IsRoot (slot_at (set slots i s) p)
root_kept slots i p s lt r = subst (λ (y : Slot). IsRoot y) (sym (other slots i p s (λ e. absurd (omega (arith, e))))) r

-- what reading a slot gives
pub slot_read : (slots : List Slot) (i : ℕ) (x : Slot) → i < length slots → x ≡ get_or slots i x → slot_at slots i ≡ x
slot_read slots i x h e = sym (e ∙ get_or_default slots i x (Open Any) h)

-- the work after an assignment
pub work-set : (slots : List Slot) (i : ℕ) (s : Slot) → i < length slots → work (set slots i s) + slot_work (slot_at slots i) ≡ work slots + slot_work s
work-set slots i s h = sum_by-set slot_work slots i s (Open Any) h

pub work_written : (slots : List Slot) (i : ℕ) (old new : Slot) → i < length slots → slot_at slots i ≡ old → work (set slots i new) + slot_work old ≡ work slots + slot_work new
work_written slots i old new h e = subst (λ (x : Slot). work (set slots i new) + slot_work x ≡ work slots + slot_work new) e (work-set slots i new h)

-- a variable refers to a smaller one
pub bound_falls : (slots : List Slot) (p next : ℕ) → Fits slots → p < length slots → slot_at slots p ≡ Bound (Variable next) → next < p
bound_falls slots p next fits h e = let f : next < p = subst (λ (y : Slot). SlotFits (length slots) p y) e (fits.each p h) in f

-- a variable is linked past the next one
pub halved : (slots : List Slot) (at next after : ℕ) → Fits slots → at < length slots → slot_at slots at ≡ Bound (Variable next) → slot_at slots next ≡ Bound (Variable after) →
    Becomes slots (λ t. Unit {0}) (set slots at (Bound (Variable after))) (λ t. Unit {0})
halved slots at next after fits h first second =
    let lt : next < at = bound_falls slots at next fits h first in
    let inside : next < length slots = omega (arith, lt, h) in
    let lower : after < next = bound_falls slots next after fits inside second in
    written slots at (Bound (Variable after)) _ _ fits h (omega (arith, lt, lower)) (λ o. absurd o)
    (λ t m f. (bound_says slots at (Variable next) t h first m ∙ bound_says slots next (Variable after) t inside second m, tt))
    (λ t m s g. let kept : t next ≡ t after = subst (λ (y : Slot). SlotMeets t next y) second (at_other slots at next (Bound (Variable after)) t inside (λ e. absurd (omega (arith, e, lt))) m) in
    let e : t at ≡ t after = s in
    (subst (λ (y : Slot). SlotMeets t at y) (sym first) (e ∙ sym kept), tt))

pub halved_same : (slots : List Slot) (at after : ℕ) (t : Typing) → at < length slots → Meets (set slots at (Bound (Variable after))) t → t at ≡ t after
halved_same slots at after t h m = let e : t at ≡ t after = at_written slots at (Bound (Variable after)) t h m in e

pub halved_stays : (slots : List Slot) (at next : ℕ) (s : Slot) → slot_at slots at ≡ Bound (Variable next) → (p : ℕ) → IsRoot (slot_at slots p) → slot_at (set slots at s) p ≡ slot_at slots p
halved_stays slots at next s bound p root = other slots at p s
    (λ e. absurd (let r : IsRoot (Bound (Variable next)) = subst (λ (y : Slot). IsRoot y) (ap (slot_at slots) e ∙ bound) root in r))

-- the variables of a term that is no variable
pub made_within : (n p : ℕ) (x : Term) → IsMade x → TermFits n p x → TermWithin n x
made_within n p (Variable q) m h = absurd m
made_within n p (Closed of) m h = tt
made_within n p (Made w q) m h = h
made_within n p (Grouped g first k) m h = h

pub within_fits : (n p : ℕ) (x : Term) → IsMade x → TermWithin n x → TermFits n p x
within_fits n p (Variable q) m h = absurd m
within_fits n p (Closed of) m h = tt
within_fits n p (Made w q) m h = h
within_fits n p (Grouped g first k) m h = h

pub bound_fits : (slots : List Slot) (at : ℕ) (x : Term) → Fits slots → at < length slots → slot_at slots at ≡ Bound x → TermFits (length slots) at x
bound_fits slots at x fits h e = let f : TermFits (length slots) at x = subst (λ (y : Slot). SlotFits (length slots) at y) e (fits.each at h) in f

pub bound_within : (slots : List Slot) (at : ℕ) (x : Term) → Fits slots → at < length slots → slot_at slots at ≡ Bound x → IsMade x → TermWithin (length slots) x
bound_within slots at x fits h e made = made_within (length slots) at x made (bound_fits slots at x fits h e)

pub root_made : (slots : List Slot) (at : ℕ) (x : Term) → slot_at slots at ≡ Bound x → IsRoot (slot_at slots at) → IsMade x
root_made slots at x e r = let m : IsMade x = subst (λ (y : Slot). IsRoot y) e r in m
