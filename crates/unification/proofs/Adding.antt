-- One more slot at the end.
use Rattle.std.proofs.Common.{◌≡◌, ℕ, ◌+◌, ◌<◌, ◌≤◌, ◌++◌, List, [], ◌∷◌, length, Bool, IsTrue, refl, sym, ap, subst, ◌∙◌, inl, inr, arith}
use Rattle.std.specs.Prelude.{eqb, if◌then◌else◌}
use Rattle.std.proofs.lemmas.Bool.Decides.{eqb_tells}
use Rattle.std.proofs.lemmas.List.{get_or_append_left, length-append}
use Rattle.std.proofs.Math.Seq.{get_or-append_seam}
use Rattle.base.specs.TypeData.{TypeData}
use Rattle.unification.specs.Sorts.{is_of}
use Rattle.unification.specs.Slots.{Typing, value, TermFits, TermWithin, SlotMeets, SlotFits, Meets, Fits, IsOpen, slot_at}
use Rattle.unification.specs.Ranks.{EachIn}
use Rattle.unification.specs.Grown.{SameTo, Grows}
use Rattle.unification.specs.declared.type_variables.slots.Sort.TheVariants.{Any}
use Rattle.unification.specs.declared.type_variables.slots.Term.{Term}
use Rattle.unification.specs.declared.type_variables.slots.Term.TheVariants.{Variable, Closed, Made, Grouped}
use Rattle.unification.specs.declared.type_variables.slots.Slot.{Slot}
use Rattle.unification.specs.declared.type_variables.slots.Slot.TheVariants.{Open, Bound}
use Rattle.unification.proofs.Refill.{value-same}

pub length_more : (slots : List Slot) (s : Slot) → length (slots ++ s ∷ []) ≡ length slots + 1
length_more slots s = length-append slots (s ∷ [])

-- the old slots, and the last one
before : (slots : List Slot) (s : Slot) (p : ℕ) → p < length slots → slot_at (slots ++ s ∷ []) p ≡ slot_at slots p
before slots s p lt = get_or_append_left slots (s ∷ []) (Open Any) p lt

last : (slots : List Slot) (s : Slot) → slot_at (slots ++ s ∷ []) (length slots) ≡ s
last slots s = get_or-append_seam slots s [] (Open Any)

-- a property of each variable holds with one more
each_more : (P : ℕ → Slot → Type 0) (slots : List Slot) (s : Slot) → P (length slots) s → ((p : ℕ) → p < length slots → P p (slot_at slots p)) →
    (p : ℕ) → p < length (slots ++ s ∷ []) → P p (slot_at (slots ++ s ∷ []) p)
each_more P slots s new old p lt = elim (eqb_tells p (length slots)) [
  | inl e ↦ subst (λ (q : ℕ). P q (slot_at (slots ++ s ∷ []) q)) (sym e.1) (subst (λ (x : Slot). P (length slots) x) (sym (last slots s)) new)
  | inr e ↦ (let h : p < length slots = omega (arith, lt, e.1, length_more slots s) in subst (λ (x : Slot). P p x) (sym (before slots s p h)) (old p h))
]

slot_fits-more : (n m p : ℕ) (s : Slot) → n ≤ m → SlotFits n p s → SlotFits m p s
slot_fits-more n m p (Open s) le h = tt
slot_fits-more n m p (Bound (Variable q)) le h = h
slot_fits-more n m p (Bound (Closed of)) le h = tt
slot_fits-more n m p (Bound (Made w q)) le h = omega (arith, le, h)
slot_fits-more n m p (Bound (Grouped g first k)) le h = omega (arith, le, h)

pub fits_more : (slots : List Slot) (s : Slot) → Fits slots → SlotFits (length slots) (length slots) s → Fits (slots ++ s ∷ [])
fits_more slots s fits h = record {
  each = each_more (λ p x. SlotFits (length (slots ++ s ∷ [])) p x) slots s
      (slot_fits-more (length slots) (length (slots ++ s ∷ [])) (length slots) s (omega (arith, length_more slots s)) h)
      (λ p lt. slot_fits-more (length slots) (length (slots ++ s ∷ [])) p (slot_at slots p) (omega (arith, length_more slots s)) (fits.each p lt));
}

pub meets_less : (slots : List Slot) (s : Slot) (t : Typing) → Meets (slots ++ s ∷ []) t → Meets slots t
meets_less slots s t m = record { each = λ p lt. subst (λ (x : Slot). SlotMeets t p x) (before slots s p lt) (m.each p (omega (arith, lt, length_more slots s))) }

pub meets_last : (slots : List Slot) (x : Term) (t : Typing) → Meets (slots ++ Bound x ∷ []) t → t (length slots) ≡ value t x
meets_last slots x t m = let e : t (length slots) ≡ value t x = subst (λ (y : Slot). SlotMeets t (length slots) y) (last slots (Bound x)) (m.each (length slots) (omega (arith, length_more slots (Bound x)))) in e

pub within_each : (n : ℕ) (x : Term) → TermWithin n x → EachIn (λ q. q < n) x
within_each n (Variable q) h = h
within_each n (Closed of) h = tt
within_each n (Made w q) h = h
within_each n (Grouped g first k) h = λ q a b. omega (arith, b, h)

fits_each : (n p : ℕ) (x : Term) → p < n → TermFits n p x → EachIn (λ q. q < n) x
fits_each n p (Variable q) lt h = omega (arith, lt, h)
fits_each n p (Closed of) lt h = tt
fits_each n p (Made w q) lt h = h
fits_each n p (Grouped g first k) lt h = λ q a b. omega (arith, b, h)

-- a typing with another type for one variable
at_variable : Typing → ℕ → TypeData → Typing
at_variable t n a p = (if eqb p n then a else t p)

at_other : (t : Typing) (n : ℕ) (a : TypeData) (p : ℕ) → p < n → at_variable t n a p ≡ t p
unfolding at_variable
at_other t n a p lt = elim (eqb_tells p n) [
  | inl e ↦ absurd (let h : n < n = subst (λ (q : ℕ). q < n) e.1 lt in omega (arith, h))
  | inr e ↦ ap (λ (b : Bool). (if b then a else t p)) e.0
]

at_same : (t : Typing) (n : ℕ) (a : TypeData) → at_variable t n a n ≡ a
unfolding at_variable
at_same t n a = elim (eqb_tells n n) [
  | inl e ↦ ap (λ (b : Bool). (if b then a else t n)) e.0
  | inr e ↦ absurd (e.1 refl)
]

slot_kept : (t u : Typing) (n p : ℕ) (s : Slot) → p < n → SlotFits n p s → SameTo n t u → SlotMeets t p s → SlotMeets u p s
slot_kept t u n p (Open s) lt h same m = subst (λ (a : TypeData). IsTrue (is_of s a)) (sym (same p lt)) m
slot_kept t u n p (Bound x) lt h same m = same p lt ∙ m ∙ value-same (λ q. q < n) t u x (fits_each n p x lt h) (λ q lt'. sym (same q lt'))

last_fits : (n : ℕ) (x : Term) → TermWithin n x → TermFits n n x
last_fits n (Variable q) h = h
last_fits n (Closed of) h = tt
last_fits n (Made w q) h = h
last_fits n (Grouped g first k) h = h

-- a variable with the type of a term
pub added : (slots : List Slot) (x : Term) → Fits slots → TermWithin (length slots) x → Grows slots (λ t. Unit {0}) (slots ++ Bound x ∷ []) (λ t. Unit {0})
added slots x fits within = record {
  fits = fits_more slots (Bound x) fits (last_fits (length slots) x within);
  longer = omega (arith, length_more slots (Bound x));
  opens = each_more (λ p s. IsOpen s → (p < length slots) × IsOpen (slot_at slots p)) slots (Bound x) (λ o. absurd o) (λ p lt o. (lt, o));
  forth = λ t m f.
      let u : Typing = at_variable t (length slots) (value t x) in
      let same : SameTo (length slots) t u = at_other t (length slots) (value t x) in (
        u,
        (
          same,
          record {
            each = each_more (λ p s. SlotMeets u p s) slots (Bound x)
                (at_same t (length slots) (value t x) ∙ value-same (λ q. q < length slots) t u x (within_each (length slots) x within) (λ q lt. sym (same q lt)))
                (λ p lt. slot_kept t u (length slots) p (slot_at slots p) lt (fits.each p lt) same (m.each p lt));
          },
          tt,
        ),
      );
  back = λ t m g. (meets_less slots (Bound x) t m, tt);
}

-- a variable of which nothing is known
pub meets_open : (slots : List Slot) (t : Typing) → Meets slots t → Meets (slots ++ Open Any ∷ []) t
meets_open slots t m = record { each = each_more (λ p s. SlotMeets t p s) slots (Open Any) refl m.each }
