-- How unification of two types leaves equations between their parts.
use Rattle.std.proofs.Common.{[], ◌∷◌, ◌++◌, ◌≡◌, ◌↔◌, ℕ, ◌<◌, Bool, true, false, IsTrue, List, length, refl, sym, subst, ◌∙◌, arith}
use Rattle.std.proofs.Math.ListN.{set}
use Rattle.unification.specs.Slots.{Typing, value, TermFits, SlotMeets, Meets, Fits, Becomes, slot_at, IsMade, HasParts, term_work}
use Rattle.unification.specs.Asks.{Has, EachHas, required_work, Says}
use Rattle.unification.specs.declared.type_variables.slots.Term.{Term}
use Rattle.unification.specs.declared.type_variables.slots.Term.TheVariants.{Variable, Closed, Made, Grouped}
use Rattle.unification.specs.declared.type_variables.slots.Slot.{Slot}
use Rattle.unification.specs.declared.type_variables.slots.Slot.TheVariants.{Bound}
use Rattle.unification.specs.declared.type_variables.slots.Ask.{Ask}
use Rattle.unification.proofs.Becoming.{said, then, written, bound_says}
use Rattle.unification.proofs.Asking.{each_more, each_less, type_size_pos}

-- two written types
pub closed_in : (slots : List Slot) (at : ℕ) (left x : Term) (asks : List Ask) (b : Bool) → Fits slots → at < length slots → slot_at slots at ≡ Bound left →
    ((t : Typing) → IsTrue b ↔ (value t left ≡ value t x)) →
    Becomes slots (λ t. (t at ≡ value t x) × EachHas t asks) slots (λ t. IsTrue b × EachHas t asks)
closed_in slots at left x asks b fits h bound same = said slots _ _ fits
    (λ t m f. ((same t).1 (sym (bound_says slots at left t h bound m) ∙ f.0), f.1))
    (λ t m g. (bound_says slots at left t h bound m ∙ (same t).0 g.0, g.1))

-- the equations between the parts of two types are added
pub joined_in : (slots : List Slot) (at : ℕ) (left x : Term) (asks new : List Ask) (answer : Bool) → Fits slots → at < length slots → slot_at slots at ≡ Bound left →
    Says asks (λ t. value t left ≡ value t x) new answer →
    Becomes slots (λ t. (t at ≡ value t x) × EachHas t asks) slots (λ t. IsTrue answer × EachHas t new)
joined_in slots at left x asks new true fits h bound says = said slots _ _ fits
    (λ t m f. (refl, says.to t f.1 (sym (bound_says slots at left t h bound m) ∙ f.0)))
    (λ t m g. let r = says.from t g.1 in (bound_says slots at left t h bound m ∙ r.1, r.0))
joined_in slots at left x asks new false fits h bound says = said slots _ _ fits
    (λ t m f. absurd (says t (sym (bound_says slots at left t h bound m) ∙ f.0)))
    (λ t m g. absurd (let e : false ≡ true = g.0 in cc))

-- a written type is replaced by one that is made of variables
pub replaced_in : (slots : List Slot) (at : ℕ) (left x : Term) (asks new : List Ask) (answer : Bool) → Fits slots → at < length slots → slot_at slots at ≡ Bound left →
    TermFits (length slots) at x → Says asks (λ t. value t x ≡ value t left) new answer →
    Becomes slots (λ t. (t at ≡ value t x) × EachHas t asks) (set slots at (Bound x)) (λ t. IsTrue answer × EachHas t new)
replaced_in slots at left x asks new true fits h bound ok says = written slots at (Bound x) _ _ fits h ok (λ o. absurd o)
    (λ t m f. (f.0, (refl, says.to t f.1 (sym f.0 ∙ bound_says slots at left t h bound m))))
    (λ t m s g. let r = says.from t g.1 in let e : t at ≡ value t x = s in
    (subst (λ (y : Slot). SlotMeets t at y) (sym bound) (e ∙ r.1), (e, r.0)))
replaced_in slots at left x asks new false fits h bound ok says = written slots at (Bound x) _ _ fits h ok (λ o. absurd o)
    (λ t m f. absurd (says t (sym f.0 ∙ bound_says slots at left t h bound m)))
    (λ t m s g. absurd (let e : false ≡ true = g.0 in cc))

-- a constraint on variables is one on their representatives
pub stood : {b c : List Slot} {G : Typing → Type 0} → (F E H : Typing → Type 0) → Fits b → ((t : Typing) → Meets b t → F t → E t) → ((t : Typing) → Meets b t → E t → F t) →
    Becomes b (λ t. E t × H t) c G → Becomes b (λ t. F t × H t) c G
stood {b} F E H fits to from p = then (said b _ _ fits (λ t m f. (to t m f.0, f.1)) (λ t m e. (from t m e.0, e.1))) p

-- kinds of terms
pub parts_left : (x : Term) → IsMade x → ((of : _) → x ≡ Closed of → ⊥) → HasParts x
parts_left (Variable q) m ne = absurd m
parts_left (Closed of) m ne = absurd (ne of refl)
parts_left (Made w q) m ne = tt
parts_left (Grouped g first n) m ne = tt

pub made_left : (x : Term) → ((q : ℕ) → x ≡ Variable q → ⊥) → IsMade x
made_left (Variable q) ne = absurd (ne q refl)
made_left (Closed of) ne = tt
made_left (Made w q) ne = tt
made_left (Grouped g first n) ne = tt

pub required_made : (x : Term) → IsMade x → required_work x ≡ term_work x
required_made (Variable q) m = absurd m
required_made (Closed of) m = refl
required_made (Made w q) m = refl
required_made (Grouped g first n) m = refl

pub made_work : (x : Term) → IsMade x → 0 < term_work x
made_work (Variable q) m = absurd m
made_work (Closed of) m = type_size_pos of.now
made_work (Made w q) m = omega arith
made_work (Grouped g first n) m = omega arith

-- the last equation is taken
pub taken : (slots : List Slot) (all asks : List Ask) (a : Ask) → Fits slots → all ≡ asks ++ a ∷ [] →
    Becomes slots (λ t. EachHas t all) slots (λ t. Has t a × EachHas t asks)
taken slots all asks a fits e = said slots _ _ fits
    (λ t m h. let r = each_less t asks a (subst (λ (xs : List Ask). EachHas t xs) e h) in (r.1, r.0))
    (λ t m h. subst (λ (xs : List Ask). EachHas t xs) (sym e) (each_more t asks a h.1 h.0))

-- there is no solution, whatever is left
pub refused : (slots new : List Slot) (asks : List Ask) (F : Typing → Type 0) → Becomes slots F new (λ t. IsTrue false × EachHas t asks) → Becomes slots F new (λ t. IsTrue false)
refused slots new asks F b = record {
  fits = b.fits;
  same_length = b.same_length;
  opens = b.opens;
  forth = λ t m f. let r = b.forth t m f in (r.0, r.1.0);
  back = λ t m g. absurd (let h : false ≡ true = g in cc);
}

pub accepted : (slots new : List Slot) (asks : List Ask) (F : Typing → Type 0) → Becomes slots F new (λ t. IsTrue true × EachHas t asks) → Becomes slots F new (λ t. EachHas t asks)
accepted slots new asks F b = record {
  fits = b.fits;
  same_length = b.same_length;
  opens = b.opens;
  forth = λ t m f. let r = b.forth t m f in (r.0, r.1.1);
  back = λ t m g. b.back t m (refl, g);
}
