-- The struct that the type of a variable is, or points at.
use Rattle.std.proofs.Common.{◌≡◌, ℕ, ◌<◌, List, length, Option, Some, None, refl, sym, ap, subst, ◌∙◌}
use Rattle.std.specs.Prelude.{slice_index}
use Rattle.base.specs.TypeData.{TypeData, types_of}
use Rattle.base.specs.declared.types.StructId.{StructId}
use Rattle.unification.specs.Slots.{Typing, wrapped, grouped, list_at, Meets, Fits, SlotFits, IsRoot, slot_at}
use Rattle.unification.specs.Ranks.{IsRank, refill_by}
use Rattle.unification.specs.declared.type_variables.slots.Sort.{Sort}
use Rattle.unification.specs.declared.type_variables.slots.Sort.TheVariants.{Any, Single, Value, Integer}
use Rattle.unification.specs.declared.type_variables.slots.Wrap.{Wrap}
use Rattle.unification.specs.declared.type_variables.slots.Wrap.TheVariants.{Vector, Shared, Mutable}
use Rattle.unification.specs.declared.type_variables.slots.Group.{Group}
use Rattle.unification.specs.declared.type_variables.slots.Group.TheVariants.{Struct, Tuple}
use Rattle.unification.specs.declared.type_variables.slots.Term.TheVariants.{Variable, Closed, Made, Grouped}
use Rattle.unification.specs.declared.type_variables.slots.Slot.{Slot}
use Rattle.unification.specs.declared.type_variables.slots.Slot.TheVariants.{Open, Bound}
use Rattle.unification.proofs.Becoming.{bound_says}
use Rattle.unification.proofs.Refill.{refill_by-open}
use Rattle.typing_rules.specs.Sorts.{behind, struct_in}
use Rattle.unification.specs.Roots.{AreRoots}
use Rattle.unification.proofs.Refilling.{plain, plain_typing}
use Rattle.body_types.specs.Owners.{GroupIs, MadeOwner, OwnerSays, SlotIs, SlotOwner}

none_some : {A : Type 0} (x : A) → Some x ≡ None → ⊥
none_some x e = cc

plain_struct : (s : Sort) → struct_in (plain s) ≡ None
plain_struct Any = refl
plain_struct Single = refl
plain_struct Value = refl
plain_struct Integer = refl

plain_owner : (s : Sort) → struct_in (behind (plain s)) ≡ None
plain_owner Any = refl
plain_owner Single = refl
plain_owner Value = refl
plain_owner Integer = refl

wrapped_struct : (w : Wrap) (a : TypeData) → struct_in (wrapped w a) ≡ None
wrapped_struct Vector a = refl
wrapped_struct Shared a = refl
wrapped_struct Mutable a = refl

group_struct : (g : Group) (t : Typing) (first n : ℕ) (found : Option StructId) → GroupIs g found → struct_in (grouped g (types_of (list_at t first n))) ≡ found
group_struct (Struct s) t first n found h = sym h
group_struct Tuple t first n found h = sym h

group_owner : (g : Group) (t : Typing) (first n : ℕ) (found : Option StructId) → GroupIs g found → struct_in (behind (grouped g (types_of (list_at t first n)))) ≡ found
group_owner (Struct s) t first n found h = sym h
group_owner Tuple t first n found h = sym h

-- an open variable has a type that the typing determines, or nothing is claimed of it
abbrev Opens : List Slot → Typing → Option StructId → Type 0
Opens slots t None = (q : ℕ) (s : Sort) → slot_at slots q ≡ Open s → t q ≡ plain s
Opens slots t (Some id) = Unit {0}

open_struct : (slots : List Slot) (t : Typing) (q : ℕ) (s : Sort) (found : Option StructId) → slot_at slots q ≡ Open s → Opens slots t found → found ≡ None → struct_in (t q) ≡ found
open_struct slots t q s None e o h = ap struct_in (o q s e) ∙ plain_struct s
open_struct slots t q s (Some id) e o h = absurd (none_some id h)

open_owner : (slots : List Slot) (t : Typing) (q : ℕ) (s : Sort) (found : Option StructId) → slot_at slots q ≡ Open s → Opens slots t found → found ≡ None → struct_in (behind (t q)) ≡ found
open_owner slots t q s None e o h = ap (λ (a : TypeData). struct_in (behind a)) (o q s e) ∙ plain_owner s
open_owner slots t q s (Some id) e o h = absurd (none_some id h)

-- the struct of a representative
struct_at : (slots : List Slot) (t : Typing) (q : ℕ) (x : Slot) (found : Option StructId) → q < length slots → Meets slots t → Opens slots t found → slot_at slots q ≡ x → IsRoot x → SlotIs x found →
    struct_in (t q) ≡ found
struct_at slots t q (Open s) found lt m o e root h = open_struct slots t q s found e o h
struct_at slots t q (Bound (Variable a)) found lt m o e root h = absurd root
struct_at slots t q (Bound (Closed of)) found lt m o e root h = ap struct_in (bound_says slots q (Closed of) t lt e m) ∙ sym h
struct_at slots t q (Bound (Made w a)) found lt m o e root h = ap struct_in (bound_says slots q (Made w a) t lt e m) ∙ wrapped_struct w (t a) ∙ sym h
struct_at slots t q (Bound (Grouped g first n)) found lt m o e root h = ap struct_in (bound_says slots q (Grouped g first n) t lt e m) ∙ group_struct g t first n found h

made_at : (slots : List Slot) (t : Typing) (r : ℕ) (w : Wrap) (found : Option StructId) → r < length slots → Meets slots t → Opens slots t found → IsRoot (slot_at slots r) →
    MadeOwner (slot_at slots r) w found → struct_in (behind (wrapped w (t r))) ≡ found
made_at slots t r Vector found lt m o root h = sym h
made_at slots t r Shared found lt m o root h = struct_at slots t r (slot_at slots r) found lt m o refl root h
made_at slots t r Mutable found lt m o root h = struct_at slots t r (slot_at slots r) found lt m o refl root h

made_fits : (slots : List Slot) (q a : ℕ) (w : Wrap) → Fits slots → q < length slots → slot_at slots q ≡ Bound (Made w a) → a < length slots
made_fits slots q a w fits lt e = let h : a < length slots = subst (λ (x : Slot). SlotFits (length slots) q x) e (fits.each q lt) in h

owner_of : (slots : List Slot) (roots : List ℕ) (t : Typing) (q : ℕ) (x : Slot) (found : Option StructId) → Fits slots → AreRoots slots roots (length slots) → q < length slots → Meets slots t → Opens slots t found →
    slot_at slots q ≡ x → IsRoot x → SlotOwner slots roots x found → struct_in (behind (t q)) ≡ found
owner_of slots roots t q (Open s) found fits are lt m o e root h = open_owner slots t q s found e o h
owner_of slots roots t q (Bound (Variable a)) found fits are lt m o e root h = absurd root
owner_of slots roots t q (Bound (Closed of)) found fits are lt m o e root h = ap (λ (a : TypeData). struct_in (behind a)) (bound_says slots q (Closed of) t lt e m) ∙ sym h
owner_of slots roots t q (Bound (Made w a)) found fits are lt m o e root h =
    let inside : a < length slots = made_fits slots q a w fits lt e in
    let r = are.each a inside in
    ap (λ (b : TypeData). struct_in (behind b)) (bound_says slots q (Made w a) t lt e m ∙ ap (wrapped w) (r.same t m))
    ∙ made_at slots t (slice_index roots a) w found r.within m o r.is_root h
owner_of slots roots t q (Bound (Grouped g first n)) found fits are lt m o e root h =
    ap (λ (a : TypeData). struct_in (behind a)) (bound_says slots q (Grouped g first n) t lt e m) ∙ group_owner g t first n found h

variable_owner : (slots : List Slot) (roots : List ℕ) (t : Typing) (p : ℕ) (found : Option StructId) → Fits slots → AreRoots slots roots (length slots) → p < length slots → Meets slots t → Opens slots t found →
    SlotOwner slots roots (slot_at slots (slice_index roots p)) found → struct_in (behind (t p)) ≡ found
variable_owner slots roots t p found fits are lt m o h =
    let r = are.each p lt in
    ap (λ (a : TypeData). struct_in (behind a)) (r.same t m)
    ∙ owner_of slots roots t (slice_index roots p) (slot_at slots (slice_index roots p)) found fits are r.within m o refl r.is_root h

pub owner_says : (slots : List Slot) (roots : List ℕ) (p : ℕ) (found : Option StructId) → Fits slots → AreRoots slots roots (length slots) → ((r : ℕ → ℕ) × IsRank slots r) → p < length slots →
    SlotOwner slots roots (slot_at slots (slice_index roots p)) found → OwnerSays slots p found
owner_says slots roots p None fits are ranked lt h =
    let t : Typing = refill_by slots (λ q. plain) ranked.0 in
    let m : Meets slots t = plain_typing slots ranked.0 ranked.1 in
    (t, (m, variable_owner slots roots t p None fits are lt m (λ q s e. refill_by-open slots (λ q. plain) ranked.0 q s e) h))
owner_says slots roots p (Some id) fits are ranked lt h = λ t m. variable_owner slots roots t p (Some id) fits are lt m tt h
