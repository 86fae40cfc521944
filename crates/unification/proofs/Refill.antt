-- From one typing that meets the slots, others: each open variable may have any type of its sort.
use Rattle.std.proofs.Common.{◌≡◌, ℕ, zero, suc, ◌+◌, ◌*◌, ◌<◌, ◌≤◌, IsTrue, List, ◌∷◌, length, refl, sym, ap, subst, ◌∙◌, inl, inr, arith}
use Rattle.std.proofs.lemmas.Bool.Decides.{eqb_tells}
use Rattle.std.proofs.Math.Nat.{mul-le-mul_right}
use Rattle.base.specs.TypeData.{TypeData, TypesData, types_of, type_size, types_size}
use Rattle.unification.specs.Sorts.{is_of}
use Rattle.unification.specs.Slots.{Typing, value, list_at, wrapped, grouped, SlotFits, SlotMeets, Meets, Fits, slot_at}
use Rattle.unification.specs.Ranks.{EachIn, EachLed, Lower, IsRank, filled, fill, refill_by, rank_by}
use Rattle.unification.specs.Agree.{Agree}
use Rattle.unification.specs.declared.type_variables.slots.Sort.{Sort}
use Rattle.unification.specs.declared.type_variables.slots.Wrap.{Wrap}
use Rattle.unification.specs.declared.type_variables.slots.Wrap.TheVariants.{Vector, Shared, Mutable}
use Rattle.unification.specs.declared.type_variables.slots.Group.{Group}
use Rattle.unification.specs.declared.type_variables.slots.Group.TheVariants.{Struct, Tuple}
use Rattle.unification.specs.declared.type_variables.slots.Term.{Term}
use Rattle.unification.specs.declared.type_variables.slots.Term.TheVariants.{Variable, Closed, Made, Grouped}
use Rattle.unification.specs.declared.type_variables.slots.Slot.{Slot}
use Rattle.unification.specs.declared.type_variables.slots.Slot.TheVariants.{Open, Bound}

pub list_at-same : (f g : Typing) (first count : ℕ) → ((q : ℕ) → first ≤ q → q < first + count → f q ≡ g q) → list_at f first count ≡ list_at g first count
list_at-same f g first zero e = refl
list_at-same f g first (suc count) e =
    λ i. e first (omega arith) (omega arith) i ∷ list_at-same f g (first + 1) count (λ q a b. e q (omega (arith, a)) (omega (arith, b))) i

-- a term has one value in typings that give its variables the same types
pub value-same : (P : ℕ → Type 0) (f g : Typing) (x : Term) → EachIn P x → ((q : ℕ) → P q → f q ≡ g q) → value f x ≡ value g x
value-same P f g (Variable q) h e = e q h
value-same P f g (Closed of) h e = refl
value-same P f g (Made w q) h e = ap (wrapped w) (e q h)
value-same P f g (Grouped c first count) h e = ap (λ (ts : List TypeData). grouped c (types_of ts)) (list_at-same f g first count (λ q a b. e q (h q a b)))

filled-same : (P : ℕ → Type 0) (f g : Typing) (W : Sort → TypeData) (s : Slot) → EachLed P s → ((q : ℕ) → P q → f q ≡ g q) → filled f W s ≡ filled g W s
filled-same P f g W (Open s) h e = refl
filled-same P f g W (Bound x) h e = value-same P f g x h e

-- more steps than the rank give the same
pub fill-enough : (slots : List Slot) (W : ℕ → Sort → TypeData) (r : ℕ → ℕ) → IsRank slots r → (n m p : ℕ) → p < length slots →
    r p < n → r p < m → fill slots W n p ≡ fill slots W m p
fill-enough slots W r rank zero m p h a b = absurd (omega (arith, a))
fill-enough slots W r rank (suc n) zero p h a b = absurd (omega (arith, b))
fill-enough slots W r rank (suc n) (suc m) p h a b =
    filled-same (Lower (length slots) r (r p)) (fill slots W n) (fill slots W m) (W p) (slot_at slots p) (rank.each p h)
    (λ q lower. fill-enough slots W r rank n m q lower.0 (omega (arith, a, lower.1)) (omega (arith, b, lower.1)))

variable_falls : (n : ℕ) (a b : TypeData) (p q : ℕ) → a ≡ b → q < p → type_size b * n + q < type_size a * n + p
variable_falls n a b p q e h = subst (λ (x : TypeData). type_size x * n + q < type_size a * n + p) e (omega (arith, h))

made_falls : (n s k p q : ℕ) → q < n → s ≤ k → s * n + q < (1 + k) * n + p
made_falls n s k p q h le = let g : s * n ≤ k * n = mul-le-mul_right n le in omega (arith, h, g)

part_size : (t : Typing) (first count q : ℕ) → first ≤ q → q < first + count → type_size (t q) ≤ types_size (types_of (list_at t first count))
part_size t first zero q a b = absurd (omega (arith, a, b))
part_size t first (suc count) q a b = elim (eqb_tells q first) [
  | inl e ↦ subst (λ (x : ℕ). type_size (t x) ≤ types_size (types_of (list_at t first (suc count)))) (sym e.1) (omega arith)
  | inr e ↦ (let h = part_size t (first + 1) count q (omega (arith, a, e.1)) (omega (arith, b)) in omega (arith, h))
]

wrapped_size : (w : Wrap) (t : TypeData) → type_size (wrapped w t) ≡ 1 + type_size t
wrapped_size Vector t = refl
wrapped_size Shared t = refl
wrapped_size Mutable t = refl

grouped_size : (g : Group) (ts : TypesData) → type_size (grouped g ts) ≡ 1 + types_size ts
grouped_size (Struct s) ts = refl
grouped_size Tuple ts = refl

-- a part is of a lower rank
part_falls : (n s k p q : ℕ) (whole : TypeData) → q < n → s ≤ k → type_size whole ≡ 1 + k → s * n + q < type_size whole * n + p
part_falls n s k p q whole h le e = subst (λ (x : ℕ). s * n + q < x * n + p) (sym e) (made_falls n s k p q h le)

ranked_slot : (slots : List Slot) (t : Typing) (p : ℕ) (s : Slot) → p < length slots → SlotMeets t p s → SlotFits (length slots) p s →
    EachLed (Lower (length slots) (rank_by slots t) (rank_by slots t p)) s
ranked_slot slots t p (Open s) lt m f = tt
ranked_slot slots t p (Bound (Variable q)) lt m f = (omega (arith, lt, f), variable_falls (length slots) (t p) (t q) p q m f)
ranked_slot slots t p (Bound (Closed of)) lt m f = tt
ranked_slot slots t p (Bound (Made w q)) lt m f =
    (f, part_falls (length slots) (type_size (t q)) (type_size (t q)) p q (t p) f (omega arith) (ap type_size m ∙ wrapped_size w (t q)))
ranked_slot slots t p (Bound (Grouped g first count)) lt m f = λ q a b.
    let inside : q < length slots = omega (arith, b, f) in (
      inside,
      part_falls (length slots) (type_size (t q)) (types_size (types_of (list_at t first count))) p q (t p) inside (part_size t first count q a b)
          (ap type_size m ∙ grouped_size g (types_of (list_at t first count))),
    )

pub ranked : (slots : List Slot) (t : Typing) → Fits slots → Meets slots t → IsRank slots (rank_by slots t)
ranked slots t fits m = record { each = λ p lt. ranked_slot slots t p (slot_at slots p) lt (m.each p lt) (fits.each p lt) }

refill_slot : (slots : List Slot) (W : ℕ → Sort → TypeData) (r : ℕ → ℕ) → IsRank slots r → ((p : ℕ) (s : Sort) → IsTrue (is_of s (W p s))) →
    (p : ℕ) → p < length slots → (s : Slot) → slot_at slots p ≡ s → EachLed (Lower (length slots) r (r p)) s →
    SlotMeets (refill_by slots W r) p s
refill_slot slots W r rank ok p lt (Open s) e h =
    subst (λ (x : Slot). IsTrue (is_of s (filled (fill slots W (r p)) (W p) x))) (sym e) (ok p s)
refill_slot slots W r rank ok p lt (Bound x) e h =
    ap (λ (y : Slot). filled (fill slots W (r p)) (W p) y) e ∙
    value-same (Lower (length slots) r (r p)) (fill slots W (r p)) (refill_by slots W r) x h
    (λ q lower. fill-enough slots W r rank (r p) (suc (r q)) q lower.0 lower.1 (omega arith))

pub refill_by-meets : (slots : List Slot) (W : ℕ → Sort → TypeData) (r : ℕ → ℕ) → IsRank slots r → ((p : ℕ) (s : Sort) → IsTrue (is_of s (W p s))) →
    Meets slots (refill_by slots W r)
refill_by-meets slots W r rank ok = record {
  each = λ p lt.
      refill_slot slots W r rank ok p lt (slot_at slots p) refl (rank.each p lt);
}

pub refill_by-open : (slots : List Slot) (W : ℕ → Sort → TypeData) (r : ℕ → ℕ) (p : ℕ) (s : Sort) → slot_at slots p ≡ Open s →
    refill_by slots W r p ≡ W p s
refill_by-open slots W r p s e = ap (λ (y : Slot). filled (fill slots W (r p)) (W p) y) e

-- typings that fill the open variables in two ways do not agree on a property that distinguishes these
pub distinguished : {A : Type 0} → (look : TypeData → A) (V W : Sort → TypeData) → ((s : Sort) → IsTrue (is_of s (V s))) → ((s : Sort) → IsTrue (is_of s (W s))) →
    (slots : List Slot) (p at : ℕ) (s : Sort) → Fits slots → slot_at slots at ≡ Open s → ((t : Typing) → Meets slots t → t p ≡ t at) →
    (look (V s) ≡ look (W s) → ⊥) → (t : Typing) → Meets slots t → Agree (Meets slots) look p → ⊥
distinguished look V W vs ws slots p at s fits free same differ t m agree =
    let rank : IsRank slots (rank_by slots t) = ranked slots t fits m in
    let u : Typing = refill_by slots (λ q. V) (rank_by slots t) in
    let v : Typing = refill_by slots (λ q. W) (rank_by slots t) in
    let mu : Meets slots u = refill_by-meets slots (λ q. V) (rank_by slots t) rank (λ q. vs) in
    let mv : Meets slots v = refill_by-meets slots (λ q. W) (rank_by slots t) rank (λ q. ws) in
    differ (sym (ap look (same u mu ∙ refill_by-open slots (λ q. V) (rank_by slots t) at s free)) ∙ agree u v mu mv ∙ ap look (same v mv ∙ refill_by-open slots (λ q. W) (rank_by slots t) at s free))
