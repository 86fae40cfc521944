-- Typings that show that a type is open, and types that all typings give.
use Rattle.std.proofs.Common.{◌≡◌, ℕ, ◌<◌, IsTrue, List, refl, sym, ◌∙◌}
use Rattle.base.specs.TypeData.{TypeData, BoolType, IntType, TupleType, NoTypes}
use Rattle.base.specs.declared.types.Width.TheVariants.{U8, U16}
use Rattle.unification.specs.Sorts.{is_of}
use Rattle.unification.specs.Slots.{Typing, Meets, slot_at}
use Rattle.unification.specs.Ranks.{IsRank, refill_by}
use Rattle.unification.specs.Knows.{Knows}
use Rattle.unification.specs.declared.type_variables.slots.Sort.{Sort}
use Rattle.unification.specs.declared.type_variables.slots.Sort.TheVariants.{Any, Single, Value, Integer}
use Rattle.unification.specs.declared.type_variables.slots.Slot.{Slot}
use Rattle.unification.specs.declared.type_variables.slots.Slot.TheVariants.{Open}
use Rattle.unification.proofs.Refill.{refill_by-meets, refill_by-open}
use Rattle.typing_rules.specs.Answers.{IsForced}

-- four types of each sort
abbrev pub small : Sort → TypeData
small s = IntType U8

abbrev pub wide : Sort → TypeData
wide s = IntType U16

abbrev pub plain : Sort → TypeData
plain Any = BoolType
plain Single = BoolType
plain Value = BoolType
plain Integer = IntType U8

abbrev pub nothing : Sort → TypeData
nothing Any = TupleType NoTypes
nothing Single = BoolType
nothing Value = BoolType
nothing Integer = IntType U8

pub small_is : (s : Sort) → IsTrue (is_of s (small s))
small_is Any = refl
small_is Single = refl
small_is Value = refl
small_is Integer = refl

pub wide_is : (s : Sort) → IsTrue (is_of s (wide s))
wide_is Any = refl
wide_is Single = refl
wide_is Value = refl
wide_is Integer = refl

plain_is : (s : Sort) → IsTrue (is_of s (plain s))
plain_is Any = refl
plain_is Single = refl
plain_is Value = refl
plain_is Integer = refl

nothing_is : (s : Sort) → IsTrue (is_of s (nothing s))
nothing_is Any = refl
nothing_is Single = refl
nothing_is Value = refl
nothing_is Integer = refl

-- ---- typings that meet the slots

pub plain_typing : (slots : List Slot) (r : ℕ → ℕ) → IsRank slots r → Meets slots (refill_by slots (λ p. plain) r)
plain_typing slots r rank = refill_by-meets slots (λ p. plain) r rank (λ p. plain_is)

pub nothing_typing : (slots : List Slot) (r : ℕ → ℕ) → IsRank slots r → Meets slots (refill_by slots (λ p. nothing) r)
nothing_typing slots r rank = refill_by-meets slots (λ p. nothing) r rank (λ p. nothing_is)

-- ---- what is forced

pub widths_differ : IntType U8 ≡ IntType U16 → ⊥
widths_differ e = cc

pub not_forced : {slots : List Slot} {n : ℕ} {These : Typing → Type 0} → Knows slots n These → (r : ℕ → ℕ) → IsRank slots r → (p at : ℕ) (s : Sort) → slot_at slots at ≡ Open s →
    ((t : Typing) → Meets slots t → t p ≡ t at) → IsForced These p → ⊥
not_forced {slots} k r rank p at s free same forced =
    let u : Typing = refill_by slots (λ q. small) r in
    let v : Typing = refill_by slots (λ q. wide) r in
    let mu : Meets slots u = refill_by-meets slots (λ q. small) r rank (λ q. small_is) in
    let mv : Meets slots v = refill_by-meets slots (λ q. wide) r rank (λ q. wide_is) in
    widths_differ (sym (same u mu ∙ refill_by-open slots (λ q. small) r at s free) ∙ forced u v (k.from u mu) (k.from v mv) ∙ (same v mv ∙ refill_by-open slots (λ q. wide) r at s free))

pub forced_by : {slots : List Slot} {n : ℕ} {These : Typing → Type 0} → Knows slots n These → (p : ℕ) → p < n → ((t u : Typing) → Meets slots t → Meets slots u → t p ≡ u p) → IsForced These p
forced_by k p lt one t u ht hu =
    let v = k.to t ht in
    let w = k.to u hu in
    sym (v.1.0 p lt) ∙ one v.0 w.0 v.1.1 w.1.1 ∙ w.1.0 p lt
