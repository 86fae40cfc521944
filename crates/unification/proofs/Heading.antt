-- Which heads an open slot leaves, and which head a bound slot has.
use Rattle.std.proofs.Common.{◌≡◌, ℕ, ◌<◌, IsTrue, true, false, List, [], length, None, refl, sym, ap, subst, ◌∙◌}
use Rattle.base.specs.TypeData.{TypeData, BoolType, IntType, NumType, AddressType, SignerType, VectorType, StructType, ParamType, SharedType, MutableType, TupleType, NoTypes}
use Rattle.base.specs.declared.types.Width.TheVariants.{U8}
use Rattle.unification.specs.Sorts.{is_of}
use Rattle.unification.specs.Slots.{Typing, value, Meets, Fits, slot_at}
use Rattle.unification.specs.Agree.{Agree}
use Rattle.unification.specs.Heads.{kind, struct_in, KindOf, KindIs, KindOpen, StructOf, StructIs, StructOpen, kind_left, struct_left}
use Rattle.unification.specs.declared.type_variables.slots.Sort.{Sort}
use Rattle.unification.specs.declared.type_variables.slots.Sort.TheVariants.{Any, Single, Value, Integer}
use Rattle.unification.specs.declared.type_variables.slots.Term.{Term}
use Rattle.unification.specs.declared.type_variables.slots.Slot.{Slot}
use Rattle.unification.specs.declared.type_variables.slots.Slot.TheVariants.{Open, Bound}
use Rattle.unification.specs.declared.type_variables.heads.KindSeen.{KindSeen}
use Rattle.unification.specs.declared.type_variables.heads.KindSeen.TheVariants.{Unsettled, Plain, To}
use Rattle.unification.specs.declared.type_variables.heads.StructSeen.{StructSeen}
use Rattle.unification.specs.declared.type_variables.heads.StructSeen.TheVariants.{Unknown, Other, Known}
use Rattle.unification.proofs.Becoming.{bound_says, open_says}
use Rattle.unification.proofs.Refill.{distinguished}

-- three types of each sort
abbrev pub small : Sort → TypeData
small s = IntType U8

abbrev pub struct_or_small : Sort → TypeData
struct_or_small Any = StructType record { address = 0; «module» = []; name = [] } NoTypes
struct_or_small Single = StructType record { address = 0; «module» = []; name = [] } NoTypes
struct_or_small Value = StructType record { address = 0; «module» = []; name = [] } NoTypes
struct_or_small Integer = IntType U8

abbrev pub reference_or_small : Sort → TypeData
reference_or_small Any = SharedType (IntType U8)
reference_or_small Single = SharedType (IntType U8)
reference_or_small Value = IntType U8
reference_or_small Integer = IntType U8

pub small_is : (s : Sort) → IsTrue (is_of s (small s))
small_is Any = refl
small_is Single = refl
small_is Value = refl
small_is Integer = refl

struct_is : (s : Sort) → IsTrue (is_of s (struct_or_small s))
struct_is Any = refl
struct_is Single = refl
struct_is Value = refl
struct_is Integer = refl

reference_is : (s : Sort) → IsTrue (is_of s (reference_or_small s))
reference_is Any = refl
reference_is Single = refl
reference_is Value = refl
reference_is Integer = refl

kind_differs : (s : Sort) → kind_left s ≡ true → kind (small s) ≡ kind (reference_or_small s) → ⊥
kind_differs Any l e = cc
kind_differs Single l e = cc
kind_differs Value l e = cc
kind_differs Integer l e = cc

struct_differs : (s : Sort) → struct_left s ≡ true → struct_in (small s) ≡ struct_in (struct_or_small s) → ⊥
struct_differs Any l e = cc
struct_differs Single l e = cc
struct_differs Value l e = cc
struct_differs Integer l e = cc

pub kind_open : (slots : List Slot) (p at : ℕ) (s : Sort) → kind_left s ≡ true → Fits slots → slot_at slots at ≡ Open s → ((t : Typing) → Meets slots t → t p ≡ t at) →
    (t : Typing) → Meets slots t → Agree (Meets slots) kind p → ⊥
kind_open slots p at s l fits free same = distinguished kind small reference_or_small small_is reference_is slots p at s fits free same (kind_differs s l)

pub struct_open : (slots : List Slot) (p at : ℕ) (s : Sort) → struct_left s ≡ true → Fits slots → slot_at slots at ≡ Open s → ((t : Typing) → Meets slots t → t p ≡ t at) →
    (t : Typing) → Meets slots t → Agree (Meets slots) struct_in p → ⊥
struct_open slots p at s l fits free same = distinguished struct_in small struct_or_small small_is struct_is slots p at s fits free same (struct_differs s l)

-- what a sort implies for a type
no_kind : (s : Sort) (a : TypeData) → kind_left s ≡ false → IsTrue (is_of s a) → kind a ≡ None
no_kind s BoolType l h = refl
no_kind s (IntType w) l h = refl
no_kind s NumType l h = refl
no_kind s AddressType l h = refl
no_kind s SignerType l h = refl
no_kind s (VectorType a) l h = refl
no_kind s (StructType id as_) l h = refl
no_kind s (ParamType n) l h = refl
no_kind Any (SharedType a) l h = cc
no_kind Single (SharedType a) l h = cc
no_kind Value (SharedType a) l h = cc
no_kind Integer (SharedType a) l h = cc
no_kind Any (MutableType a) l h = cc
no_kind Single (MutableType a) l h = cc
no_kind Value (MutableType a) l h = cc
no_kind Integer (MutableType a) l h = cc
no_kind s (TupleType as_) l h = refl

no_struct : (s : Sort) (a : TypeData) → struct_left s ≡ false → IsTrue (is_of s a) → struct_in a ≡ None
no_struct s BoolType l h = refl
no_struct s (IntType w) l h = refl
no_struct s NumType l h = refl
no_struct s AddressType l h = refl
no_struct s SignerType l h = refl
no_struct s (VectorType a) l h = refl
no_struct Any (StructType id as_) l h = cc
no_struct Single (StructType id as_) l h = cc
no_struct Value (StructType id as_) l h = cc
no_struct Integer (StructType id as_) l h = cc
no_struct s (ParamType n) l h = refl
no_struct s (SharedType a) l h = refl
no_struct s (MutableType a) l h = refl
no_struct s (TupleType as_) l h = refl

sort_at : (slots : List Slot) (p at : ℕ) (s : Sort) → at < length slots → slot_at slots at ≡ Open s → ((t : Typing) → Meets slots t → t p ≡ t at) →
    (t : Typing) → Meets slots t → IsTrue (is_of s (t p))
sort_at slots p at s h free same t m = subst (λ (a : TypeData). IsTrue (is_of s a)) (sym (same t m)) (open_says slots at s t h free m)

pub kind_closed : (slots : List Slot) (p at : ℕ) (s : Sort) → kind_left s ≡ false → at < length slots → slot_at slots at ≡ Open s → ((t : Typing) → Meets slots t → t p ≡ t at) →
    (t : Typing) → Meets slots t → kind (t p) ≡ None
kind_closed slots p at s l h free same t m = no_kind s (t p) l (sort_at slots p at s h free same t m)

pub struct_closed : (slots : List Slot) (p at : ℕ) (s : Sort) → struct_left s ≡ false → at < length slots → slot_at slots at ≡ Open s → ((t : Typing) → Meets slots t → t p ≡ t at) →
    (t : Typing) → Meets slots t → struct_in (t p) ≡ None
struct_closed slots p at s l h free same t m = no_struct s (t p) l (sort_at slots p at s h free same t m)

-- what is known of a type holds of an equal one
kind_of_is : (t : Typing) (a b : TypeData) (k : KindSeen) → b ≡ a → KindIs t a k → KindOf t b k
kind_of_is t a b Unsettled e h = tt
kind_of_is t a b Plain e h = ap kind e ∙ h
kind_of_is t a b (To w x) e h = (e ∙ h.0, ap kind e ∙ h.1)

pub struct_of_is : (t : Typing) (a b : TypeData) (k : StructSeen) → b ≡ a → StructIs t a k → StructOf t b k
struct_of_is t a b Unknown e h = tt
struct_of_is t a b Other e h = ap struct_in e ∙ h
struct_of_is t a b (Known id first count) e h = e ∙ h

-- what a bound slot says of its variable
pub kind_bound : (slots : List Slot) (p at : ℕ) (x : Term) (k : KindSeen) → at < length slots → slot_at slots at ≡ Bound x → ((t : Typing) → Meets slots t → t p ≡ t at) →
    ((t : Typing) → KindIs t (value t x) k) → (t : Typing) → Meets slots t → KindOf t (t p) k
kind_bound slots p at x k h bound same of t m = kind_of_is t (value t x) (t p) k (same t m ∙ bound_says slots at x t h bound m) (of t)

-- a known kind is not open
pub kind_seen_open : (slots : List Slot) (p : ℕ) (t : Typing) (a : TypeData) (k : KindSeen) → KindIs t a k → KindOpen slots p k
kind_seen_open slots p t a Unsettled h = absurd h
kind_seen_open slots p t a Plain h = tt
kind_seen_open slots p t a (To w x) h = tt

pub struct_seen_of : (slots : List Slot) (x : Term) (t : Typing) (a b : TypeData) (k : StructSeen) → b ≡ a → StructIs t a k → StructOf t b k
struct_seen_of slots x t a b k e h = struct_of_is t a b k e h

pub struct_is_open : (slots : List Slot) (x : Term) (a : Typing → TypeData) (k : StructSeen) → ((t : Typing) → Meets slots t → StructIs t (a t) k) → StructOpen slots x k
struct_is_open slots x a Unknown h = λ t m agree. h t m
struct_is_open slots x a Other h = tt
struct_is_open slots x a (Known id first count) h = tt

pub kind_moved : (t : Typing) (a b : TypeData) (k : KindSeen) → a ≡ b → KindIs t a k → KindIs t b k
kind_moved t a b k e h = subst (λ (x : TypeData). KindIs t x k) e h

pub struct_moved : (t : Typing) (a b : TypeData) (k : StructSeen) → a ≡ b → StructIs t a k → StructIs t b k
struct_moved t a b k e h = subst (λ (x : TypeData). StructIs t x k) e h
