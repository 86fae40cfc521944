-- What is known of the head of a type (The Move Book, "References": the kind; "Structs and Resources": the struct).
use Rattle.std.specs.Prelude.{◌≡◌, ℕ, ◌+◌, ◌≤◌, Bool, true, false, List, Option, Some, None}
use Rattle.base.specs.TypeData.{TypeData, StructType, SharedType, MutableType, types_of}
pub use Rattle.typing_rules.specs.Sorts.{struct_in}
use Rattle.unification.specs.Slots.{Typing, value, wrapped, list_at, Meets, TermWithin}
use Rattle.unification.specs.Agree.{Agree}
use Rattle.unification.specs.declared.type_variables.slots.Sort.{Sort}
use Rattle.unification.specs.declared.type_variables.slots.Sort.TheVariants.{Any, Single, Value, Integer}
use Rattle.unification.specs.declared.type_variables.slots.Wrap.{Wrap}
use Rattle.unification.specs.declared.type_variables.slots.Wrap.TheVariants.{Shared, Mutable}
use Rattle.unification.specs.declared.type_variables.slots.Term.{Term}
use Rattle.unification.specs.declared.type_variables.slots.Slot.{Slot}
use Rattle.unification.specs.declared.type_variables.heads.KindSeen.{KindSeen}
use Rattle.unification.specs.declared.type_variables.heads.KindSeen.TheVariants.{Unsettled, Plain, To}
use Rattle.unification.specs.declared.type_variables.heads.StructSeen.{StructSeen}
use Rattle.unification.specs.declared.type_variables.heads.StructSeen.TheVariants.{Unknown, Other, Known}

-- the kind of a type that is a reference
abbrev pub kind : TypeData → Option Wrap
kind (SharedType t) = Some Shared
kind (MutableType t) = Some Mutable
kind _ = None

-- what is known of the kind of a type is true
abbrev pub KindOf : Typing → TypeData → KindSeen → Type 0
KindOf t a Unsettled = Unit {0}
KindOf t a Plain = kind a ≡ None
KindOf t a (To w x) = (a ≡ wrapped w (value t x)) × (kind a ≡ Some w)

-- what is known of the kind of a type is true, and the kind is known
abbrev pub KindIs : Typing → TypeData → KindSeen → Type 0
KindIs t a Unsettled = ⊥
KindIs t a Plain = kind a ≡ None
KindIs t a (To w x) = (a ≡ wrapped w (value t x)) × (kind a ≡ Some w)

abbrev pub KindWithin : ℕ → KindSeen → Type 0
KindWithin n Unsettled = Unit {0}
KindWithin n Plain = Unit {0}
KindWithin n (To w x) = TermWithin n x

-- if the kind is not known, typings differ in it, if there are any
abbrev pub KindOpen : List Slot → ℕ → KindSeen → Type 0
KindOpen slots p Unsettled = (t : Typing) → Meets slots t → Agree (Meets slots) kind p → ⊥
KindOpen slots p Plain = Unit {0}
KindOpen slots p (To w x) = Unit {0}

-- what is known of the struct of a type is true
abbrev pub StructOf : Typing → TypeData → StructSeen → Type 0
StructOf t a Unknown = Unit {0}
StructOf t a Other = struct_in a ≡ None
StructOf t a (Known id first count) = a ≡ StructType id.now (types_of (list_at t first count))

-- what is known of the struct of a type is true, and the struct is known
abbrev pub StructIs : Typing → TypeData → StructSeen → Type 0
StructIs t a Unknown = ⊥
StructIs t a Other = struct_in a ≡ None
StructIs t a (Known id first count) = a ≡ StructType id.now (types_of (list_at t first count))

abbrev pub StructWithin : ℕ → StructSeen → Type 0
StructWithin n Unknown = Unit {0}
StructWithin n Other = Unit {0}
StructWithin n (Known id first count) = first + count ≤ n

-- if the struct is not known, typings differ in it, if there are any
abbrev pub StructOpen : List Slot → Term → StructSeen → Type 0
StructOpen slots x Unknown = (t : Typing) → Meets slots t → ((u v : Typing) → Meets slots u → Meets slots v → struct_in (value u x) ≡ struct_in (value v x)) → ⊥
StructOpen slots x Other = Unit {0}
StructOpen slots x (Known id first count) = Unit {0}

-- a sort has types of different kinds; types of different structs
abbrev pub kind_left : Sort → Bool
kind_left Any = true
kind_left Single = true
kind_left Value = false
kind_left Integer = false

abbrev pub struct_left : Sort → Bool
struct_left Any = true
struct_left Single = true
struct_left Value = true
struct_left Integer = false
