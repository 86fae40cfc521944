-- When a typing meets a constraint, when the heads that it needs are settled, and which nodes are read.
use Rattle.std.specs.Prelude.{◌≡◌, ◌⊎◌, ℕ, zero, suc, ◌+◌, Bool, IsTrue, List, [], ◌∷◌, map, Option, Some, None}
use Rattle.std.specs.Map.{lookup}
use Rattle.std.specs.Option.{option_map}
use Rattle.base.specs.Names.{same_name}
use Rattle.base.specs.TypeData.{TypeData, TypesData, StructType, SharedType, MutableType, TupleType, NoTypes, MoreTypes, types_of}
use Rattle.program.specs.declared.declaration.Struct.{Struct}
use Rattle.program.specs.declared.declaration.TypedName.{TypedName}
use Rattle.program.specs.Same.{same_struct}
use Rattle.program.specs.Types.{Structs}
use Rattle.typing_rules.specs.declared.sort.Reference.TheVariants.{Shared, Mutable}
use Rattle.typing_rules.specs.Sorts.{kind, head, target, behind, part_kind, is_of, made}
use Rattle.typing_rules.specs.Instances.{instance, argument_in, read_type}
use Rattle.typing_rules.specs.Constraint.{Typing, form_type, Constraint, Same, Has, MadeOf, TupleOf, IsOf, Alike, Takes, Returns, FieldOf, TargetOf, Through, Behind, Barred}

-- the context of typing: the structs, and whether types are read as specifications read them
pub record TypeReading : Type 0 where
  pub structs : Structs
  pub is_spec : Bool

-- ---- fields

abbrev pub field_named : List TypedName → List ℕ → Option TypeData
field_named fields name = option_map (λ f. f.annotation) (lookup (same_name name) (map (λ f. (f.name, f)) fields))

abbrev pub field_of : Option Struct → List ℕ → Option TypeData
field_of None name = None
field_of (Some s) name = field_named s.fields name

-- the type of the field of this name in a struct with these type arguments
abbrev pub field_type : TypeReading → TypeData → List ℕ → Option TypeData
field_type w (StructType s ts) name =
    option_map (λ of. instance (argument_in ts) (read_type w.is_spec of)) (field_of (lookup (same_struct s) w.structs) name)
field_type w _ name = None

-- ---- references

-- all of these typings agree on this property of the type of a type variable
abbrev pub Agree : {A : Type 0} → (Typing → Type 0) → (TypeData → A) → ℕ → Type 0
Agree Before look p = (t u : Typing) → Before t → Before u → look (t p) ≡ look (u p)

-- both are references, of either kind, to one type
abbrev pub PointAtOne : TypeData → TypeData → Type 0
PointAtOne a b = (of : TypeData) × (target a ≡ Some of) × (target b ≡ Some of)

-- the first is a mutable reference to a type, and the second a shared reference to it
abbrev pub Lends : TypeData → TypeData → Type 0
Lends a b = (of : TypeData) × (a ≡ MutableType of) × (b ≡ SharedType of)

-- The type of the variable is the required one; or `&mut U` is given where `&U` is required, and the typings of the
-- nodes before agree that it is a mutable reference.
abbrev pub Fits : (Typing → Type 0) → ℕ → TypeData → TypeData → Type 0
Fits Before e of wanted = (of ≡ wanted) ⊎ (Agree Before kind e × Lends of wanted)

-- the same for each part of a tuple, the first of which has the number i
abbrev pub PartsFit : (Typing → Type 0) → ℕ → ℕ → TypesData → TypesData → Type 0
PartsFit Before e i NoTypes NoTypes = Unit {0}
PartsFit Before e i NoTypes (MoreTypes b others) = ⊥
PartsFit Before e i (MoreTypes a rest) NoTypes = ⊥
PartsFit Before e i (MoreTypes a rest) (MoreTypes b others) =
    ((a ≡ b) ⊎ (Agree Before (part_kind i) e × Lends a b)) × PartsFit Before e (i + 1) rest others

-- a returned type fits as a whole or, if it is a tuple, part by part
abbrev pub ReturnFits : (Typing → Type 0) → ℕ → TypeData → TypeData → Type 0
ReturnFits Before e of wanted =
    Fits Before e of wanted
    ⊎ ((ones : TypesData) × (others : TypesData) × (of ≡ TupleType ones) × (wanted ≡ TupleType others) × PartsFit Before e 0 ones others)

-- ---- constraints

-- A typing meets a constraint, at a node where `Before` holds of the typings of the nodes before it.
abbrev pub HoldsAt : TypeReading → (Typing → Type 0) → Typing → Constraint → Type 0
HoldsAt w Before t (Same a b) = t a ≡ t b
HoldsAt w Before t (Has p form) = t p ≡ form_type t form
HoldsAt w Before t (MadeOf p wrap e) = t p ≡ made wrap (t e)
HoldsAt w Before t (TupleOf p parts) = t p ≡ TupleType (types_of (map t parts))
HoldsAt w Before t (IsOf sort p) = IsTrue (is_of sort (t p))
HoldsAt w Before t (Alike a b) = (t a ≡ t b) ⊎ (Agree Before kind a × Agree Before kind b × PointAtOne (t a) (t b))
HoldsAt w Before t (Takes e form) = Fits Before e (t e) (form_type t form)
HoldsAt w Before t (Returns e form) = ReturnFits Before e (t e) (form_type t form)
HoldsAt w Before t (FieldOf p e name) = field_type w (behind (t e)) name ≡ Some (t p)
HoldsAt w Before t (TargetOf p e) = target (t e) ≡ Some (t p)
HoldsAt w Before t (Through e) = kind (t e) ≡ Some Shared → ⊥
HoldsAt w Before t (Behind e) = kind (t e) ≡ Some Mutable
HoldsAt w Before t Barred = ⊥

abbrev pub EachHolds : TypeReading → (Typing → Type 0) → Typing → List Constraint → Type 0
EachHolds w Before t [] = Unit {0}
EachHolds w Before t (d ∷ ds) = HoldsAt w Before t d × EachHolds w Before t ds

-- The head that a constraint needs is settled: all typings of the nodes before agree on it. Where a reference is
-- followed, they need only agree that it is one, and of which kind.
abbrev pub IsSettled : (Typing → Type 0) → Constraint → Type 0
IsSettled Before (FieldOf p e name) = Agree Before head e
IsSettled Before (TargetOf p e) = Agree Before kind e
IsSettled Before (Through e) = Agree Before kind e
IsSettled Before (Behind e) = Agree Before kind e
IsSettled Before _ = Unit {0}

abbrev pub EachSettled : (Typing → Type 0) → List Constraint → Type 0
EachSettled Before [] = Unit {0}
EachSettled Before (d ∷ ds) = IsSettled Before d × EachSettled Before ds

-- ---- nodes

-- the typings of the nodes before and of one more
abbrev pub With : TypeReading → (Typing → Type 0) → List Constraint → Typing → Type 0
With w Before node t = Before t × EachHolds w Before t node

-- A typing of the nodes before and of those from here on that are read: reading stops at the first open head.
abbrev pub IsTypingFrom : TypeReading → (Typing → Type 0) → List (List Constraint) → Typing → Type 0
IsTypingFrom w Before [] t = Before t
IsTypingFrom w Before (node ∷ rest) t =
    Before t × (EachSettled Before node → IsTypingFrom w (With w Before node) rest t)

-- reading stops at an open head
abbrev pub StopsFrom : TypeReading → (Typing → Type 0) → List (List Constraint) → Type 0
StopsFrom w Before [] = ⊥
StopsFrom w Before (node ∷ rest) = EachSettled Before node → StopsFrom w (With w Before node) rest

-- the node with this number is read: no head at it, or before it, is open
abbrev pub IsReadFrom : TypeReading → (Typing → Type 0) → List (List Constraint) → ℕ → Type 0
IsReadFrom w Before [] n = ⊥
IsReadFrom w Before (node ∷ rest) zero = EachSettled Before node
IsReadFrom w Before (node ∷ rest) (suc n) = EachSettled Before node × IsReadFrom w (With w Before node) rest n

abbrev pub AnyTyping : Typing → Type 0
AnyTyping t = Unit {0}

-- a typing of the nodes that are read
abbrev pub IsTyping : TypeReading → List (List Constraint) → Typing → Type 0
IsTyping w nodes = IsTypingFrom w AnyTyping nodes

abbrev pub HasOpenHead : TypeReading → List (List Constraint) → Type 0
HasOpenHead w nodes = StopsFrom w AnyTyping nodes

abbrev pub IsRead : TypeReading → List (List Constraint) → ℕ → Type 0
IsRead w nodes n = IsReadFrom w AnyTyping nodes n
