-- The meaning of equations for a typing, and their equivalence to constraints.
use Rattle.std.specs.Prelude.{◌≡◌, ◌⊎◌, ℕ, ◌<◌, Bool, true, false, IsTrue, List, [], ◌∷◌, length}
use Rattle.base.specs.TypeData.{TypeData, SharedType, MutableType}
use Rattle.program.specs.Types.{Structs}
use Rattle.typing_rules.specs.Constraint.{Constraint}
use Rattle.typing_rules.specs.Rules.{TypeReading, HoldsAt, IsSettled, Fits as TypeFits}
use Rattle.unification.specs.Sorts.{is_of}
use Rattle.unification.specs.Slots.{Typing, value, Meets, TermWithin}
use Rattle.unification.specs.Grown.{Grows}
use Rattle.unification.specs.Heads.{KindOf, KindWithin, KindOpen}
use Rattle.unification.specs.declared.type_variables.slots.Wrap.{Wrap}
use Rattle.unification.specs.declared.type_variables.slots.Wrap.TheVariants.{Shared}
use Rattle.unification.specs.declared.type_variables.slots.Term.{Term}
use Rattle.unification.specs.declared.type_variables.slots.Slot.{Slot}
use Rattle.unification.specs.declared.type_variables.heads.KindSeen.{KindSeen}
use Rattle.type_solver.specs.declared.emit.Tables.{Tables}
use Rattle.type_solver.specs.declared.equation.Equation.{Equation}
use Rattle.type_solver.specs.declared.equation.Equation.TheVariants.{Always, Never, Unsettled, Equal, Sorted, Lent}

-- code reads types as they are written
abbrev pub code_reading : Structs → TypeReading
code_reading structs = record { structs = structs; is_spec = false }

-- specifications read integers as numbers and references as what they point at
abbrev pub spec_reading : Structs → TypeReading
spec_reading structs = record { structs = structs; is_spec = true }

abbrev pub reading_of : Tables → TypeReading
reading_of tables = record { structs = tables.structs.now; is_spec = tables.is_spec }

-- a typing meets an equation
abbrev pub Solved : Typing → Equation → Type 0
Solved t Always = Unit {0}
Solved t Never = ⊥
Solved t Unsettled = ⊥
Solved t (Equal x y) = value t x ≡ value t y
Solved t (Sorted sort p) = IsTrue (is_of sort (t p))
Solved t (Lent x p) = (MutableType (value t x) ≡ t p) ⊎ (SharedType (value t x) ≡ t p)

abbrev pub EachSolved : Typing → List Equation → Type 0
EachSolved t [] = Unit {0}
EachSolved t (e ∷ es) = Solved t e × EachSolved t es

abbrev pub EquationWithin : ℕ → Equation → Type 0
EquationWithin n Always = Unit {0}
EquationWithin n Never = Unit {0}
EquationWithin n Unsettled = Unit {0}
EquationWithin n (Equal x y) = TermWithin n x × TermWithin n y
EquationWithin n (Sorted sort p) = p < n
EquationWithin n (Lent x p) = TermWithin n x × (p < n)

abbrev pub EquationsWithin : ℕ → List Equation → Type 0
EquationsWithin n [] = Unit {0}
EquationsWithin n (e ∷ es) = EquationWithin n e × EquationsWithin n es

-- slots are extended, with the same typings as far as the old variables go
abbrev pub Keeps : List Slot → List Slot → Type 0
Keeps old new = Grows old (λ t. Unit {0}) new (λ t. Unit {0})

-- what is known of the kind of the type of a variable
pub record KindSaid (old new : List Slot) (p : ℕ) (k : KindSeen) : Type 0 where
  pub grows : Keeps old new
  pub of : (t : Typing) → Meets new t → KindOf t (t p) k
  pub within : KindWithin (length new) k
  pub unseen : KindOpen new p k

-- for the typings that meet the slots, the equation is equivalent to the constraint, whose head is settled
pub record Says (w : TypeReading) (old new : List Slot) (d : Constraint) (e : Equation) : Type 0 where
  pub to : (t : Typing) → Meets new t → HoldsAt w (Meets old) t d → Solved t e
  pub from : (t : Typing) → Meets new t → Solved t e → HoldsAt w (Meets old) t d
  pub settled : IsSettled (Meets old) d
  pub within : EquationWithin (length new) e

-- a head is open, if there are typings
pub record HeadOpen (old : List Slot) (d : Constraint) : Type 0 where
  pub differ : (t : Typing) → Meets old t → IsSettled (Meets old) d → ⊥

-- the equation is equivalent to the constraint; or the head of the constraint is open
abbrev pub Emits : TypeReading → List Slot → List Slot → Constraint → Equation → Type 0
Emits w old new d Always = Says w old new d Always
Emits w old new d Never = Says w old new d Never
Emits w old new d Unsettled = HeadOpen old d
Emits w old new d (Equal x y) = Says w old new d (Equal x y)
Emits w old new d (Sorted sort p) = Says w old new d (Sorted sort p)
Emits w old new d (Lent x p) = Says w old new d (Lent x p)

abbrev pub is_unsettled : Equation → Bool
is_unsettled Unsettled = true
is_unsettled _ = false

-- a term that has this type in each typing that meets the slots
pub record TermSaid (old new : List Slot) (x : Term) (of : Typing → TypeData) : Type 0 where
  pub grows : Keeps old new
  pub within : TermWithin (length new) x
  pub is : (t : Typing) → Meets new t → value t x ≡ of t

-- For the typings that meet the slots, the equation is equivalent to: the variable's type fits the type of a term.
pub record GivenSays (old new : List Slot) (e : ℕ) (wanted : Term) (q : Equation) : Type 0 where
  pub to : (t : Typing) → Meets new t → TypeFits (Meets old) e (t e) (value t wanted) → Solved t q
  pub from : (t : Typing) → Meets new t → Solved t q → TypeFits (Meets old) e (t e) (value t wanted)
  pub within : EquationWithin (length new) q
  pub settled : is_unsettled q ≡ false

-- a write through a reference of this kind: a shared one does not allow it
abbrev pub written_through : Wrap → Equation
written_through Shared = Never
written_through _ = Always
