-- Constraints over the first so many type variables alone, which return only written types.
use Rattle.std.specs.Prelude.{ℕ, ◌+◌, ◌<◌, ◌≤◌, List, [], ◌∷◌}
use Rattle.typing_rules.specs.Constraint.{TypeForm, Written, Declared, Applied, Constraint, Same, Has, MadeOf, TupleOf, IsOf, Alike, Takes, Returns, FieldOf, TargetOf, Through, Behind, Barred}

abbrev pub FormWithin : ℕ → TypeForm → Type 0
FormWithin n (Written of) = Unit {0}
FormWithin n (Declared of first count) = first + count ≤ n
FormWithin n (Applied s first count) = first + count ≤ n

abbrev pub IsWritten : TypeForm → Type 0
IsWritten (Written of) = Unit {0}
IsWritten (Declared of first count) = ⊥
IsWritten (Applied s first count) = ⊥

abbrev pub VariablesWithin : ℕ → List ℕ → Type 0
VariablesWithin n [] = Unit {0}
VariablesWithin n (p ∷ ps) = (p < n) × VariablesWithin n ps

abbrev pub ConstraintWithin : ℕ → Constraint → Type 0
ConstraintWithin n (Same a b) = (a < n) × (b < n)
ConstraintWithin n (Has p form) = (p < n) × FormWithin n form
ConstraintWithin n (MadeOf p wrap e) = (p < n) × (e < n)
ConstraintWithin n (TupleOf p parts) = (p < n) × VariablesWithin n parts
ConstraintWithin n (IsOf sort p) = p < n
ConstraintWithin n (Alike a b) = (a < n) × (b < n)
ConstraintWithin n (Takes e form) = (e < n) × FormWithin n form
ConstraintWithin n (Returns e form) = (e < n) × IsWritten form
ConstraintWithin n (FieldOf p e name) = (p < n) × (e < n)
ConstraintWithin n (TargetOf p e) = (p < n) × (e < n)
ConstraintWithin n (Through e) = e < n
ConstraintWithin n (Behind e) = e < n
ConstraintWithin n Barred = Unit {0}

abbrev pub AllWithin : ℕ → List Constraint → Type 0
AllWithin n [] = Unit {0}
AllWithin n (d ∷ ds) = ConstraintWithin n d × AllWithin n ds
