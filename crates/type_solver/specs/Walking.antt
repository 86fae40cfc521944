-- What is known after some steps of a system.
use Rattle.std.specs.Prelude.{◌≡◌, ℕ, ◌+◌, List, [], ◌∷◌, ◌++◌, length}
use Rattle.typing_rules.specs.Constraint.{Typing, Constraint}
use Rattle.typing_rules.specs.Rules.{TypeReading, EachHolds, EachSettled, With, AnyTyping}
use Rattle.unification.specs.Knows.{Knows}
use Rattle.unification.specs.declared.type_variables.slots.Slot.{Slot}
use Rattle.type_solver.specs.declared.walk.Reading.{Reading}
use Rattle.type_solver.specs.declared.walk.Reading.TheVariants.{Whole, Stopped, Clash}
use Rattle.type_solver.specs.declared.walk.Progress.{Progress}
use Rattle.type_solver.specs.declared.step.Step.{Step}
use Rattle.type_solver.specs.declared.step.Step.TheVariants.{Settled, Open, Clash as TheClash}

-- the typings of those before that meet each of these steps
abbrev pub After : TypeReading → (Typing → Type 0) → List (List Constraint) → Typing → Type 0
After w Before [] = Before
After w Before (step ∷ steps) = After w (With w Before step) steps

-- no head at one of these steps is open
abbrev pub AllSettled : TypeReading → (Typing → Type 0) → List (List Constraint) → Type 0
AllSettled w Before [] = Unit {0}
AllSettled w Before (step ∷ steps) = EachSettled Before step × AllSettled w (With w Before step) steps

-- all steps were read
pub record ReadsAll (w : TypeReading) (n : ℕ) (steps : List (List Constraint)) (slots : List Slot) (count : ℕ) : Type 0 where
  pub counts : count ≡ length steps
  pub settled : AllSettled w AnyTyping steps
  pub knows : Knows slots n (After w AnyTyping steps)

-- reading stopped at a step, one of whose heads is open if there are typings
pub record StopsAt (w : TypeReading) (n : ℕ) (steps : List (List Constraint)) (slots : List Slot) (count : ℕ) : Type 0 where
  pub before : List (List Constraint)
  pub here : List Constraint
  pub after : List (List Constraint)
  pub split : steps ≡ before ++ here ∷ after
  pub counts : count ≡ length before
  pub settled : AllSettled w AnyTyping before
  pub knows : Knows slots n (After w AnyTyping before)
  pub differ : (t : Typing) → After w AnyTyping before t → EachSettled (After w AnyTyping before) here → ⊥

-- no typing meets a step
pub record ClashesAt (w : TypeReading) (steps : List (List Constraint)) (count : ℕ) : Type 0 where
  pub before : List (List Constraint)
  pub here : List Constraint
  pub after : List (List Constraint)
  pub split : steps ≡ before ++ here ∷ after
  pub counts : count ≡ length before + 1
  pub settled : AllSettled w AnyTyping before
  pub heads : EachSettled (After w AnyTyping before) here
  pub none : (t : Typing) → After w AnyTyping before t → EachHolds w (After w AnyTyping before) t here → ⊥

abbrev pub ReadingSays : TypeReading → ℕ → List (List Constraint) → List Slot → ℕ → Reading → Type 0
ReadingSays w n steps slots count Whole = ReadsAll w n steps slots count
ReadingSays w n steps slots count Stopped = StopsAt w n steps slots count
ReadingSays w n steps slots count Clash = ClashesAt w steps count

pub record IsWalk (w : TypeReading) (n : ℕ) (steps : List (List Constraint)) (slots : List Slot) (progress : Progress) : Type 0 where
  pub says : ReadingSays w n steps slots progress.count progress.reading

-- the progress after a step, before which so many were read
abbrev pub IsAfter : Step → ℕ → Progress → Type 0
IsAfter Settled count p = (p.reading ≡ Whole) × (p.count ≡ count + 1)
IsAfter Open count p = (p.reading ≡ Stopped) × (p.count ≡ count)
IsAfter TheClash count p = (p.reading ≡ Clash) × (p.count ≡ count + 1)
