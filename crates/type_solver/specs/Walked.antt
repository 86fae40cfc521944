-- The result of reading a system.
use Rattle.std.specs.Prelude.{ℕ, ◌<◌, ◌≤◌, List}
use Rattle.typing_rules.specs.Constraint.{Typing}
use Rattle.typing_rules.specs.Rules.{HasOpenHead, IsRead}
use Rattle.typing_rules.specs.Answers.{System, Typings, IsUntypable}
use Rattle.unification.specs.Knows.{Knows}
use Rattle.unification.specs.declared.type_variables.slots.Slot.{Slot}
use Rattle.type_solver.specs.declared.walk.Reading.{Reading}
use Rattle.type_solver.specs.declared.walk.Reading.TheVariants.{Whole, Stopped, Clash}
use Rattle.type_solver.specs.declared.walk.Progress.{Progress}

-- The slots know the typings of the system, and no head is open; or one is, if there are typings; or there are none.
abbrev pub WalkSays : System → List Slot → Reading → Type 0
WalkSays s slots Whole = Knows slots s.variables (Typings s) × (HasOpenHead s.reading s.steps → ⊥)
WalkSays s slots Stopped = Knows slots s.variables (Typings s) × ((t : Typing) → Typings s t → HasOpenHead s.reading s.steps)
WalkSays s slots Clash = IsUntypable s

-- and, if there are typings, exactly the first so many steps are read
pub record Walked (s : System) (slots : List Slot) (progress : Progress) : Type 0 where
  pub says : WalkSays s slots progress.reading
  pub done : (m : ℕ) → m < progress.count → IsRead s.reading s.steps m
  pub left : (t : Typing) → Typings s t → (m : ℕ) → progress.count ≤ m → IsRead s.reading s.steps m → ⊥
