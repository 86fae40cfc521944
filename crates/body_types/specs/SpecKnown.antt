-- What is known of a system of specifications that was read.
use Rattle.std.specs.Prelude.{◌≡◌, ℕ, List}
use Rattle.typing_rules.specs.Constraint.{Typing}
use Rattle.typing_rules.specs.Rules.{HasOpenHead}
use Rattle.typing_rules.specs.Answers.{System, Typings}
use Rattle.unification.specs.Knows.{Knows}
use Rattle.unification.specs.declared.type_variables.slots.Slot.{Slot}
use Rattle.type_solver.specs.Walked.{Walked}
use Rattle.unification.specs.Choices.{ChoosesNothing}
use Rattle.type_solver.specs.declared.spec_systems.systems.Walk.{Walk}

-- a system, and the walk that read it
pub record IsWalkOf (s : System) (walk : Walk) : Type 0 where
  pub walked : Walked s walk.slots.items walk.progress
  pub count : s.variables ≡ walk.variables
  pub alone : ChoosesNothing s

-- the slots know its typings
pub record IsKnown (s : System) (slots : List Slot) (variables : ℕ) : Type 0 where
  pub knows : Knows slots s.variables (Typings s)
  pub count : s.variables ≡ variables
  pub alone : ChoosesNothing s

-- no head is open
abbrev pub IsWhole : System → Type 0
IsWhole s = HasOpenHead s.reading s.steps → ⊥

-- a head is open, if there are typings
abbrev pub StopsIfTypable : System → Type 0
StopsIfTypable s = (t : Typing) → Typings s t → HasOpenHead s.reading s.steps
