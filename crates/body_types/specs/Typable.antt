-- What is known of code that was read, if it has typings.
use Rattle.std.specs.Prelude.{◌≡◌, ℕ, ◌≤◌, Bool, true, false, List, length, flat_map, Option, Some, None}
use Rattle.program.specs.CodeNodes.{CodeNode}
use Rattle.typing_rules.specs.Rules.{HasOpenHead}
use Rattle.typing_rules.specs.Settings.{u64_type}
use Rattle.typing_rules.specs.Answers.{System, Typings, HasTyping, IsUntypable}
use Rattle.typing_rules.specs.CodeSystems.{dropped_by}
use Rattle.unification.specs.Knows.{Knows}
use Rattle.unification.specs.declared.type_variables.slots.Slot.{Slot}
use Rattle.type_solver.specs.Walked.{Walked}
use Rattle.type_solver.specs.declared.walk.Reading.{Reading}
use Rattle.type_solver.specs.declared.walk.Reading.TheVariants.{Whole, Stopped, Clash}
use Rattle.type_solver.specs.declared.walk.Progress.{Progress}
use Rattle.unification.specs.Choices.{IsSound, HasDefaults}
use Rattle.type_solver.specs.declared.code_systems.systems.Walk.{Walk}
use Rattle.body_types.specs.Judged.{ReadsSteps}
use Rattle.body_types.specs.declared.code.typable.Typable.{Typable}

-- a system of code with these nodes
pub record IsCode (s : System) (nodes : List CodeNode) : Type 0 where
  pub inside : length nodes ≤ s.variables
  pub dropped : s.dropped ≡ flat_map dropped_by nodes

-- a system, and the walk that read it
pub record IsWalkOf (s : System) (walk : Walk) : Type 0 where
  pub walked : Walked s walk.slots.items walk.progress
  pub count : s.variables ≡ walk.variables
  pub integer : s.open_integer ≡ Some u64_type

abbrev pub is_whole : Reading → Bool
is_whole Whole = true
is_whole _ = false

-- whether a head is open, if there are typings
abbrev pub HeadsSay : System → Reading → Type 0
HeadsSay s Whole = HasOpenHead s.reading s.steps → ⊥
HeadsSay s Stopped = HasOpenHead s.reading s.steps
HeadsSay s Clash = ⊥

-- the slots know its typings
pub record IsKnownOf (s : System) (variables : ℕ) (slots : List Slot) (progress : Progress) : Type 0 where
  pub knows : Knows slots s.variables (Typings s)
  pub count : s.variables ≡ variables
  pub integer : s.open_integer ≡ Some u64_type
  pub reads : HasTyping s → ReadsSteps s progress.count
  pub heads : HasTyping s → HeadsSay s progress.reading

-- it has typings
pub record IsTypable (s : System) (known : Typable) : Type 0 where
  pub sound : IsSound known.defaulted
  pub has : HasDefaults s known.defaulted
  pub count : s.variables ≡ known.variables
  pub reads : ReadsSteps s known.progress.count
  pub heads : HeadsSay s known.progress.reading

abbrev pub TypableSays : System → Option Typable → Type 0
TypableSays s None = IsUntypable s
TypableSays s (Some known) = IsTypable s known
