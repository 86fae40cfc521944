-- What is known of the typings of a system that was read, and the most of its first steps that have typings.
use Rattle.std.specs.Prelude.{◌≡◌, ◌⊎◌, ℕ, suc, ◌<◌, ◌≤◌, List, length, Option, Some, None}
use Rattle.typing_rules.specs.Rules.{IsRead}
use Rattle.typing_rules.specs.Answers.{System, Typings, HasTyping, IsUntypable}
use Rattle.typing_rules.specs.FieldBars.{first_steps}
use Rattle.unification.specs.Knows.{Knows}
use Rattle.unification.specs.declared.type_variables.slots.Slot.{Slot}
use Rattle.unification.specs.Ranked.{IsRanking}
use Rattle.type_solver.specs.Walked.{Walked}
use Rattle.type_solver.specs.declared.code_systems.systems.Walk.{Walk}
use Rattle.body_types.specs.declared.barred_uses.known.Known.{Known}

-- exactly the first so many steps are read
pub record ReadsSteps (s : System) (count : ℕ) : Type 0 where
  pub done : (m : ℕ) → m < count → IsRead s.reading s.steps m
  pub left : (m : ℕ) → count ≤ m → IsRead s.reading s.steps m → ⊥

-- a system, and the walk that read it
pub record IsWalkOf (s : System) (walk : Walk) : Type 0 where
  pub walked : Walked s walk.slots.items walk.progress
  pub count : walk.variables ≡ s.variables

-- the slots know its typings
pub record IsReadOf (s : System) (variables : ℕ) (slots : List Slot) (steps : ℕ) : Type 0 where
  pub knows : Knows slots s.variables (Typings s)
  pub count : variables ≡ s.variables
  pub reads : HasTyping s → ReadsSteps s steps

-- and it has typings
pub record IsKnown (s : System) (known : Known) : Type 0 where
  pub knows : Knows known.slots.items s.variables (Typings s)
  pub count : known.variables ≡ s.variables
  pub ranking : IsRanking known.slots.items known.ranking.ranks.items known.ranking.order.items
  pub exists : HasTyping s
  pub reads : ReadsSteps s known.steps

abbrev pub KnownSays : System → Option Known → Type 0
KnownSays s None = IsUntypable s
KnownSays s (Some known) = IsKnown s known

-- the first so many nodes have typings, and if more have, there are no more steps
pub record IsLast (s : System) (count : ℕ) : Type 0 where
  pub exists : HasTyping (first_steps s (suc count))
  pub last : (c : ℕ) → HasTyping (first_steps s (suc c)) → (c ≤ count) ⊎ (length s.steps ≤ suc count)

-- no first nodes have typings
abbrev pub HasNone : System → Type 0
HasNone s = (c : ℕ) → HasTyping (first_steps s (suc c)) → ⊥
