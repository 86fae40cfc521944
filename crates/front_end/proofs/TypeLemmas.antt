-- The result of typing a program agrees with the stages of its rules.
use Rattle.std.proofs.Common.{refl}
use Rattle.base.specs.declared.span.Span.{Span}
use Rattle.base.specs.declared.rule.Rule.{Rule}
use Rattle.typing_rules.specs.Faults.{BreaksAbility, BreaksNone}
use Rattle.program.specs.Order.{IsFirst}
use Rattle.typing_rules.specs.Events.{Unassigned as without_value}
use Rattle.definite_assignment.specs.Flow.{BreaksLocals}
use Rattle.type_check.specs.Answers.{FaultSays, IsDetermined, IsWellFormed, IsWellTyped}
use Rattle.type_check.specs.declared.typing.TypeFault.{TypeFault}
use Rattle.type_check.specs.declared.typing.TypeFault.TheVariants.{NoTyping, Ambiguous, Ability, Acquires, Unassigned, Undropped, NoMemory}
use Rattle.front_end.specs.Bounds.{StopsAt}
use Rattle.front_end.specs.Chain.{at_first, at_second, ◌▷◌}
use Rattle.front_end.specs.FileFault.{IfInFile, breaks}
use Rattle.front_end.specs.Named.{NamedData}
use Rattle.front_end.specs.TypeFaults.{fault_of}
use Rattle.front_end.specs.Typed.{ability_stage, acquires_stage, settled_stage, type_stages, typing_stage, unassigned_stage}

stops_at : (rule : Rule) (IsSo : Span → Type 0) (span : Span) → IsFirst IsSo span → StopsAt rule IsSo span.file (breaks rule span.start)
stops_at rule IsSo span first = record { span = span; file_is = refl; fault_is = refl; first = first }

-- ---- the results of the first stages

module _ (given : NamedData) where
  abbrev Settles : Type 0
  Settles = (typing_stage ▷ settled_stage).Gives given given

  abbrev FindsAbilities : Type 0
  FindsAbilities = (typing_stage ▷ settled_stage ▷ ability_stage).Gives given given

  abbrev FindsLists : Type 0
  FindsLists = (typing_stage ▷ settled_stage ▷ ability_stage ▷ acquires_stage).Gives given given

  abbrev FindsValues : Type 0
  FindsValues = (typing_stage ▷ settled_stage ▷ ability_stage ▷ acquires_stage ▷ unassigned_stage).Gives given given

  settles : IsDetermined given.program → Settles
  settles d = record { between = given; first = (refl, d.typed); second = (refl, d.settled) }

  finds_abilities : IsDetermined given.program → BreaksNone (BreaksAbility given.program) → FindsAbilities
  finds_abilities d able = record { between = given; first = settles d; second = (refl, able) }

  finds_lists : IsWellTyped given.program → FindsLists
  finds_lists w = record { between = given; first = finds_abilities w.determined w.able; second = (refl, w.listed) }

  finds_values : IsWellTyped given.program → BreaksNone (BreaksLocals given.program without_value) → FindsValues
  finds_values w assigned = record { between = given; first = finds_lists w; second = (refl, assigned) }

  -- ---- the result of all of them, and the stage at which they stop

  pub keeps_all : IsWellFormed given.program → type_stages.Gives given given
  keeps_all w = record { between = given; first = finds_values w.typed w.assigned; second = (refl, w.dropped) }

  pub stops_first : (fault : TypeFault) → FaultSays given.program fault → IfInFile (fault_of fault) (type_stages.Stops given)
  stops_first (NoTyping span) h = at_first (at_first (at_first (at_first (at_first (stops_at _ _ span h)))))
  stops_first (Ambiguous span) h = at_first (at_first (at_first (at_first (at_second given (refl, h.0) (stops_at _ _ span h.1)))))
  stops_first (Ability span) h = at_first (at_first (at_first (at_second given (settles h.0) (stops_at _ _ span h.1))))
  stops_first (Acquires span) h = at_first (at_first (at_second given (finds_abilities h.0 h.1) (stops_at _ _ span h.2)))
  stops_first (Unassigned span) h = at_first (at_second given (finds_lists h.0) (stops_at _ _ span h.1))
  stops_first (Undropped span) h = at_second given (finds_values h.0 h.1) (stops_at _ _ span h.2)
  stops_first NoMemory h = tt
