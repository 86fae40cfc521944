-- The rules on types and locals. Source: The Move Book, "Integers", "Constants", "Generics", "Abilities", "Global
-- Storage Operators" and "Local Variables and Scopes"; the Move Specification Language reference, "Type System".
use Rattle.typing_rules.specs.Events.{Unassigned, Undropped}
use Rattle.typing_rules.specs.Faults.{BreaksAbility, BreaksAcquires, BreaksNone, BreaksTyping, IsUnsettled}
use Rattle.definite_assignment.specs.Flow.{BreaksLocals}
use Rattle.base.specs.declared.rule.Rule.TheVariants.{NoTyping, Ambiguous, Ability, Acquires, Unassigned as no_value, Undropped as no_drop}
use Rattle.front_end.specs.Bounds.{StopsAt}
use Rattle.front_end.specs.Chain.{FileStage, allows, ◌▷◌}
use Rattle.front_end.specs.Named.{NamedData}

-- each declaration and each clause has a typing: number literals fit, runs of constants return, there is no polymorphic
-- recursion, and declared types are proper
abbrev pub typing_stage : FileStage NamedData NamedData
typing_stage = allows (λ given. BreaksNone (BreaksTyping given.program)) (λ given. StopsAt NoTyping (BreaksTyping given.program))

-- each type that must be determined is
abbrev pub settled_stage : FileStage NamedData NamedData
settled_stage = allows (λ given. BreaksNone (IsUnsettled given.program)) (λ given. StopsAt Ambiguous (IsUnsettled given.program))

-- types have the required abilities
abbrev pub ability_stage : FileStage NamedData NamedData
ability_stage = allows (λ given. BreaksNone (BreaksAbility given.program)) (λ given. StopsAt Ability (BreaksAbility given.program))

-- functions list the structs that they acquire
abbrev pub acquires_stage : FileStage NamedData NamedData
acquires_stage = allows (λ given. BreaksNone (BreaksAcquires given.program)) (λ given. StopsAt Acquires (BreaksAcquires given.program))

-- no local is used where it may have no value
abbrev pub unassigned_stage : FileStage NamedData NamedData
unassigned_stage = allows (λ given. BreaksNone (BreaksLocals given.program Unassigned)) (λ given. StopsAt no_value (BreaksLocals given.program Unassigned))

-- no value is left behind whose type has no drop
abbrev pub undropped_stage : FileStage NamedData NamedData
undropped_stage = allows (λ given. BreaksNone (BreaksLocals given.program Undropped)) (λ given. StopsAt no_drop (BreaksLocals given.program Undropped))

-- The rules on types and locals, each over all declarations before the next.
abbrev pub type_stages : FileStage NamedData NamedData
type_stages = typing_stage ▷ settled_stage ▷ ability_stage ▷ acquires_stage ▷ unassigned_stage ▷ undropped_stage
