-- The result of typing a whole program: the first rule that is broken, each over all declarations before the next, and
-- the first span.
use Rattle.program.specs.declared.program.Program.{Program}
use Rattle.program.specs.Order.{IsFirst}
use Rattle.typing_rules.specs.Events.{Unassigned, Undropped}
use Rattle.typing_rules.specs.Faults.{BreaksNone, BreaksTyping, IsUnsettled, BreaksAbility, BreaksAcquires}
use Rattle.definite_assignment.specs.Flow.{BreaksLocals}
use Rattle.type_check.specs.declared.typing.TypeFault.{TypeFault}
use Rattle.type_check.specs.declared.typing.TypeFault.TheVariants.{NoTyping, Ambiguous, Ability, Acquires, Unassigned as unassigned_at, Undropped as undropped_at, NoMemory}

-- the typing rules are kept, and all types are determined
pub record IsDetermined (program : Program) : Type 0 where
  pub typed : BreaksNone (BreaksTyping program)
  pub settled : BreaksNone (IsUnsettled program)

-- and the rules on abilities and on `acquires` are kept
pub record IsWellTyped (program : Program) : Type 0 where
  pub determined : IsDetermined program
  pub able : BreaksNone (BreaksAbility program)
  pub listed : BreaksNone (BreaksAcquires program)

-- and those on locals
pub record IsWellFormed (program : Program) : Type 0 where
  pub typed : IsWellTyped program
  pub assigned : BreaksNone (BreaksLocals program Unassigned)
  pub dropped : BreaksNone (BreaksLocals program Undropped)

-- the span is the first one that breaks the rule, and the rules before it are kept everywhere
abbrev pub FaultSays : Program → TypeFault → Type 0
FaultSays program (NoTyping span) = IsFirst (BreaksTyping program) span
FaultSays program (Ambiguous span) = BreaksNone (BreaksTyping program) × IsFirst (IsUnsettled program) span
FaultSays program (Ability span) = IsDetermined program × IsFirst (BreaksAbility program) span
FaultSays program (Acquires span) = IsDetermined program × BreaksNone (BreaksAbility program) × IsFirst (BreaksAcquires program) span
FaultSays program (unassigned_at span) = IsWellTyped program × IsFirst (BreaksLocals program Unassigned) span
FaultSays program (undropped_at span) = IsWellTyped program × BreaksNone (BreaksLocals program Unassigned) × IsFirst (BreaksLocals program Undropped) span
FaultSays program NoMemory = Unit {0}
